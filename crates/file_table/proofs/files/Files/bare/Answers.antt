-- Nothing is open, and there is room for the descriptions.
use Rattle.std.proofs.Common.{refl}
use Rattle.file_table.proofs.StartFacts.{bare_sound}
use Rattle.file_table.proofs.files.Files.bare.Goals as goal

pub invariant_of-result : goal.invariant_of-result
invariant_of-result c =
    let sound = bare_sound c.args.tree 256 c.args.devices refl c.root.ensures.sound c.requires in
    (rw (c.in_ok-descriptors.ensures, c.in_ok-descriptions.ensures.items, c.in_ok-devices.ensures, c.new.ensures.items) sound, c.in_ok-descriptions.ensures.capacity)
