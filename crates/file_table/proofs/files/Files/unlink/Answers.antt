-- The table stays sound.
use Rattle.file_table.proofs.CallFacts.{taken_sound}
use Rattle.file_table.proofs.files.Files.unlink.Goals as goal

pub invariant_of-self : goal.invariant_of-self
invariant_of-self c = (taken_sound c.unlink.result c.in-Ok.from c.args.path.now c.args.directory (record { tree = c.self.inside.tree; descriptors = c.self.inside.descriptors.items; descriptions = c.self.inside.descriptions.items; devices = c.self.inside.devices.items; pipes = c.self.inside.pipes.items }) c.unlink.new.self c.self.invariant.0 c.unlink.ensures.answers c.unlink.ensures.taken, c.self.invariant.1)
