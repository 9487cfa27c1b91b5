-- The table stays sound.
use Rattle.std.proofs.Common.{sym, subst, ◌+◌}
use Rattle.file_table.specs.Sound.{AreReady}
use Rattle.file_table.specs.State.{Files}
use Rattle.file_table.proofs.StartFacts.{stand_sound}
use Rattle.file_table.proofs.files.Files.stand.Goals as goal

pub invariant_of-self : goal.invariant_of-self
invariant_of-self c = (
  rw c.put.ensures.items (stand_sound _ c.args.device c.self.invariant.0 c.requires.low (subst (λ (f : Files). AreReady c.args.device (c.args.device + 1) f) (sym c.self.view_is) c.requires.ready)),
  c.put.ensures.room,
)
