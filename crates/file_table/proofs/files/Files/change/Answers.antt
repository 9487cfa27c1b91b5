-- The table stays sound.
use Rattle.std.proofs.Common.{ap, ◌∙◌, refl}
use Rattle.file_table.specs.State.{Files, at}
use Rattle.file_table.proofs.SoundFacts.{description_changed}
use Rattle.file_table.proofs.files.Files.change.Goals as goal

pub invariant_of-self : goal.invariant_of-self
invariant_of-self c = (
  description_changed _ c.args.number c.args.old _ c.self.invariant.0 (ap (λ (f : Files). at f.descriptions c.args.number) c.self.view_is ∙ c.requires) refl,
  c.self.invariant.1,
)
