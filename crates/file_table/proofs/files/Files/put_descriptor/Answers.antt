-- The table stays sound.
use Rattle.std.proofs.Common.{◌≡◌, IsSome, sym, subst}
use Rattle.std.specs.Prelude.{IfSome}
use Rattle.file_table.specs.State.{Files, at}
use Rattle.file_table.proofs.SoundFacts.{descriptor_put}
use Rattle.file_table.proofs.files.Files.put_descriptor.Goals as goal

pub invariant_of-self : goal.invariant_of-self
invariant_of-self c = (
  descriptor_put _ c.args.fd c.args.descriptor c.self.invariant.0 c.requires.low
      (subst (λ (f : Files). IsSome (at f.descriptions c.args.descriptor.description)) (sym c.self.view_is) c.requires.there)
      (subst (λ (f : Files). IfSome (at f.descriptors c.args.fd) (λ old. old.description ≡ c.args.descriptor.description)) (sym c.self.view_is) c.requires.fits),
  c.self.invariant.1,
)
