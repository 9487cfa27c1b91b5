-- The table stays sound, and there is room for the description.
use Rattle.std.proofs.Common.{◌≡◌, ℕ, ◌<◌, ◌≤◌, length, true, Some, sym, ap, subst, ◌∙◌}
use Rattle.file_table.specs.declared.state.Target.TheVariants as targets
use Rattle.file_table.specs.Descriptors.{lone_of}
use Rattle.file_table.specs.Opening.{vacant}
use Rattle.file_table.specs.State.{Files, at, is_open_by}
use Rattle.file_table.proofs.CountFacts.{vacant_behind}
use Rattle.file_table.proofs.SoundFacts.{vacant_low, end_opened}
use Rattle.file_table.proofs.files.Files.open_end.Goals as goal

pub put-requires-clause-behind : goal.put-requires-clause-behind
put-requires-clause-behind c =
    let e : c.vacant-number.result ≡ vacant c.self.inside.descriptions.items = c.vacant-number.ensures ∙ ap vacant c.as_slice.ensures.value in
    subst (λ (n : ℕ). n ≤ length c.self.inside.descriptions.items) (sym e) (vacant_behind c.self.inside.descriptions.items)

pub put-requires-clause-low : goal.put-requires-clause-low
put-requires-clause-low c =
    let e : c.vacant-number.result ≡ vacant c.self.inside.descriptions.items = c.vacant-number.ensures ∙ ap vacant c.as_slice.ensures.value in
    subst (λ (n : ℕ). n < 256) (sym e) (vacant_low _ c.args.fd c.self.invariant.0 c.requires.low (ap (λ (f : Files). at f.descriptors c.args.fd) c.self.view_is ∙ c.requires.free))

pub invariant_of-self : goal.invariant_of-self
invariant_of-self c =
    let e : c.vacant-number.result ≡ vacant c.self.inside.descriptions.items = c.vacant-number.ensures ∙ ap vacant c.as_slice.ensures.value in (
      rw (c.put.ensures.items, c.target_description.ensures, e) (end_opened _ c.args.fd c.args.pipe c.args.flags c.args.writes c.has.result c.self.invariant.0 c.requires.low (ap (λ (f : Files). at f.descriptors c.args.fd) c.self.view_is ∙ c.requires.free)
          (subst (λ (f : Files). is_open_by c.args.writes (at f.pipes c.args.pipe) ≡ true) (sym c.self.view_is) c.requires.there)
          (subst (λ (f : Files). (number : ℕ) → lone_of (at f.descriptions number) ≡ Some (targets.Pipe c.args.pipe c.args.writes) → ⊥) (sym c.self.view_is) c.requires.fresh)),
      c.put.ensures.room,
    )
