-- Pipes: their flags, and the numbers that none has.
use Rattle.std.proofs.Common.{◌≡◌, ℕ, ◌^◌, ◌<◌, false, true, Some, inl, inr, sym, ap, ◌∙◌, arith}
use Rattle.std.specs.Prelude.{bit_or}
use Rattle.std.proofs.lemmas.Bool.{cases_eq}
use Rattle.std.proofs.lemmas.Nat.{le_or_l}
use Rattle.file_table.specs.declared.state.Target.TheVariants as targets
use Rattle.file_table.specs.Descriptors.{lone_of}
use Rattle.file_table.specs.Opening.{target_description, vacant, with_target}
use Rattle.file_table.specs.State.{Files, at, put}
use Rattle.file_table.proofs.CountFacts.{vacant_behind}
use Rattle.file_table.proofs.PlaceFacts.{put_other, put_same}

-- flags that a pipe may have are small
pub named_low : (flags : ℕ) → bit_or flags 0x80800 ≡ 0x80800 → flags < 2 ^ 63
named_low flags same = let h = le_or_l flags 0x80800 in omega arith

-- where the reading end is opened the writing one is still free
pub other_fresh : (files : Files) (fd pipe flags : ℕ) → ((k : ℕ) → lone_of (at files.descriptions k) ≡ Some (targets.Pipe pipe true) → ⊥) → (k : ℕ) → lone_of (at (with_target fd (targets.Pipe pipe false) flags files).descriptions k) ≡ Some (targets.Pipe pipe true) → ⊥
other_fresh files fd pipe flags fresh k same = elim (cases_eq k (vacant files.descriptions)) [
  | inl e ↦
      let p : Some (targets.Pipe pipe false) ≡ Some (targets.Pipe pipe true) =
      sym (ap lone_of (put_same files.descriptions (vacant files.descriptions) (target_description (targets.Pipe pipe false) flags) (vacant_behind files.descriptions)))
      ∙ (ap (λ (n : ℕ). lone_of (at (put (vacant files.descriptions) (target_description (targets.Pipe pipe false) flags) files.descriptions) n)) (sym e) ∙ same) in
      let q : false ≡ true = cc in
      let f : ⊥ = cc in f
  | inr apart ↦ fresh k (ap lone_of (sym (put_other files.descriptions (vacant files.descriptions) k (target_description (targets.Pipe pipe false) flags) (vacant_behind files.descriptions) apart)) ∙ same)
]
