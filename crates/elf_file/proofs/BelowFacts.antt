-- Whether a test holds of a number below a bound, and the least such number.
use Rattle.std.proofs.Common.{◌≡◌, ◌<◌, ◌+◌, ◌||◌, ℕ, zero, suc, Option, Some, None, Bool, true, false, refl, cond, sym, ap, subst, ◌∙◌, inl, inr, add-one, arith}
use Rattle.elf_file.proofs.Faults.{at_or_below}
use Rattle.elf_file.specs.Below.{any_below, first_below, or_else}

or_false : (a b : Bool) → a ≡ false → b ≡ false → (a || b) ≡ false
or_false true b one other = one
or_false false b one other = other

or_true : (a b : Bool) → a ≡ true → (a || b) ≡ true
or_true true b one = refl
or_true false b one = cc

or_true_last : (a b : Bool) → b ≡ true → (a || b) ≡ true
or_true_last true b other = refl
or_true_last false b other = other

pub any_below_none : (test : ℕ → Bool) → any_below test 0 ≡ false
unfolding any_below
any_below_none test = refl

pub any_below_step : (test : ℕ → Bool) (i : ℕ) → any_below test i ≡ false → test i ≡ false → any_below test (i + 1) ≡ false
unfolding any_below
any_below_step test i front here = rw add-one (or_false (any_below test i) (test i) front here)

pub any_below_found : (test : ℕ → Bool) (n i : ℕ) → i < n → test i ≡ true → any_below test n ≡ true
unfolding any_below
any_below_found test zero i inside here = absurd (omega arith)
any_below_found test (suc n) i inside here =
    elim (at_or_below i n inside) [
      | inl same ↦ or_true_last (any_below test n) (test n) (subst (λ (k : ℕ). test k ≡ true) same here)
      | inr less ↦ or_true (any_below test n) (test n) (any_below_found test n i less here)
    ]

pub first_below_none : (test : ℕ → Bool) → first_below test 0 ≡ None
unfolding first_below
first_below_none test = refl

step_none : (first : Option ℕ) (test : Bool) (n : ℕ) → first ≡ None → test ≡ false → or_else first (cond test (Some n) None) ≡ None
step_none None true n none denied = cc
step_none None false n none denied = refl
step_none (Some m) test n none denied = cc

pub first_below_step : (test : ℕ → Bool) (i : ℕ) → first_below test i ≡ None → test i ≡ false → first_below test (i + 1) ≡ None
unfolding first_below
first_below_step test i front here = rw add-one (step_none (first_below test i) (test i) i front here)

step_found : (first : Option ℕ) (test : Bool) (n : ℕ) → first ≡ None → test ≡ true → or_else first (cond test (Some n) None) ≡ Some n
step_found None true n none given = refl
step_found None false n none given = cc
step_found (Some m) test n none given = cc

keep_found : (first : Option ℕ) (other : Option ℕ) (i : ℕ) → first ≡ Some i → or_else first other ≡ Some i
keep_found None other i some = cc
keep_found (Some m) other i some = some

pub first_below_found : (test : ℕ → Bool) (n i : ℕ) → i < n → first_below test i ≡ None → test i ≡ true → first_below test n ≡ Some i
unfolding first_below
first_below_found test zero i inside front here = absurd (omega arith)
first_below_found test (suc n) i inside front here =
    elim (at_or_below i n inside) [
      | inl same ↦
          let front' : first_below test n ≡ None = subst (λ (k : ℕ). first_below test k ≡ None) same front in
          let here' : test n ≡ true = subst (λ (k : ℕ). test k ≡ true) same here in
          step_found (first_below test n) (test n) n front' here' ∙ ap Some (sym same)
      | inr less ↦ keep_found (first_below test n) (cond (test n) (Some n) None) i (first_below_found test n i less front here)
    ]
