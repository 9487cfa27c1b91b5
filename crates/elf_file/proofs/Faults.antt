-- The first refusal of one list of checks after another, and of the lists of the numbers below a bound.
use Rattle.std.proofs.Common.{◌≡◌, ◌<◌, ◌+◌, ◌⊎◌, ℕ, zero, suc, List, [], ◌∷◌, ◌++◌, Option, Some, None, Bool, true, false, refl, cond, sym, subst, ◌∙◌, inl, inr, add-one, eq-or-lt_of_le, arith}
use Rattle.elf_file.specs.declared.fault.ElfFault.{ElfFault}
use Rattle.elf_file.specs.Below.{below}
use Rattle.elf_file.specs.Checks.{Check, first_fault}

passes_by : (holds : Bool) (fault : ElfFault) (xs both ys : Option ElfFault) → (xs ≡ None → both ≡ ys) → cond holds xs (Some fault) ≡ None → cond holds both (Some fault) ≡ ys
passes_by true fault xs both ys rest none = rest none
passes_by false fault xs both ys rest none = cc

fails_by : (holds : Bool) (fault : ElfFault) (xs both : Option ElfFault) (first : ElfFault) → (xs ≡ Some first → both ≡ Some first) → cond holds xs (Some fault) ≡ Some first → cond holds both (Some fault) ≡ Some first
fails_by true fault xs both first rest some = rest some
fails_by false fault xs both first rest some = some

front_by : (holds : Bool) (fault : ElfFault) (xs both : Option ElfFault) → (both ≡ None → xs ≡ None) → cond holds both (Some fault) ≡ None → cond holds xs (Some fault) ≡ None
front_by true fault xs both rest none = rest none
front_by false fault xs both rest none = none

pub first_fault_passes : (xs ys : List Check) → first_fault xs ≡ None → first_fault (xs ++ ys) ≡ first_fault ys
unfolding first_fault
first_fault_passes [] ys none = refl
first_fault_passes (x ∷ xs) ys none = passes_by x.holds x.otherwise (first_fault xs) (first_fault (xs ++ ys)) (first_fault ys) (first_fault_passes xs ys) none

pub first_fault_fails : (xs ys : List Check) (fault : ElfFault) → first_fault xs ≡ Some fault → first_fault (xs ++ ys) ≡ Some fault
unfolding first_fault
first_fault_fails [] ys fault some = cc
first_fault_fails (x ∷ xs) ys fault some = fails_by x.holds x.otherwise (first_fault xs) (first_fault (xs ++ ys)) fault (first_fault_fails xs ys fault) some

-- where both lists pass, the front one does
pub first_fault_front : (xs ys : List Check) → first_fault (xs ++ ys) ≡ None → first_fault xs ≡ None
unfolding first_fault
first_fault_front [] ys none = refl
first_fault_front (x ∷ xs) ys none = front_by x.holds x.otherwise (first_fault xs) (first_fault (xs ++ ys)) (first_fault_front xs ys) none

pub first_fault_back : (xs ys : List Check) → first_fault (xs ++ ys) ≡ None → first_fault ys ≡ None
first_fault_back xs ys none = sym (first_fault_passes xs ys (first_fault_front xs ys none)) ∙ none

-- ---- the lists of the numbers below a bound

pub at_or_below : (i n : ℕ) → i < suc n → (i ≡ n) ⊎ (i < n)
at_or_below i n inside = eq-or-lt_of_le (omega arith)

pub below_none : (f : ℕ → List Check) → first_fault (below f 0) ≡ None
unfolding first_fault below
below_none f = refl

pub below_passes : (f : ℕ → List Check) (i : ℕ) → first_fault (below f i) ≡ None → first_fault (f i) ≡ None → first_fault (below f (i + 1)) ≡ None
unfolding below
below_passes f i front here = rw add-one (first_fault_passes (below f i) (f i) front ∙ here)

pub below_fails : (f : ℕ → List Check) (n i : ℕ) (fault : ElfFault) → i < n → first_fault (below f i) ≡ None → first_fault (f i) ≡ Some fault → first_fault (below f n) ≡ Some fault
unfolding below
below_fails f zero i fault inside front here = absurd (omega arith)
below_fails f (suc n) i fault inside front here =
    elim (at_or_below i n inside) [
      | inl same ↦
          let front' : first_fault (below f n) ≡ None = subst (λ (k : ℕ). first_fault (below f k) ≡ None) same front in
          let here' : first_fault (f n) ≡ Some fault = subst (λ (k : ℕ). first_fault (f k) ≡ Some fault) same here in
          first_fault_passes (below f n) (f n) front' ∙ here'
      | inr less ↦ first_fault_fails (below f n) (f n) fault (below_fails f n i fault less front here)
    ]

pub below_each : (f : ℕ → List Check) (n i : ℕ) → i < n → first_fault (below f n) ≡ None → first_fault (f i) ≡ None
unfolding below
below_each f zero i inside none = absurd (omega arith)
below_each f (suc n) i inside none =
    elim (at_or_below i n inside) [
      | inl same ↦ subst (λ (k : ℕ). first_fault (f k) ≡ None) (sym same) (first_fault_back (below f n) (f n) none)
      | inr less ↦ below_each f n i less (first_fault_front (below f n) (f n) none)
    ]
