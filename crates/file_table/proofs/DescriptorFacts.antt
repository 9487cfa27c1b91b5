-- Places that are free, and descriptors that name a description.
use Rattle.std.proofs.Common.{◌≡◌, ℕ, zero, suc, ◌+◌, ◌-◌, ◌<◌, ◌≤◌, ◌&&◌, not, Bool, true, false, nat_le, is_some, if◌then◌else◌, List, [], ◌∷◌, length, drop, set, Option, Some, None, refl, sym, ap, ◌∙◌, arith}
use Rattle.std.specs.Prelude.{IfSome}
use Rattle.std.proofs.lemmas.Bool.{leb-true}
use Rattle.std.proofs.lemmas.List.{at_drop_more, drop_all}
use Rattle.file_table.specs.declared.state.Description.{Description}
use Rattle.file_table.specs.declared.state.Target.{Target}
use Rattle.file_table.specs.declared.state.Target.TheVariants as targets
use Rattle.file_table.specs.Descriptors.{free_from, free_place, is_named, without_description, let_go, swept}
use Rattle.file_table.specs.State.{Files, at}

-- one place is looked at
pub free_more : {A : Type 0} → (least number : ℕ) (places : List (Option A)) → number < length places → free_from least number (drop number places) ≡ (if nat_le least number && not (is_some (at places number)) then Some number else free_from least (number + 1) (drop (number + 1) places))
unfolding free_from
free_more least number places low = at_drop_more (free_from least number) places number None low

pub free_past : {A : Type 0} → (least number : ℕ) (places : List (Option A)) → length places ≤ number → free_from least number (drop number places) ≡ None
unfolding free_from
free_past least number places past = ap (free_from least number) (drop_all number places past)

-- a place that is found is free
abbrev IsFree : {A : Type 0} → ℕ → List (Option A) → ℕ → Type 0
IsFree number places k = (number ≤ k) × (k < number + length places) × (at places (k - number) ≡ None)

free_here : {A : Type 0} → (a : Bool) (place : Option A) → (a && not (is_some place)) ≡ true → place ≡ None
free_here a None free = refl
free_here true (Some x) free = absurd (let f : ⊥ = cc in f)
free_here false (Some x) free = absurd (let f : ⊥ = cc in f)

free_first : {A : Type 0} → (number : ℕ) (place : Option A) (places : List (Option A)) (b : Bool) (rest : Option ℕ) → (b ≡ true → place ≡ None) → IfSome rest (IsFree (number + 1) places) → IfSome (if b then Some number else rest) (IsFree number (place ∷ places))
free_first number place places true rest free more = let z : number - number ≡ zero = omega arith in (omega arith, omega arith, ap (at (place ∷ places)) z ∙ free refl)
free_first number place places false None free more = tt
free_first number place places false (Some k) free (low, high, none) =
    let z : k - number ≡ suc (k - (number + 1)) = omega arith in
    (omega arith, omega arith, ap (at (place ∷ places)) z ∙ none)

free_is : {A : Type 0} → (least number : ℕ) (places : List (Option A)) → IfSome (free_from least number places) (IsFree number places)
unfolding free_from
free_is least number [] = tt
free_is least number (place ∷ places) =
    free_first number place places (nat_le least number && not (is_some place)) (free_from least (number + 1) places) (free_here (nat_le least number) place) (free_is least (number + 1) places)

free_by : {A : Type 0} → (places : List (Option A)) (o : Option ℕ) → IfSome o (IsFree 0 places) → IfSome o (λ k. (k < length places) × (at places k ≡ None))
free_by places None free = tt
free_by places (Some k) (low, high, none) = let z : k - 0 ≡ k = omega arith in (omega arith, sym (ap (at places) z) ∙ none)

pub place_is_free : {A : Type 0} → (least : ℕ) (places : List (Option A)) → IfSome (free_place least places) (λ k. (k < length places) × (at places k ≡ None))
place_is_free least places = free_by places (free_place least places) (free_is least 0 places)

-- and none below the least
least_first : (least number : ℕ) (free : Bool) (rest : Option ℕ) → IfSome rest (λ k. least ≤ k) → IfSome (if nat_le least number && free then Some number else rest) (λ k. least ≤ k)
least_first least number free rest more = by_test (nat_le least number) free refl
  where
    by_test : (a b : Bool) → nat_le least number ≡ a → IfSome (if a && b then Some number else rest) (λ k. least ≤ k)
    by_test false b same = more
    by_test true false same = more
    by_test true true same = leb-true least number same

least_is : {A : Type 0} → (least number : ℕ) (places : List (Option A)) → IfSome (free_from least number places) (λ k. least ≤ k)
unfolding free_from
least_is least number [] = tt
least_is least number (place ∷ places) = least_first least number (not (is_some place)) (free_from least (number + 1) places) (least_is least (number + 1) places)

pub place_is_least : {A : Type 0} → (least : ℕ) (places : List (Option A)) → IfSome (free_place least places) (λ k. least ≤ k)
place_is_least least places = least_is least 0 places

-- what goes with a description, and that descriptors stay where they are
go_descriptors : (target : Target) (files : Files) → (let_go target files).descriptors ≡ files.descriptors
go_descriptors (targets.Node inode) files = refl
go_descriptors (targets.Device device) files = refl
go_descriptors (targets.Pipe pipe writes) files = refl

without_descriptors : (number : ℕ) (o : Option Description) (files : Files) → (without_description number o files).descriptors ≡ files.descriptors
without_descriptors number None files = refl
without_descriptors number (Some gone) files = go_descriptors gone.target (record { tree = files.tree; descriptors = files.descriptors; descriptions = set files.descriptions number None; devices = files.devices; pipes = files.pipes })

pub swept_descriptors : (number : ℕ) (files : Files) → (swept number files).descriptors ≡ files.descriptors
swept_descriptors number files = by_named (is_named number files.descriptors)
  where
    by_named : (b : Bool) → (if b then files else without_description number (at files.descriptions number) files).descriptors ≡ files.descriptors
    by_named true = refl
    by_named false = without_descriptors number (at files.descriptions number) files
