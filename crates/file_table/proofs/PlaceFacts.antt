-- Places, and the descriptors that name a description.
use Rattle.std.proofs.Common.{◌≡◌, ◌≢◌, ℕ, zero, suc, ◌+◌, ◌<◌, ◌≤◌, nat_lt, ◌||◌, Bool, true, false, if◌then◌else◌, List, [], ◌∷◌, ◌++◌, length, set, Option, Some, None, IsSome, inl, inr, refl, sym, ap, ◌∙◌, arith}
use Rattle.std.specs.Prelude.{sum_by}
use Rattle.std.proofs.lemmas.Bool.{cases_eq, ltb-true, ltb-false, eqb-true, eq-eqb}
use Rattle.std.proofs.lemmas.List.{get_or-set_same, get_or-set_other, get_or_append_left, get_or_push, get_or_past, length_push}
use Rattle.std.proofs.lemmas.List.Sums.{sum_by-set, sum_by_push}
use Rattle.file_table.specs.declared.state.Descriptor.{Descriptor}
use Rattle.file_table.specs.Descriptors.{names, is_named}
use Rattle.file_table.specs.State.{at, put}

-- ---- places

pub at_same : {A : Type 0} → (places : List (Option A)) (k : ℕ) (o : Option A) → k < length places → at (set places k o) k ≡ o
at_same places k o low = get_or-set_same places k o None low

pub at_other : {A : Type 0} → (places : List (Option A)) (k n : ℕ) (o : Option A) → n ≢ k → at (set places k o) n ≡ at places n
at_other places k n o other = get_or-set_other places k n o None other

pub at_within : {A : Type 0} → (places : List (Option A)) (k : ℕ) (x : A) → at places k ≡ Some x → k < length places
at_within [] k x same = absurd (let f : ⊥ = cc in f)
at_within (p ∷ ps) zero x same = omega arith
at_within (p ∷ ps) (suc k) x same = let h : k < length ps = at_within ps k x same in omega arith

pub some_from : {A : Type 0} → (o : Option A) (x : A) → o ≡ Some x → IsSome o
some_from None x same = absurd (let f : ⊥ = cc in f)
some_from (Some y) x same = refl

pub some_is : {A : Type 0} → (o : Option A) → IsSome o → (x : A) × (o ≡ Some x)
some_is None some = absurd (let f : ⊥ = cc in f)
some_is (Some x) some = (x, refl)

-- something is put at a place
pub put_same : {A : Type 0} → (places : List (Option A)) (k : ℕ) (x : A) → k ≤ length places → at (put k x places) k ≡ Some x
put_same places k x low = by_test (nat_lt k (length places)) refl
  where
    by_test : (b : Bool) → nat_lt k (length places) ≡ b → at (if b then set places k (Some x) else places ++ Some x ∷ []) k ≡ Some x
    by_test true same = at_same places k (Some x) (ltb-true k (length places) same)
    by_test false same = let h : length places ≤ k = ltb-false k (length places) same in get_or_push places (Some x) None k (omega arith)

pub put_other : {A : Type 0} → (places : List (Option A)) (k n : ℕ) (x : A) → k ≤ length places → n ≢ k → at (put k x places) n ≡ at places n
put_other places k n x low other = by_test (nat_lt k (length places)) refl
  where
    beyond : length places ≤ k → length places ≤ n → at (places ++ Some x ∷ []) n ≡ at places n
    beyond high past =
        let one : length (places ++ Some x ∷ []) ≡ length places + 1 = length_push places (Some x) in
        get_or_past (places ++ Some x ∷ []) n None (omega arith) ∙ sym (get_or_past places n None past)

    before : n < length places → at (places ++ Some x ∷ []) n ≡ at places n
    before low = get_or_append_left places (Some x ∷ []) None n low

    at_end : (b : Bool) → nat_lt n (length places) ≡ b → length places ≤ k → at (places ++ Some x ∷ []) n ≡ at places n
    at_end true same high = before (ltb-true n (length places) same)
    at_end false same high = beyond high (ltb-false n (length places) same)

    by_test : (b : Bool) → nat_lt k (length places) ≡ b → at (if b then set places k (Some x) else places ++ Some x ∷ []) n ≡ at places n
    by_test true same = at_other places k n (Some x) other
    by_test false same = at_end (nat_lt n (length places)) refl (ltb-false k (length places) same)

-- a sum over places gains what is put at a free one
pub put_sum : {A : Type 0} → (f : Option A → ℕ) (places : List (Option A)) (k : ℕ) (x : A) → f None ≡ 0 → at places k ≡ None → sum_by f (put k x places) ≡ sum_by f places + f (Some x)
put_sum f places k x none free = by_test (nat_lt k (length places)) refl
  where
    by_test : (b : Bool) → nat_lt k (length places) ≡ b → sum_by f (if b then set places k (Some x) else places ++ Some x ∷ []) ≡ sum_by f places + f (Some x)
    by_test true same =
        let s = sum_by-set f places k (Some x) None (ltb-true k (length places) same) in
        let z : f (at places k) ≡ 0 = ap f free ∙ none in
        omega arith
    by_test false same = sum_by_push f places (Some x)

-- ---- descriptors that name a description

pub names_one : (o : Option Descriptor) (a b : ℕ) → names a o ≡ true → names b o ≡ true → a ≡ b
names_one None a b first second = absurd (let f : ⊥ = cc in f)
names_one (Some d) a b first second = sym (eqb-true d.description a first) ∙ eqb-true d.description b second

pub names_self : (o : Option Descriptor) (d : Descriptor) → o ≡ Some d → names d.description o ≡ true
names_self o d same = ap (names d.description) same ∙ eq-eqb d.description d.description refl

or_right : (a b : Bool) → b ≡ true → (a || b) ≡ true
or_right true b same = refl
or_right false b same = same

pub named_at : (number k : ℕ) (ds : List (Option Descriptor)) → names number (at ds k) ≡ true → is_named number ds ≡ true
named_at number k [] same = absurd (let f : ⊥ = cc in f)
named_at number zero (d ∷ ds) same = ap (λ (b : Bool). b || is_named number ds) same
named_at number (suc k) (d ∷ ds) same = or_right (names number d) (is_named number ds) (named_at number k ds same)

named_first : (number : ℕ) (d : Option Descriptor) (ds : List (Option Descriptor)) (b : Bool) → names number d ≡ b → (b || is_named number ds) ≡ true → (is_named number ds ≡ true → (k : ℕ) × (names number (at ds k) ≡ true))
    → (k : ℕ) × (names number (at (d ∷ ds) k) ≡ true)
named_first number d ds true first any rest = (zero, first)
named_first number d ds false first any rest = let r : (k : ℕ) × (names number (at ds k) ≡ true) = rest any in (suc r.0, r.1)

pub named_there : (number : ℕ) (ds : List (Option Descriptor)) → is_named number ds ≡ true → (k : ℕ) × (names number (at ds k) ≡ true)
named_there number [] same = absurd (let f : ⊥ = cc in f)
named_there number (d ∷ ds) same = named_first number d ds (names number d) refl same (λ rest. named_there number ds rest)

-- what is named stays named where the place that is written named something else, or names it still
pub named_set : (number fd : ℕ) (o : Option Descriptor) (ds : List (Option Descriptor)) → fd < length ds → (names number (at ds fd) ≡ true → names number o ≡ true) → is_named number ds ≡ true → is_named number (set ds fd o) ≡ true
named_set number fd o ds low still named =
    let w : (k : ℕ) × (names number (at ds k) ≡ true) = named_there number ds named in
    elim (cases_eq w.0 fd) [
      | inl same ↦ named_at number fd (set ds fd o) (ap (names number) (at_same ds fd o low) ∙ still (sym (ap (λ (k : ℕ). names number (at ds k)) same) ∙ w.1))
      | inr other ↦ named_at number w.0 (set ds fd o) (ap (names number) (at_other ds fd w.0 o other) ∙ w.1)
    ]
