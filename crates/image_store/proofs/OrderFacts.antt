-- Lists that rise by a text of each item: by neighbours, by places, and what a binary search finds in them.
use Rattle.std.proofs.Common.{◌≡◌, ℕ, zero, suc, ◌+◌, ◌-◌, ◌<◌, false, List, [], ◌∷◌, map, length, get_or, Ok, Err, refl, sym, ap, ◌∙◌, subst, inl, inr, arith}
use Rattle.std.specs.List.{AllAdjacentBelow, AllByRecursion}
use Rattle.std.specs.List.Sorted.{IsStrictlySortedBy, IsSortedBy, IsBinarySearchResult}
use Rattle.std.specs.Ordering.{nat_cmp, is_lt}
use Rattle.std.specs.Cmp.Lexicographic.{slice_cmp}
use Rattle.std.specs.declared.cmp.Ordering.{Ordering}
use Rattle.std.specs.declared.cmp.Ordering.TheVariants.{Less, Equal, Greater}
use Rattle.std.proofs.lemmas.Bool.{cases_order}
use Rattle.std.proofs.lemmas.Cmp.{nat_list_cmp_total, tied_itself}
use Rattle.std.proofs.lemmas.List.{get_or-map, length-map, get_or_default}
use Rattle.std.proofs.lemmas.List.Elements.{All-from_recursion}
use Rattle.std.proofs.lemmas.List.Sorted.{searchable_from_sorted}
use Rattle.std.proofs.lemmas.Map.Lookups.{exact_bytes}

abbrev cmp : List ℕ → List ℕ → Ordering
cmp = slice_cmp nat_cmp

weaker : {X : Type 0} (P Q : X → Type 0) → ((x : X) → P x → Q x) → (xs : List X) → AllByRecursion P xs → AllByRecursion Q xs
weaker P Q go [] all = tt
weaker P Q go (x ∷ xs) all = (go x all.0, weaker P Q go xs all.1)

next : {X : Type 0} (R : X → X → Type 0) (x : X) (xs : List X) → AllAdjacentBelow R (x ∷ xs) (length (x ∷ xs)) → AllAdjacentBelow R xs (length xs)
next R x xs all k d within =
    let shift : suc k + 1 ≡ suc (k + 1) = omega arith in
    subst (λ (n : ℕ). R (get_or (x ∷ xs) (suc k) d) (get_or (x ∷ xs) n d)) shift (all (suc k) d (omega arith))

-- the first item is below all others
first_below : {X : Type 0} (key : X → List ℕ) (x : X) (xs : List X)
    → AllAdjacentBelow (λ a b. cmp (key a) (key b) ≡ Less) (x ∷ xs) (length (x ∷ xs)) → AllByRecursion (λ y. cmp (key x) y ≡ Less) (map key xs)
first_below key x [] all = tt
first_below key x (y ∷ xs) all =
    let here : cmp (key x) (key y) ≡ Less = all 0 x (omega arith) in
    let rest = first_below key y xs (next (λ a b. cmp (key a) (key b) ≡ Less) x (y ∷ xs) all) in
    (here, weaker (λ z. cmp (key y) z ≡ Less) (λ z. cmp (key x) z ≡ Less) (λ z less. nat_list_cmp_total.trans (key x) (key y) z here less) (map key xs) rest)

pub rises_from_neighbours : {X : Type 0} (key : X → List ℕ) (xs : List X)
    → AllAdjacentBelow (λ a b. cmp (key a) (key b) ≡ Less) xs (length xs) → IsStrictlySortedBy cmp (map key xs)
unfolding IsStrictlySortedBy
rises_from_neighbours key [] all = tt
rises_from_neighbours key (x ∷ xs) all =
    (first_below key x xs all, rises_from_neighbours key xs (next (λ a b. cmp (key a) (key b) ≡ Less) x xs all))

pub below_at : {X : Type 0} (key : X → List ℕ) (xs : List X) (i j : ℕ) (d : X) → IsStrictlySortedBy cmp (map key xs)
    → i < j → j < length xs → cmp (key (get_or xs i d)) (key (get_or xs j d)) ≡ Less
unfolding IsStrictlySortedBy
below_at key [] i j d rises low within = absurd (omega arith)
below_at key (x ∷ xs) zero zero d rises low within = absurd (omega arith)
below_at key (x ∷ xs) zero (suc j) d rises low within =
    let in' : j < length xs = omega arith in
    let long : j < length (map key xs) = rw (length-map xs key) in' in
    let less = All-from_recursion (λ y. cmp (key x) y ≡ Less) (map key xs) rises.0 j (key d) long in
    rw (get_or-map key xs j d (key d) in') at less
below_at key (x ∷ xs) (suc i) zero d rises low within = absurd (omega arith)
below_at key (x ∷ xs) (suc i) (suc j) d rises low within = below_at key xs i j d rises.1 (omega arith) (omega arith)

pub neighbours_rise : {X : Type 0} (key : X → List ℕ) (xs : List X) → IsStrictlySortedBy cmp (map key xs)
    → AllAdjacentBelow (λ a b. cmp (key a) (key b) ≡ Less) xs (length xs)
neighbours_rise key xs rises k d within = below_at key xs k (k + 1) d rises (omega arith) within

less_once : (one other : List ℕ) → cmp one other ≡ Less → one ≡ other → ⊥
less_once one other less same =
    let tied : cmp one other ≡ Equal = rw same (tied_itself nat_list_cmp_total other) in
    let f : ⊥ = cc in f

reversed : (one other : List ℕ) → cmp one other ≡ Less → is_lt (cmp other one) ≡ false
reversed one other less = rw (nat_list_cmp_total.antisymm other one, less) refl

pub sorted : {X : Type 0} (key : X → List ℕ) (xs : List X) → IsStrictlySortedBy cmp (map key xs) → IsSortedBy (λ a b. is_lt (cmp (key a) (key b))) xs
sorted key xs rises k d low within = reversed (key (get_or xs k d)) (key (get_or xs (k + 1) d)) (below_at key xs k (k + 1) d rises (omega arith) within)

-- each text stands at one place
pub once : {X : Type 0} (key : X → List ℕ) (xs : List X) (i j : ℕ) (d : X) → IsStrictlySortedBy cmp (map key xs)
    → i < length xs → j < length xs → key (get_or xs i d) ≡ key (get_or xs j d) → i ≡ j
once key xs i j d rises low high same =
    elim (cases_order i j) [
      | inl equal ↦ equal
      | inr rest ↦ elim rest [
        | inl less ↦ absurd (less_once (key (get_or xs i d)) (key (get_or xs j d)) (below_at key xs i j d rises less high) same)
        | inr more ↦ absurd (less_once (key (get_or xs j d)) (key (get_or xs i d)) (below_at key xs j i d rises more low) (sym same))
      ]
    ]

-- the place that is found has the text
pub found_at : {X : Type 0} (key : X → List ℕ) (xs : List X) (text : List ℕ) (i : ℕ) (d : X)
    → IsBinarySearchResult (λ y. cmp (key y) text) xs (Ok i) → key (get_or xs i d) ≡ text
found_at key xs text i d found = exact_bytes (key (get_or xs i d)) text (found d)

above : (o : Ordering) → o ≡ Greater → o ≡ Equal → ⊥
above o more tied = let f : ⊥ = cc in f

below : (o : Ordering) → o ≡ Less → o ≡ Equal → ⊥
below o less tied = let f : ⊥ = cc in f

-- where none is found, no place has it
pub found_nowhere : {X : Type 0} (key : X → List ℕ) (xs : List X) (text : List ℕ) (i k : ℕ) (d : X) → IsStrictlySortedBy cmp (map key xs)
    → IsBinarySearchResult (λ y. cmp (key y) text) xs (Err i) → k < length xs → key (get_or xs k d) ≡ text → ⊥
found_nowhere key xs text i k d rises found within same =
    let parts = found (searchable_from_sorted nat_list_cmp_total key xs text (sorted key xs rises)) in
    let tied : cmp (key (get_or xs k d)) text ≡ Equal = rw same (tied_itself nat_list_cmp_total text) in
    elim (cases_order i k) [
      | inl equal ↦ above (cmp (key (get_or xs k d)) text) (parts.1 k d (omega arith) within) tied
      | inr rest ↦ elim rest [
        | inl low ↦ above (cmp (key (get_or xs k d)) text) (parts.1 k d (omega arith) within) tied
        | inr high ↦ below (cmp (key (get_or xs k d)) text) (parts.0 k d (omega arith) high) tied
      ]
    ]

-- two neighbours that don't rise
pub unsorted : {X : Type 0} (key : X → List ℕ) (xs : List X) (place : ℕ) (one other : X) → 0 < place → place < length xs
    → one ≡ get_or xs (place - 1) one → other ≡ get_or xs place other → (cmp (key one) (key other) ≡ Less → ⊥) → IsStrictlySortedBy cmp (map key xs) → ⊥
unsorted key xs place one other some within first second never rises =
    let less = below_at key xs (place - 1) place other rises (omega arith) within in
    let front : key one ≡ key (get_or xs (place - 1) other) = ap key (first ∙ get_or_default xs (place - 1) one other (omega arith)) in
    let behind : key other ≡ key (get_or xs place other) = ap key second in
    never (joined (key one) (key (get_or xs (place - 1) other)) (key other) (key (get_or xs place other)) front behind less)
  where
    joined : (a b c d : List ℕ) → a ≡ b → c ≡ d → cmp b d ≡ Less → cmp a c ≡ Less
    joined a b c d same equal less = cc
