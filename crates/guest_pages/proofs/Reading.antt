-- What stands at an address of the ranges that are made from cells: the cell.
use Rattle.std.proofs.Common.{◌≡◌, ◌≢◌, ◌⊎◌, ℕ, zero, suc, ◌+◌, ◌-◌, ◌^◌, ◌<◌, ◌≤◌, Bool, true, false, ◌&&◌, ◌==◌, if◌then◌else◌, List, [], ◌∷◌, get_or, Option, Some, None, inl, inr, refl, sym, ap, subst, ◌∙◌, arith}
use Rattle.std.proofs.lemmas.Bool.{cases_lt, cases_eq}
use Rattle.std.proofs.lemmas.Grind.{get_or_tail}
use Rattle.std.proofs.lemmas.Bool.Decides.{nat_tests}
use Rattle.guest_pages.specs.Cells.{Cell, cell, has_none, same_rights}
use Rattle.guest_pages.specs.Ranges.{Range, within, cell_at, stored, single, grown, with_cell, ranges_from, ranges_of}
use Rattle.guest_pages.proofs.RightsFacts.{within_inside, within_outside, both_left, both_right, same_rights_is}

-- a cell without rights holds 0
abbrev pub IsKept : Option Cell → Type 0
IsKept None = Unit {0}
IsKept (Some c) = cell c.rights c.byte ≡ c

later_byte : (none : Bool) (byte : ℕ) (bytes : List ℕ) (k : ℕ) → 0 < k → (if none then 0 else get_or (if none then [] else byte ∷ bytes) k 0) ≡ (if none then 0 else get_or bytes (k - 1) 0)
later_byte true byte bytes k some = refl
later_byte false byte bytes k some = get_or_tail byte bytes k 0 some

first_byte : (none : Bool) (byte : ℕ) (bytes : List ℕ) → (if none then 0 else get_or (if none then [] else byte ∷ bytes) 0 0) ≡ (if none then 0 else byte)
first_byte true byte bytes = refl
first_byte false byte bytes = refl

-- the first cell of a range that begins with it
first_cell : (c : Cell) (bytes : List ℕ) (place : ℕ) → place ≡ 0 → IsKept (Some c) → cell c.rights (get_or (stored c bytes) place 0) ≡ c
first_cell c bytes place first kept =
    rw first (ap (λ (byte : ℕ). let d : Cell = record { rights = c.rights; byte = byte } in d) (first_byte (has_none c.rights) c.byte bytes) ∙ kept)

-- a later cell of it
later_cell : (c : Cell) (bytes : List ℕ) (place : ℕ) → 0 < place → cell c.rights (get_or (stored c bytes) place 0) ≡ cell c.rights (get_or bytes (place - 1) 0)
later_cell c bytes place some =
    ap (λ (byte : ℕ). let d : Cell = record { rights = c.rights; byte = byte } in d) (later_byte (has_none c.rights) c.byte bytes place some)

at_first : (address : ℕ) (r : Range) (rest : List Range) (b : ℕ) → r.start ≤ b → b < r.start + r.length → cell_at (r ∷ rest) b ≡ Some (cell r.rights (get_or r.bytes (b - r.start) 0))
unfolding cell_at
at_first address r rest b low high = rw (within_inside r.start r.length b low high) refl

at_rest : (r : Range) (rest : List Range) (b : ℕ) → (b < r.start) ⊎ (r.start + r.length ≤ b) → cell_at (r ∷ rest) b ≡ cell_at rest b
unfolding cell_at
at_rest r rest b out = rw (within_outside r.start r.length b out) refl

unfoldable pub joined : ℕ → Cell → Range → Bool
joined address c r = (r.start == address + 1) && same_rights r.rights c.rights

pub with_joined : (address : ℕ) (c : Cell) (r : Range) (rest : List Range) → joined address c r ≡ true → with_cell address (Some c) (r ∷ rest) ≡ grown address c r ∷ rest
unfolding with_cell joined
with_joined address c r rest h = rw h refl

pub with_single : (address : ℕ) (c : Cell) (r : Range) (rest : List Range) → joined address c r ≡ false → with_cell address (Some c) (r ∷ rest) ≡ single address c ∷ r ∷ rest
unfolding with_cell joined
with_single address c r rest h = rw h refl

pub joined_rights : (address : ℕ) (c : Cell) (r : Range) → joined address c r ≡ true → r.rights ≡ c.rights
unfolding joined
joined_rights address c r h = same_rights_is r.rights c.rights (both_right (r.start == address + 1) (same_rights r.rights c.rights) h)

pub joined_start : (address : ℕ) (c : Cell) (r : Range) → joined address c r ≡ true → r.start ≡ address + 1
unfolding joined
joined_start address c r h =
    let e : (r.start == address + 1) ≡ true = both_left (r.start == address + 1) (same_rights r.rights c.rights) h in
    grind (arith, nat_tests)

pub bool_cases : (b : Bool) → (b ≡ true) ⊎ (b ≡ false)
bool_cases true = inl refl
bool_cases false = inr refl

grown_same : (a : ℕ) (c : Cell) (r : Range) (rest : List Range) → r.rights ≡ c.rights → IsKept (Some c) → cell_at (grown a c r ∷ rest) a ≡ Some c
grown_same a c r rest rights kept =
    at_first a (grown a c r) rest a (omega arith) (omega arith)
    ∙ rw rights (ap Some (first_cell c r.bytes (a - a) (omega arith) kept))

-- the cell itself
with_cell_same : (a : ℕ) (c : Cell) (rs : List Range) → IsKept (Some c) → cell_at (with_cell a (Some c) rs) a ≡ Some c
unfolding with_cell
with_cell_same a c [] kept =
    at_first a (single a c) [] a (omega arith) (omega arith) ∙ ap Some (first_cell c [] (a - a) (omega arith) kept)
with_cell_same a c (r ∷ rs) kept =
    elim (bool_cases (joined a c r)) [
      | inl met ↦ ap (λ (l : List Range). cell_at l a) (with_joined a c r rs met) ∙ (grown_same a c r rs (joined_rights a c r met) kept)
      | inr unmet ↦ ap (λ (l : List Range). cell_at l a) (with_single a c r rs unmet) ∙ (at_first a (single a c) (r ∷ rs) a (omega arith) (omega arith) ∙ ap Some (first_cell c [] (a - a) (omega arith) kept))
    ]

grown_other : (a : ℕ) (c : Cell) (r : Range) (rest : List Range) (b : ℕ) → r.rights ≡ c.rights → r.start ≡ a + 1 → b ≢ a → cell_at (grown a c r ∷ rest) b ≡ cell_at (r ∷ rest) b
grown_other a c r rest b rights start other =
    elim (cases_lt b a) [
      | inl below ↦ at_rest (grown a c r) rest b (inl below) ∙ sym (at_rest r rest b (inl (omega arith)))
      | inr from ↦ elim (cases_lt b (r.start + r.length)) [
        | inl within ↦
            let p : b - a - 1 ≡ b - r.start = omega arith in
            at_first a (grown a c r) rest b (omega arith) (omega arith)
            ∙ (ap Some (rw rights (later_cell c r.bytes (b - a) (omega arith) ∙ ap (λ (k : ℕ). cell c.rights (get_or r.bytes k 0)) p))
            ∙ sym (at_first a r rest b (omega arith) (omega arith)))
        | inr past ↦ at_rest (grown a c r) rest b (inr (omega arith)) ∙ sym (at_rest r rest b (inr past))
      ]
    ]

apart : (a b : ℕ) → b ≢ a → (b < a) ⊎ (a + 1 ≤ b)
apart a b other = elim (cases_lt b a) [ inl below ↦ inl below | inr from ↦ inr (omega arith) ]

-- every other
with_cell_other : (a : ℕ) (o : Option Cell) (rs : List Range) (b : ℕ) → b ≢ a → cell_at (with_cell a o rs) b ≡ cell_at rs b
unfolding with_cell
with_cell_other a None rs b other = refl
with_cell_other a (Some c) [] b other = at_rest (single a c) [] b (apart a b other)
with_cell_other a (Some c) (r ∷ rs) b other =
    elim (bool_cases (joined a c r)) [
      | inl met ↦ ap (λ (l : List Range). cell_at l b) (with_joined a c r rs met) ∙ grown_other a c r rs b (joined_rights a c r met) (joined_start a c r met) other
      | inr unmet ↦ ap (λ (l : List Range). cell_at l b) (with_single a c r rs unmet) ∙ at_rest (single a c) (r ∷ rs) b (apart a b other)
    ]

-- nothing stands outside
outside : (f : ℕ → Option Cell) (a n b : ℕ) → (b < a) ⊎ (a + n ≤ b) → cell_at (ranges_from f a n) b ≡ None
unfolding ranges_from cell_at
outside f a zero b out = refl
outside f a (suc n) b out =
    let other : b ≢ a = elim out [ inl below ↦ omega arith | inr past ↦ omega arith ] in
    let next : (b < a + 1) ⊎ (a + 1 + n ≤ b) = elim out [ inl below ↦ inl (omega arith) | inr past ↦ inr (omega arith) ] in
    with_cell_other a (f a) (ranges_from f (a + 1) n) b other ∙ outside f (a + 1) n b next

with_cell_at : (a : ℕ) (o : Option Cell) (rs : List Range) → IsKept o → cell_at rs a ≡ None → cell_at (with_cell a o rs) a ≡ o
unfolding with_cell
with_cell_at a None rs kept absent = absent
with_cell_at a (Some c) rs kept absent = with_cell_same a c rs kept

inside : (f : ℕ → Option Cell) (a n b : ℕ) → ((k : ℕ) → IsKept (f k)) → a ≤ b → b < a + n → cell_at (ranges_from f a n) b ≡ f b
unfolding ranges_from
inside f a zero b kept low high = absurd (omega arith)
inside f a (suc n) b kept low high =
    elim (cases_eq b a) [
      | inl same ↦ subst (λ (k : ℕ). cell_at (with_cell a (f a) (ranges_from f (a + 1) n)) k ≡ f k) (sym same) (with_cell_at a (f a) (ranges_from f (a + 1) n) (kept a) (outside f (a + 1) n a (inl (omega arith))))
      | inr other ↦ with_cell_other a (f a) (ranges_from f (a + 1) n) b other ∙ inside f (a + 1) n b kept (omega arith) (omega arith)
    ]

-- what stands at an address is the cell
pub reads_back : (f : ℕ → Option Cell) (b : ℕ) → ((k : ℕ) → IsKept (f k)) → ((k : ℕ) → 2 ^ 38 ≤ k → f k ≡ None) → cell_at (ranges_of f) b ≡ f b
unfolding ranges_of
reads_back f b kept bounded =
    elim (cases_lt b (2 ^ 38)) [
      | inl below ↦ inside f 0 (2 ^ 38) b kept (omega arith) (omega arith)
      | inr past ↦ outside f 0 (2 ^ 38) b (inr (omega arith)) ∙ sym (bounded b past)
    ]
