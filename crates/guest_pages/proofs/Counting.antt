-- The number of pages that are stored, counted page by page.
use Rattle.std.proofs.Common.{◌≡◌, ◌⊎◌, ℕ, zero, suc, ◌+◌, ◌-◌, ◌*◌, ◌/◌, ◌%◌, ◌^◌, ◌<◌, ◌≤◌, Bool, true, false, not, ◌&&◌, ◌==◌, if◌then◌else◌, List, [], ◌∷◌, Option, Some, None, inl, inr, refl, sym, ap, subst, ◌∙◌, arith, eq-eqb}
use Rattle.std.proofs.lemmas.Bool.{cases_eq}
use Rattle.guest_pages.specs.declared.rights.Rights.{Rights}
use Rattle.guest_pages.specs.declared.page.Page.{Page}
use Rattle.guest_pages.specs.declared.page.Table.{Table}
use Rattle.guest_pages.specs.declared.page.Page.TheVariants.{Absent, Bare, Held}
use Rattle.guest_pages.specs.Cells.{Cell, has_none, same_bool, same_rights}
use Rattle.guest_pages.specs.Counting.{rights_of, some_right, one_if, count_pages}
use Rattle.guest_pages.specs.Operations.{stored_pages}
use Rattle.guest_pages.specs.Ranges.{Range, grown, with_cell, ranges_from, ranges_of}
use Rattle.guest_pages.specs.Tables.{cell_in, page_at, cells}
use Rattle.guest_pages.proofs.Reading.{joined, joined_rights, joined_start, with_joined, with_single, bool_cases}

-- the cells of one page have equal rights
abbrev pub IsPaged : (ℕ → Option Cell) → Type 0
IsPaged f = (a b : ℕ) → a / 4096 ≡ b / 4096 → rights_of (f a) ≡ rights_of (f b)

unless_none : Bool → ℕ → ℕ
unless_none none n = if none then 0 else n

-- the page ends in a range
worth : Range → ℕ
worth r = unless_none (has_none r.rights) ((r.start + r.length) / 4096 - r.start / 4096)

worths : List Range → ℕ
worths [] = 0
worths (r ∷ rs) = worth r + worths rs

step_worth : Option Cell → ℕ → ℕ
step_worth None address = 0
step_worth (Some c) address = unless_none (has_none c.rights) ((address + 1) / 4096 - address / 4096)

unless_sum : (none : Bool) (x y z : ℕ) → x ≡ y + z → unless_none none x ≡ unless_none none y + unless_none none z
unfolding unless_none
unless_sum true x y z h = refl
unless_sum false x y z h = h

grown_worth : (a : ℕ) (c : Cell) (r : Range) → r.rights ≡ c.rights → r.start ≡ a + 1 → worth (grown a c r) ≡ step_worth (Some c) a + worth r
unfolding worth step_worth
grown_worth a c r rights start =
    let e : (a + (r.length + 1)) / 4096 - a / 4096 ≡ ((a + 1) / 4096 - a / 4096) + ((r.start + r.length) / 4096 - r.start / 4096) = omega arith in
    unless_sum (has_none r.rights) _ _ _ e
    ∙ ap (λ (x : Rights). unless_none (has_none x) ((a + 1) / 4096 - a / 4096) + unless_none (has_none r.rights) ((r.start + r.length) / 4096 - r.start / 4096)) rights

with_cell_worth : (a : ℕ) (o : Option Cell) (rs : List Range) → worths (with_cell a o rs) ≡ step_worth o a + worths rs
unfolding with_cell worths worth step_worth
with_cell_worth a None rs = omega arith
with_cell_worth a (Some c) [] = refl
with_cell_worth a (Some c) (r ∷ rs) =
    elim (bool_cases (joined a c r)) [
      | inl met ↦
          let e = grown_worth a c r (joined_rights a c r met) (joined_start a c r met) in
          ap worths (with_joined a c r rs met) ∙ (ap (λ (n : ℕ). n + worths rs) e ∙ omega arith)
      | inr unmet ↦ ap worths (with_single a c r rs unmet)
    ]

step_stays : (o : Option Cell) (a : ℕ) → (a + 1) / 4096 ≡ a / 4096 → step_worth o a ≡ 0
unfolding step_worth unless_none
step_stays None a same = refl
step_stays (Some c) a same = stays (has_none c.rights) (omega arith)
  where
    stays : (none : Bool) → (a + 1) / 4096 - a / 4096 ≡ 0 → (if none then 0 else ((a + 1) / 4096 - a / 4096)) ≡ 0
    stays true e = refl
    stays false e = e

one_or_none : (none : Bool) (n : ℕ) → n ≡ 1 → unless_none none n ≡ one_if (not none)
unfolding unless_none
one_or_none true n e = refl
one_or_none false n e = e

step_counts : (o : Option Cell) (a : ℕ) → (a + 1) / 4096 ≡ a / 4096 + 1 → step_worth o a ≡ one_if (some_right (rights_of o))
unfolding step_worth
step_counts None a next = refl
step_counts (Some c) a next = one_or_none (has_none c.rights) _ (omega arith)

worth_from : (f : ℕ → Option Cell) (a n : ℕ) → IsPaged f → worths (ranges_from f a n) ≡ count_pages f (a / 4096) ((a + n) / 4096 - a / 4096)
unfolding ranges_from worths count_pages
worth_from f a zero paged =
    let e : (a + 0) / 4096 - a / 4096 ≡ 0 = omega arith in
    sym (ap (count_pages f (a / 4096)) e)
worth_from f a (suc n) paged =
    let rest = worth_from f (a + 1) n paged in
    elim (cases_eq ((a + 1) / 4096) (a / 4096)) [
      | inl same ↦
          let e : (a + 1 + n) / 4096 - (a + 1) / 4096 ≡ (a + suc n) / 4096 - a / 4096 = omega arith in
          with_cell_worth a (f a) (ranges_from f (a + 1) n)
          ∙ (ap (λ (x : ℕ). x + worths (ranges_from f (a + 1) n)) (step_stays (f a) a same)
          ∙ (omega arith
          ∙ (rest
          ∙ (ap (count_pages f ((a + 1) / 4096)) e
          ∙ ap (λ (p : ℕ). count_pages f p ((a + suc n) / 4096 - a / 4096)) same))))
      | inr other ↦
          let next : (a + 1) / 4096 ≡ a / 4096 + 1 = omega arith in
          let e : suc ((a + 1 + n) / 4096 - (a + 1) / 4096) ≡ (a + suc n) / 4096 - a / 4096 = omega arith in
          let q : (4096 * (a / 4096)) / 4096 ≡ a / 4096 = omega arith in
          with_cell_worth a (f a) (ranges_from f (a + 1) n)
          ∙ (ap (λ (x : ℕ). x + worths (ranges_from f (a + 1) n)) (step_counts (f a) a next ∙ ap (λ (o : Option Rights). one_if (some_right o)) (paged a (4096 * (a / 4096)) (sym q)))
          ∙ (ap (λ (x : ℕ). one_if (some_right (rights_of (f (4096 * (a / 4096))))) + x) (rest ∙ ap (λ (p : ℕ). count_pages f p ((a + 1 + n) / 4096 - (a + 1) / 4096)) next)
          ∙ ap (count_pages f (a / 4096)) e))
    ]

AllAligned : List Range → Type 0
AllAligned [] = Unit {0}
AllAligned (r ∷ rs) = (r.start % 4096 ≡ 0) × AllAligned rs

-- the first range begins at an address or later; every other at a page
BeginsAt : (ℕ → Option Cell) → ℕ → List Range → Type 0
BeginsAt f a [] = Unit {0}
BeginsAt f a (r ∷ rs) = (((r.start ≡ a) × (rights_of (f a) ≡ Some r.rights)) ⊎ ((a < r.start) × (r.start % 4096 ≡ 0))) × AllAligned rs

same_bool_refl : (a : Bool) → same_bool a a ≡ true
same_bool_refl true = refl
same_bool_refl false = refl

both_true : (x y : Bool) → x ≡ true → y ≡ true → (x && y) ≡ true
both_true true y h k = k
both_true false y h k = h

same_rights_refl : (a : Rights) → same_rights a a ≡ true
same_rights_refl a =
    both_true (same_bool a.read a.read) _ (same_bool_refl a.read)
    (both_true (same_bool a.write a.write) _ (same_bool_refl a.write) (same_bool_refl a.execute))

joined_if : (a : ℕ) (c : Cell) (r : Range) → r.start ≡ a + 1 → r.rights ≡ c.rights → joined a c r ≡ true
unfolding joined
joined_if a c r start rights =
    both_true (r.start == a + 1) (same_rights r.rights c.rights) (eq-eqb r.start (a + 1) start)
    (ap (λ (x : Rights). same_rights r.rights x) (sym rights) ∙ same_rights_refl r.rights)

-- where the next range begins, a page begins, unless the cell joins it
next_aligned : (f : ℕ → Option Cell) (a : ℕ) (r : Range) → IsPaged f → ((r.start ≡ a + 1) × (rights_of (f (a + 1)) ≡ Some r.rights)) ⊎ ((a + 1 < r.start) × (r.start % 4096 ≡ 0)) → (rights_of (f a) ≡ Some r.rights → r.start ≡ a + 1 → ⊥) → (a < r.start) × (r.start % 4096 ≡ 0)
next_aligned f a r paged (inr later) never = (omega arith, later.1)
next_aligned f a r paged (inl at) never =
    elim (cases_eq ((a + 1) % 4096) 0) [
      | inl page ↦ (omega arith, omega arith)
      | inr inner ↦
          let same : a / 4096 ≡ (a + 1) / 4096 = omega arith in
          absurd (never (paged a (a + 1) same ∙ at.1) at.0)
    ]

begins_step : (f : ℕ → Option Cell) (a : ℕ) (o : Option Cell) (rs : List Range) → IsPaged f → f a ≡ o → BeginsAt f (a + 1) rs → BeginsAt f a (with_cell a o rs)
unfolding with_cell BeginsAt AllAligned
begins_step f a None [] paged here begins = tt
begins_step f a None (r ∷ rs) paged here begins =
    (inr (next_aligned f a r paged begins.0 (λ e s. absurd (none_some r.rights (sym (ap rights_of here) ∙ e)))), begins.1)
  where
    none_some : (rights : Rights) → None ≡ Some rights → ⊥
    none_some rights h = cc
begins_step f a (Some c) [] paged here begins = (inl (refl, ap rights_of here), tt)
begins_step f a (Some c) (r ∷ rs) paged here begins =
    elim (bool_cases (joined a c r)) [
      | inl met ↦
          subst (BeginsAt f a) (sym (with_joined a c r rs met))
          (inl (refl, ap rights_of here ∙ ap Some (sym (joined_rights a c r met))), begins.1)
      | inr unmet ↦
          let aligned = next_aligned f a r paged begins.0 (λ e s.
          let same : c.rights ≡ r.rights = some_same c.rights r.rights (sym (ap rights_of here) ∙ e) in
          true_false (sym (joined_if a c r s (sym same)) ∙ unmet)) in
          subst (BeginsAt f a) (sym (with_single a c r rs unmet))
          (inl (refl, ap rights_of here), (aligned.1, begins.1))
    ]
  where
    some_same : (x y : Rights) → Some x ≡ Some y → x ≡ y
    some_same x y h = cc

    true_false : true ≡ false → ⊥
    true_false h = cc

begins_from : (f : ℕ → Option Cell) (a n : ℕ) → IsPaged f → BeginsAt f a (ranges_from f a n)
unfolding ranges_from BeginsAt
begins_from f a zero paged = tt
begins_from f a (suc n) paged = begins_step f a (f a) (ranges_from f (a + 1) n) paged refl (begins_from f (a + 1) n paged)

begins_aligned : (f : ℕ → Option Cell) (rs : List Range) → BeginsAt f 0 rs → AllAligned rs
unfolding BeginsAt AllAligned
begins_aligned f [] begins = tt
begins_aligned f (r ∷ rs) begins = (first begins.0, begins.1)
  where
    first : ((r.start ≡ 0) × (rights_of (f 0) ≡ Some r.rights)) ⊎ ((0 < r.start) × (r.start % 4096 ≡ 0)) → r.start % 4096 ≡ 0
    first (inl zero_start) = omega arith
    first (inr later) = later.1

aligned_worth : (rs : List Range) → AllAligned rs → stored_pages rs ≡ worths rs
unfolding AllAligned worths worth unless_none stored_pages
aligned_worth [] aligned = refl
aligned_worth (r ∷ rs) aligned =
    let e : r.length / 4096 ≡ (r.start + r.length) / 4096 - r.start / 4096 = omega (arith, aligned.0) in
    ap (λ (n : ℕ). unless_none (has_none r.rights) n + stored_pages rs) e
    ∙ ap (λ (n : ℕ). worth r + n) (aligned_worth rs aligned.1)

-- the pages that are stored are those with a right
pub stored_is : (f : ℕ → Option Cell) → IsPaged f → stored_pages (ranges_of f) ≡ count_pages f 0 (2 ^ 26)
unfolding ranges_of
stored_is f paged =
    aligned_worth (ranges_from f 0 (2 ^ 38)) (begins_aligned f (ranges_from f 0 (2 ^ 38)) (begins_from f 0 (2 ^ 38) paged))
    ∙ worth_from f 0 (2 ^ 38) paged

pub count_split : (f : ℕ → Option Cell) (p m n : ℕ) → count_pages f p (m + n) ≡ count_pages f p m + count_pages f (p + m) n
unfolding count_pages
count_split f p zero n =
    let e : p ≡ p + 0 = omega arith in
    let k : 0 + n ≡ n = omega arith in
    ap (count_pages f p) k ∙ (ap (λ (q : ℕ). count_pages f q n) e ∙ omega arith)
count_split f p (suc m) n =
    let e : p + 1 + m ≡ p + suc m = omega arith in
    let k : suc m + n ≡ suc (m + n) = omega arith in
    let rest = count_split f (p + 1) m n ∙ ap (λ (q : ℕ). count_pages f (p + 1) m + count_pages f q n) e in
    ap (count_pages f p) k ∙ (ap (λ (x : ℕ). one_if (some_right (rights_of (f (4096 * p)))) + x) rest ∙ omega arith)

pub count_same : (f g : ℕ → Option Cell) (p n : ℕ) → ((q : ℕ) → p ≤ q → q < p + n → rights_of (f (4096 * q)) ≡ rights_of (g (4096 * q))) → count_pages f p n ≡ count_pages g p n
unfolding count_pages
count_same f g p zero same = refl
count_same f g p (suc n) same =
    ap (λ (o : Option Rights). one_if (some_right o) + count_pages f (p + 1) n) (same p (omega arith) (omega arith))
    ∙ ap (λ (x : ℕ). one_if (some_right (rights_of (g (4096 * p)))) + x) (count_same f g (p + 1) n (λ q low high. same q (omega arith) (omega arith)))

-- all pages alike
pub count_alike : (f : ℕ → Option Cell) (some : Bool) (p n : ℕ) → ((q : ℕ) → p ≤ q → q < p + n → some_right (rights_of (f (4096 * q))) ≡ some) → count_pages f p n ≡ (if some then n else 0)
unfolding count_pages
count_alike f true p zero same = refl
count_alike f false p zero same = refl
count_alike f true p (suc n) same =
    let here = same p (omega arith) (omega arith) in
    let rest = count_alike f true (p + 1) n (λ q low high. same q (omega arith) (omega arith)) in
    ap (λ (b : Bool). one_if b + count_pages f (p + 1) n) here ∙ (ap (λ (x : ℕ). 1 + x) rest ∙ omega arith)
count_alike f false p (suc n) same =
    let here = same p (omega arith) (omega arith) in
    let rest = count_alike f false (p + 1) n (λ q low high. same q (omega arith) (omega arith)) in
    ap (λ (b : Bool). one_if b + count_pages f (p + 1) n) here ∙ (ap (λ (x : ℕ). 0 + x) rest)

one_at_most : (b : Bool) → one_if b ≤ 1
one_at_most true = omega arith
one_at_most false = omega arith

pub count_at_most : (f : ℕ → Option Cell) (p n : ℕ) → count_pages f p n ≤ n
unfolding count_pages
count_at_most f p zero = omega arith
count_at_most f p (suc n) =
    let rest = count_at_most f (p + 1) n in
    let one = one_at_most (some_right (rights_of (f (4096 * p)))) in
    omega arith

page_rights : (page : Page) (a b : ℕ) → rights_of (cell_in page a) ≡ rights_of (cell_in page b)
page_rights Absent a b = refl
page_rights Bare a b = refl
page_rights (Held rights bytes) a b = refl

pub tables_paged : (tables : List Table) → IsPaged (cells tables)
unfolding cells
tables_paged tables a b same =
    page_rights (page_at tables (a / 4096)) (a % 4096) (b % 4096)
    ∙ ap (λ (p : ℕ). rights_of (cell_in (page_at tables p) (b % 4096))) same

-- equal rights at each address, as many pages
pub stored_same : (f g : ℕ → Option Cell) → IsPaged f → IsPaged g → ((a : ℕ) → rights_of (f a) ≡ rights_of (g a)) → stored_pages (ranges_of f) ≡ stored_pages (ranges_of g)
stored_same f g paged-f paged-g same =
    stored_is f paged-f ∙ (count_same f g 0 (2 ^ 26) (λ q low high. same (4096 * q)) ∙ sym (stored_is g paged-g))

-- other rights in count pages from one on
pub stored_changed : (f g : ℕ → Option Cell) (first count : ℕ) → IsPaged f → IsPaged g → first + count ≤ 2 ^ 26 → ((q : ℕ) → (q < first) ⊎ (first + count ≤ q) → rights_of (f (4096 * q)) ≡ rights_of (g (4096 * q))) → stored_pages (ranges_of g) + count_pages f first count ≡ stored_pages (ranges_of f) + count_pages g first count
stored_changed f g first count paged-f paged-g room same =
    let rest : ℕ = 2 ^ 26 - (first + count) in
    let whole : 2 ^ 26 ≡ first + (count + (2 ^ 26 - (first + count))) = omega arith in
    let split-f = ap (count_pages f 0) whole ∙ (count_split f 0 first (count + (2 ^ 26 - (first + count))) ∙ ap (λ (x : ℕ). count_pages f 0 first + x) (count_split f (0 + first) count (2 ^ 26 - (first + count)))) in
    let split-g = ap (count_pages g 0) whole ∙ (count_split g 0 first (count + (2 ^ 26 - (first + count))) ∙ ap (λ (x : ℕ). count_pages g 0 first + x) (count_split g (0 + first) count (2 ^ 26 - (first + count)))) in
    let none : 0 + first ≡ first = omega arith in
    let before = count_same f g 0 first (λ q low high. same q (inl (omega arith))) in
    let after = count_same f g (0 + first + count) (2 ^ 26 - (first + count)) (λ q low high. same q (inr (omega arith))) in
    let mid-f = ap (λ (p : ℕ). count_pages f p count) none in
    let mid-g = ap (λ (p : ℕ). count_pages g p count) none in
    let is-f = stored_is f paged-f in
    let is-g = stored_is g paged-g in
    omega arith
