-- Whether something stands in a range of pages, and the highest free range.
use Rattle.std.proofs.Common.{◌≡◌, ℕ, zero, suc, ◌+◌, ◌-◌, ◌*◌, ◌/◌, ◌%◌, ◌<◌, ◌≤◌, Bool, true, false, ◌||◌, List, [], length, Option, Some, None, slice_get, refl, sym, ap, ◌∙◌, inl, inr, arith}
use Rattle.std.proofs.lemmas.Bool.{cases_eq, cases_lt}
use Rattle.guest_pages.specs.declared.page.Page.{Page}
use Rattle.guest_pages.specs.declared.page.Table.{Table}
use Rattle.guest_pages.specs.declared.page.Page.TheVariants.{Absent, Bare, Held}
use Rattle.guest_pages.specs.Cells.{Cell}
use Rattle.guest_pages.specs.Finding.{is_mapped, is_code, any_cell, any_mapped, highest_free, free_place}
use Rattle.guest_pages.specs.Ranges.{Range, cell_at}
use Rattle.guest_pages.specs.Tables.{cell_in, mark_in, mark_at, marks_in, page_at, cells, held, is_present, runs_in}
use Rattle.guest_pages.specs.Bits.{bit_of}
use Rattle.guest_pages.proofs.BitFacts.{bits_past}
use Rattle.guest_pages.proofs.TableFacts.{cell_at_held}

or_true : (a b : Bool) → b ≡ true → (a || b) ≡ true
or_true true b h = refl
or_true false b h = h

pub any_none : (test : Option Cell → Bool) (memory : List Range) (at n : ℕ) → ((a : ℕ) → at ≤ a → a < at + n → test (cell_at memory a) ≡ false) → any_cell test memory at n ≡ false
unfolding any_cell
any_none test memory at zero none = refl
any_none test memory at (suc n) none =
    rw (none at (omega arith) (omega arith)) (any_none test memory (at + 1) n (λ a low high. none a (omega arith) (omega arith)))

pub any_found : (test : Option Cell → Bool) (memory : List Range) (at n a : ℕ) → at ≤ a → a < at + n → test (cell_at memory a) ≡ true → any_cell test memory at n ≡ true
unfolding any_cell
any_found test memory at zero a low high found = absurd (omega arith)
any_found test memory at (suc n) a low high found =
    elim (cases_eq a at) [
      | inl same ↦ let here : test (cell_at memory at) ≡ true = ap (λ (k : ℕ). test (cell_at memory k)) (sym same) ∙ found in rw here refl
      | inr other ↦ or_true (test (cell_at memory at)) (any_cell test memory (at + 1) n) (any_found test memory (at + 1) n a (omega arith) (omega arith) found)
    ]

-- ---- by pages

mapped_in : (page : Page) (place : ℕ) → is_mapped (cell_in page place) ≡ is_present page
mapped_in Absent place = refl
mapped_in Bare place = refl
mapped_in (Held rights bytes) place = refl

code_in : (page : Page) (place : ℕ) → is_code (cell_in page place) ≡ runs_in page
code_in Absent place = refl
code_in Bare place = refl
code_in (Held rights bytes) place = refl

pub mapped_here : (tables : List Table) (a : ℕ) → length tables ≤ 8192 → is_mapped (cell_at (held tables) a) ≡ is_present (page_at tables (a / 4096))
unfolding cells
mapped_here tables a small = ap is_mapped (cell_at_held tables a small) ∙ mapped_in (page_at tables (a / 4096)) (a % 4096)

pub code_here : (tables : List Table) (a : ℕ) → length tables ≤ 8192 → is_code (cell_at (held tables) a) ≡ runs_in (page_at tables (a / 4096))
unfolding cells
code_here tables a small = ap is_code (cell_at_held tables a small) ∙ code_in (page_at tables (a / 4096)) (a % 4096)

-- a test of cells that is one of pages
abbrev pub IsOfPages : (Option Cell → Bool) → (Page → Bool) → List Table → Type 0
IsOfPages test of_page tables = (a : ℕ) → test (cell_at (held tables) a) ≡ of_page (page_at tables (a / 4096))

pub none_by_pages : (test : Option Cell → Bool) (of_page : Page → Bool) (tables : List Table) (first count : ℕ) → IsOfPages test of_page tables → ((n : ℕ) → first ≤ n → n < first + count → of_page (page_at tables n) ≡ false) → any_cell test (held tables) (4096 * first) (4096 * count) ≡ false
none_by_pages test of_page tables first count is none =
    any_none test (held tables) (4096 * first) (4096 * count) (λ a low high. is a ∙ none (a / 4096) (omega arith) (omega arith))

pub found_by_pages : (test : Option Cell → Bool) (of_page : Page → Bool) (tables : List Table) (first count n : ℕ) → IsOfPages test of_page tables → first ≤ n → n < first + count → of_page (page_at tables n) ≡ true → any_cell test (held tables) (4096 * first) (4096 * count) ≡ true
found_by_pages test of_page tables first count n is low high found =
    let e : 4096 * n / 4096 ≡ n = omega arith in
    any_found test (held tables) (4096 * first) (4096 * count) (4096 * n) (omega arith) (omega arith)
    (is (4096 * n) ∙ (ap (λ (k : ℕ). of_page (page_at tables k)) e ∙ found))

-- ---- the highest free range

pub highest_none : (memory : List Range) (count n : ℕ) → ((s : ℕ) → s < n → any_mapped memory (4096 * s) (4096 * count) ≡ true) → highest_free memory count n ≡ None
unfolding highest_free
highest_none memory count zero full = refl
highest_none memory count (suc n) full = rw (full n (omega arith)) (highest_none memory count n (λ s low. full s (omega arith)))

pub highest_is : (memory : List Range) (count n start : ℕ) → start < n → any_mapped memory (4096 * start) (4096 * count) ≡ false → ((s : ℕ) → start < s → s < n → any_mapped memory (4096 * s) (4096 * count) ≡ true) → highest_free memory count n ≡ Some (4096 * start)
unfolding highest_free
highest_is memory count zero start low free full = absurd (omega arith)
highest_is memory count (suc n) start low free full =
    elim (cases_eq start n) [
      | inl same ↦
          let here : any_mapped memory (4096 * n) (4096 * count) ≡ false = ap (λ (k : ℕ). any_mapped memory (4096 * k) (4096 * count)) (sym same) ∙ free in
          rw here (ap (λ (k : ℕ). Some (4096 * k)) (sym same))
      | inr other ↦
          rw (full n (omega arith) (omega arith)) (highest_is memory count n start (omega arith) free (λ s above below. full s above (omega arith)))
    ]

-- no range that ends above a page is free, and the pages of a run from there on are
pub record HasLooked (memory : List Range) (count page run : ℕ) : Type 0 where
  pub size : page + run ≤ 0x3F00000
  pub full : (s : ℕ) → page + run < s + count → s + count ≤ 0x3F00000 → any_mapped memory (4096 * s) (4096 * count) ≡ true

pub looked_free : (memory : List Range) (count page run size : ℕ) → HasLooked memory count page run → size ≤ page → HasLooked memory count (page - size) (run + size)
looked_free memory count page run size looked part =
    let bound = looked.size in
    record { size = omega arith; full = λ s above below. looked.full s (omega arith) below }

pub looked_full : (tables : List Table) (count page run size : ℕ) → length tables ≤ 8192 → HasLooked (held tables) count page run → run < count → 0 < size → size ≤ page → ((n : ℕ) → page - size ≤ n → n < page → is_present (page_at tables n) ≡ true) → HasLooked (held tables) count (page - size) 0
looked_full tables count page run size small looked short some part full =
    let bound = looked.size in
    record {
      size = omega arith;
      full = λ s above below.
          elim (cases_lt (page + run) (s + count)) [
            | inl past ↦ looked.full s past below
            | inr within ↦ elim (cases_lt s (page - size)) [
              | inl under ↦
                  found_by_pages is_mapped is_present tables s count (page - size) (λ a. mapped_here tables a small) (omega arith) (omega arith) (full (page - size) (omega arith) (omega arith))
              | inr from ↦
                  found_by_pages is_mapped is_present tables s count s (λ a. mapped_here tables a small) (omega arith) (omega arith) (full s from (omega arith))
            ]
          ];
    }

pub place_none : (memory : List Range) (count page run : ℕ) → HasLooked memory count page run → run < count → page ≡ 0 → free_place memory count ≡ None
place_none memory count page run looked short low =
    highest_none memory count (0x3F00000 + 1 - count) (λ s below. looked.full s (omega arith) (omega arith))

pub place_is : (tables : List Table) (count page run : ℕ) → length tables ≤ 8192 → HasLooked (held tables) count page run → count ≤ run → ((n : ℕ) → page ≤ n → n < page + run → is_present (page_at tables n) ≡ false) → free_place (held tables) count ≡ Some (4096 * (page + run - count))
place_is tables count page run small looked enough free =
    let bound = looked.size in
    highest_is (held tables) count (0x3F00000 + 1 - count) (page + run - count) (omega arith)
    (none_by_pages is_mapped is_present tables (page + run - count) count (λ a. mapped_here tables a small) (λ n low high. free n (omega arith) (omega arith)))
    (λ s above below. looked.full s (omega arith) (omega arith))

-- the mark of a page, in its table
mark_of : (o : Option Table) (place : ℕ) → mark_in o place ≡ bit_of (marks_in o) place
mark_of None place = sym (bits_past [] place (omega arith))
mark_of (Some table) place = refl

pub mark_here : (tables : List Table) (n place : ℕ) → n / 8192 ≡ place → mark_at tables n ≡ bit_of (marks_in (slice_get tables place)) (n % 8192)
unfolding mark_at
mark_here tables n place here =
    ap (λ (k : ℕ). mark_in (slice_get tables k) (n % 8192)) here ∙ mark_of (slice_get tables place) (n % 8192)
