-- The pages that can be executed, copied.
use Rattle.std.proofs.Common.{◌≡◌, ◌<◌, ◌≤◌, ℕ, ◌/◌, ◌%◌, Bool, true, false, List, [], length, get_or, slice_get, None, inl, inr, refl, sym, ap, ◌∙◌, arith}
use Rattle.std.proofs.lemmas.Bool.{cases_lt}
use Rattle.std.proofs.lemmas.List.{get_or_default, get_or_past}
use Rattle.guest_pages.specs.declared.page.Page.{Page}
use Rattle.guest_pages.specs.declared.page.Table.{Table}
use Rattle.guest_pages.specs.declared.page.Page.TheVariants.{Absent}
use Rattle.guest_pages.specs.Apart.{code_in, code_of}
use Rattle.guest_pages.specs.Bits.{bit_of}
use Rattle.guest_pages.specs.Tables.{bare_if, cell_in, cells, held, page_at, page_in}
use Rattle.guest_pages.proofs.BitFacts.{bits_past}
use Rattle.guest_pages.proofs.TableFacts.{cell_at_held, page_past, same_ranges}

-- a page that stores nothing can't be executed
bare_code : (b : Bool) (k : ℕ) → code_in (cell_in (bare_if b) k) ≡ None
bare_code true k = refl
bare_code false k = refl

-- the pages of a table that can be executed, without marks
pub pages_copied : (new old : List Page) (marks marks-2 : List ℕ) → marks-2 ≡ [] → length new ≡ length old → ((n k : ℕ) → n < length old → cell_in (get_or new n Absent) k ≡ code_in (cell_in (get_or old n Absent) k)) → (n k : ℕ) → cell_in (get_or new n (bare_if (bit_of marks-2 n))) k ≡ code_in (cell_in (get_or old n (bare_if (bit_of marks n))) k)
pages_copied new old marks marks-2 unmarked size each n k =
    elim (cases_lt n (length old)) [
      | inl low ↦
          ap (λ (p : Page). cell_in p k) (get_or_default new n (bare_if (bit_of marks-2 n)) Absent (omega (arith, low, size)))
          ∙ (each n k low
          ∙ ap (λ (p : Page). code_in (cell_in p k)) (get_or_default old n Absent (bare_if (bit_of marks n)) low))
      | inr past ↦
          ap (λ (p : Page). cell_in p k) (get_or_past new n (bare_if (bit_of marks-2 n)) (omega (arith, past, size)))
          ∙ (ap (λ (l : List ℕ). cell_in (bare_if (bit_of l n)) k) unmarked
          ∙ (ap (λ (b : Bool). cell_in (bare_if b) k) (bits_past [] n (omega arith))
          ∙ (sym (bare_code (bit_of marks n) k)
          ∙ ap (λ (p : Page). code_in (cell_in p k)) (sym (get_or_past old n (bare_if (bit_of marks n)) past)))))
    ]

-- tables of the pages that can be executed
pub tables_copied : (new old : List Table) → length new ≡ length old → ((n j k : ℕ) → n < length old → cell_in (page_in (slice_get new n) j) k ≡ code_in (cell_in (page_in (slice_get old n) j) k)) → (a : ℕ) → cells new a ≡ code_in (cells old a)
unfolding cells page_at
tables_copied new old size each a =
    elim (cases_lt (a / 4096 / 8192) (length old)) [
      | inl low ↦ each (a / 4096 / 8192) (a / 4096 % 8192) (a % 4096) low
      | inr past ↦
          ap (λ (p : Page). cell_in p (a % 4096)) (page_past new (a / 4096) (omega (arith, past, size)))
          ∙ ap (λ (p : Page). code_in (cell_in p (a % 4096))) (sym (page_past old (a / 4096) past))
    ]

-- the ranges that can be executed, by their cells
pub code_held : (new old : List Table) → length old ≤ 8192 → ((a : ℕ) → cells new a ≡ code_in (cells old a)) → held new ≡ code_of (held old)
unfolding held code_of
code_held new old small same =
    same_ranges (cells new) _ (λ a. same a ∙ ap code_in (sym (cell_at_held old a small)))
