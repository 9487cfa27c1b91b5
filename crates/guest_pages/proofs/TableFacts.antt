-- What stands at an address of the memory that tables hold.
use Rattle.std.proofs.Common.{◌≡◌, ℕ, zero, suc, ◌+◌, ◌/◌, ◌%◌, ◌^◌, ◌≤◌, Bool, true, false, if◌then◌else◌, List, [], ◌∷◌, length, get_or, Option, Some, None, slice_get, refl, ap, ◌∙◌, arith}
use mathlib.Core.Path.{fun_ext}
use Rattle.guest_pages.specs.declared.rights.Rights.{Rights}
use Rattle.guest_pages.specs.declared.page.Page.{Page}
use Rattle.guest_pages.specs.declared.page.Table.{Table}
use Rattle.guest_pages.specs.declared.page.Page.TheVariants.{Absent, Bare, Held}
use Rattle.guest_pages.specs.Cells.{Cell, cell, has_none}
use Rattle.guest_pages.specs.Faults.{fault_of}
use Rattle.guest_pages.specs.Ranges.{cell_at, with_cell, ranges_from, ranges_of}
use Rattle.guest_pages.specs.Tables.{cell_in, fault_in, page_in, page_at, cells, held}
use Rattle.guest_pages.proofs.Reading.{IsKept, reads_back}

-- equal cells make equal ranges
pub same_ranges : (f g : ℕ → Option Cell) → ((address : ℕ) → f address ≡ g address) → ranges_of f ≡ ranges_of g
same_ranges f g same = ap ranges_of (fun_ext same)

kept_byte : (none : Bool) (byte : ℕ) → (if none then 0 else (if none then 0 else byte)) ≡ (if none then 0 else byte)
kept_byte true byte = refl
kept_byte false byte = refl

pub cell_kept : (rights : Rights) (byte : ℕ) → IsKept (Some (cell rights byte))
cell_kept rights byte = ap (λ (b : ℕ). let d : Cell = record { rights = rights; byte = b } in d) (kept_byte (has_none rights) byte)

pub page_kept : (page : Page) (place : ℕ) → IsKept (cell_in page place)
page_kept Absent place = tt
page_kept Bare place = refl
page_kept (Held rights bytes) place = cell_kept rights (get_or bytes.value place 0)

pub cells_kept : (tables : List Table) (address : ℕ) → IsKept (cells tables address)
unfolding cells
cells_kept tables address = page_kept (page_at tables (address / 4096)) (address % 4096)

slice_get_past : (xs : List Table) (i : ℕ) → length xs ≤ i → slice_get xs i ≡ None
slice_get_past [] i past = refl
slice_get_past (x ∷ xs) zero past = absurd (omega arith)
slice_get_past (x ∷ xs) (suc i) past = slice_get_past xs i (omega arith)

pub page_past : (tables : List Table) (number : ℕ) → length tables ≤ number / 8192 → page_at tables number ≡ Absent
unfolding page_at
page_past tables number past = ap (λ (o : Option Table). page_in o (number % 8192)) (slice_get_past tables (number / 8192) past)

pub cells_past : (tables : List Table) (address : ℕ) → length tables ≤ 8192 → 2 ^ 38 ≤ address → cells tables address ≡ None
unfolding cells
cells_past tables address small past = ap (λ (p : Page). cell_in p (address % 4096)) (page_past tables (address / 4096) (omega arith))

-- what stands at an address of the memory is its cell
pub cell_at_held : (tables : List Table) (address : ℕ) → length tables ≤ 8192 → cell_at (held tables) address ≡ cells tables address
unfolding held
cell_at_held tables address small = reads_back (cells tables) address (cells_kept tables) (λ k past. cells_past tables k small past)

-- no cell, no range
none_from : (f : ℕ → Option Cell) (a n : ℕ) → ((k : ℕ) → f k ≡ None) → ranges_from f a n ≡ []
unfolding ranges_from with_cell
none_from f a zero absent = refl
none_from f a (suc n) absent = ap (λ (o : Option Cell). with_cell a o (ranges_from f (a + 1) n)) (absent a) ∙ none_from f (a + 1) n absent

cells_none : (k : ℕ) → cells [] k ≡ None
unfolding cells page_at
cells_none k = refl

pub held_none : held [] ≡ []
unfolding held ranges_of
held_none = none_from (cells []) 0 (2 ^ 38) cells_none

pub fault_is : (needed : Rights) (page : Page) (address : ℕ) → fault_of needed address (cell_in page (address % 4096)) ≡ fault_in needed page address
fault_is needed Absent address = refl
fault_is needed Bare address = refl
fault_is needed (Held rights bytes) address = refl

pub fault_here : (needed : Rights) (tables : List Table) (address : ℕ) → length tables ≤ 8192 → fault_of needed address (cell_at (held tables) address) ≡ fault_in needed (page_at tables (address / 4096)) address
unfolding cells
fault_here needed tables address small =
    ap (fault_of needed address) (cell_at_held tables address small) ∙ fault_is needed (page_at tables (address / 4096)) address
