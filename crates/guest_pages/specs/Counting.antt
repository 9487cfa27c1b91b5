-- How many pages have a right.
-- Source: the project's own.
use Rattle.std.specs.Prelude.{ℕ, zero, suc, ◌+◌, ◌*◌, Bool, true, false, not, Option, Some, None}
use Rattle.guest_pages.specs.declared.rights.Rights.{Rights}
use Rattle.guest_pages.specs.Cells.{Cell, has_none}

abbrev pub rights_of : Option Cell → Option Rights
rights_of None = None
rights_of (Some c) = Some c.rights

abbrev pub some_right : Option Rights → Bool
some_right None = false
some_right (Some rights) = not (has_none rights)

abbrev pub one_if : Bool → ℕ
one_if true = 1
one_if false = 0

-- how many of the count pages from one on have a right
unfoldable pub count_pages : (ℕ → Option Cell) → ℕ → ℕ → ℕ
count_pages cells page zero = 0
count_pages cells page (suc count) = one_if (some_right (rights_of (cells (4096 * page)))) + count_pages cells (page + 1) count
