-- The cells after a range of addresses is mapped or protected, and where the tables have room for a page.
-- Source: the project's own.
use Rattle.std.specs.Prelude.{◌≡◌, ℕ, ◌/◌, ◌%◌, ◌<◌, ◌≤◌, if◌then◌else◌, List, slice_get, slice_index, length, Option, Some, None}
use Rattle.std.specs.declared.alloc.Global.{Global}
use Rattle.std.specs.declared.boxed.Box.{Box}
use Rattle.guest_pages.specs.declared.rights.Rights.{Rights}
use Rattle.guest_pages.specs.declared.page.Table.{Table}
use Rattle.guest_pages.specs.Cells.{Cell, cell}
use Rattle.guest_pages.specs.Operations.{with_rights}
use Rattle.guest_pages.specs.Ranges.{within}

-- zeros with these rights in a range
unfoldable pub with_zeros : ℕ → ℕ → Rights → (ℕ → Option Cell) → ℕ → Option Cell
with_zeros start count rights f address = if within start count address then Some (cell rights 0) else f address

-- other rights in a range
unfoldable pub with_new_rights : ℕ → ℕ → Rights → (ℕ → Option Cell) → ℕ → Option Cell
with_new_rights start count rights f address = if within start count address then with_rights rights (f address) else f address

-- nothing in a range
unfoldable pub with_nothing : ℕ → ℕ → (ℕ → Option Cell) → ℕ → Option Cell
with_nothing start count f address = if within start count address then None else f address

-- all bytes are 0
pub record IsZero (bytes : List ℕ) : Type 0 where
  pub zero : (place : ℕ) → slice_index bytes place ≡ 0

-- the box of a page of zeros
abbrev pub IsFresh : Box (List ℕ) Global → Type 0
IsFresh page = IsZero page.value

-- how many pages a table has room for
abbrev pub room_of : Option Table → ℕ
room_of None = 0
room_of (Some table) = length table.pages.items

-- the tables have room for the page with a number
unfoldable pub HasRoom : List Table → ℕ → Type 0
HasRoom tables number = number % 8192 < room_of (slice_get tables (number / 8192))

-- how many words of marks a table has
abbrev pub words_of : Option Table → ℕ
words_of None = 0
words_of (Some table) = length table.mapped.items

-- the tables have a mark for the page with a number
unfoldable pub HasMark : List Table → ℕ → Type 0
HasMark tables number = 128 ≤ words_of (slice_get tables (number / 8192))
