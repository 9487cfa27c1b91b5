-- The guest's memory: a list of ranges that don't meet, in one canonical form. The ranges rise, and addresses that touch
-- and have equal rights are in one range. The form is made from cells: what stands at each address.
-- Source: mmap(2); the form is the project's own.
use Rattle.std.specs.Prelude.{ℕ, zero, suc, ◌+◌, ◌-◌, Bool, ◌&&◌, ◌==◌, nat_le, nat_lt, if◌then◌else◌, List, [], ◌∷◌, get_or, Option, Some, None}
use Rattle.guest_pages.specs.declared.rights.Rights.{Rights}
use Rattle.guest_pages.specs.Cells.{Cell, cell, has_none, same_rights}
use Rattle.guest_pages.specs.Limits.{user_end}

-- addresses from start on with the same rights, and their bytes where they have a right
pub record Range : Type 0 where
  pub start : ℕ
  pub length : ℕ
  pub rights : Rights
  pub bytes : List ℕ

-- the address is one of the length addresses from start on
abbrev pub within : ℕ → ℕ → ℕ → Bool
within start length address = nat_le start address && nat_lt address (start + length)

-- what stands at an address, none where it is not mapped
unfoldable pub cell_at : List Range → ℕ → Option Cell
cell_at [] address = None
cell_at (range ∷ ranges) address =
    if within range.start range.length address
    then Some (cell range.rights (get_or range.bytes (address - range.start) 0))
    else cell_at ranges address

-- the bytes that a cell stores
abbrev pub stored : Cell → List ℕ → List ℕ
stored c bytes = if has_none c.rights then [] else c.byte ∷ bytes

abbrev pub single : ℕ → Cell → Range
single address c = record { start = address; length = 1; rights = c.rights; bytes = stored c [] }

abbrev pub grown : ℕ → Cell → Range → Range
grown address c range =
    record { start = address; length = range.length + 1; rights = range.rights; bytes = stored c range.bytes }

-- the cell before the ranges that begin behind it
unfoldable pub with_cell : ℕ → Option Cell → List Range → List Range
with_cell address None ranges = ranges
with_cell address (Some c) [] = single address c ∷ []
with_cell address (Some c) (range ∷ ranges) =
    if (range.start == address + 1) && same_rights range.rights c.rights
    then grown address c range ∷ ranges
    else single address c ∷ range ∷ ranges

-- the ranges of the count addresses from one on
unfoldable pub ranges_from : (ℕ → Option Cell) → ℕ → ℕ → List Range
ranges_from cells address zero = []
ranges_from cells address (suc count) = with_cell address (cells address) (ranges_from cells (address + 1) count)

-- the ranges of all addresses of user memory
unfoldable pub ranges_of : (ℕ → Option Cell) → List Range
ranges_of cells = ranges_from cells 0 user_end
