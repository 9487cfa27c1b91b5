-- Whether something stands in a range of addresses, and the highest free range.
-- Source: mmap(2). That the highest free range below 0x3F00000000 is taken, and that page 0 is among those that can be, is
-- the project's own.
use Rattle.std.specs.Prelude.{ℕ, zero, suc, ◌+◌, ◌-◌, ◌*◌, Bool, true, false, ◌||◌, if◌then◌else◌, List, Option, Some, None}
use Rattle.guest_pages.specs.Cells.{Cell}
use Rattle.guest_pages.specs.Ranges.{Range, cell_at}

abbrev pub is_mapped : Option Cell → Bool
is_mapped None = false
is_mapped (Some c) = true

abbrev pub is_code : Option Cell → Bool
is_code None = false
is_code (Some c) = c.rights.execute

-- a test holds of what stands at one of the count addresses from one on
unfoldable pub any_cell : (Option Cell → Bool) → List Range → ℕ → ℕ → Bool
any_cell test memory address zero = false
any_cell test memory address (suc count) = test (cell_at memory address) || any_cell test memory (address + 1) count

-- one of them is mapped
abbrev pub any_mapped : List Range → ℕ → ℕ → Bool
any_mapped memory address count = any_cell is_mapped memory address count

-- one of them can be executed
abbrev pub touches_code : List Range → ℕ → ℕ → Bool
touches_code memory address count = any_cell is_code memory address count

-- the address of the highest of the first pages at which a range of count free pages begins
unfoldable pub highest_free : List Range → ℕ → ℕ → Option ℕ
highest_free memory count zero = None
highest_free memory count (suc page) =
    if any_mapped memory (4096 * page) (4096 * count) then highest_free memory count page else Some (4096 * page)

-- the highest range of count free pages that ends at or below 0x3F00000000, from address 0 on
abbrev pub free_place : List Range → ℕ → Option ℕ
free_place memory count = highest_free memory count (0x3F00000 + 1 - count)
