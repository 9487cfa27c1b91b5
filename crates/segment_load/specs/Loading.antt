-- The memory that the segments of a file make: what stands at each address.
-- Source: System V ABI, "Program Loading" (the bytes of the file, and zeros behind them; flags 1 execute, 2 write, 4 read).
-- That a page has the rights of all its segments is the project's own.
use Rattle.std.specs.Prelude.{ℕ, ◌-◌, ◌/◌, Bool, false, not, ◌&&◌, ◌||◌, ◌==◌, nat_le, if◌then◌else◌, bit_and, List, [], ◌∷◌, get_or, length, Option, Some, None}
use Rattle.std.specs.List.{list_any}
use Rattle.elf_file.specs.Segments.{SegmentImage, is_writable, is_executable, has_byte, first_page, last_page}
use Rattle.guest_pages.specs.declared.rights.Rights.{Rights}
use Rattle.guest_pages.specs.Cells.{Cell, cell}
use Rattle.guest_pages.specs.Ranges.{Range, within, ranges_of}
use Rattle.guest_pages.specs.Limits.{page_size}

-- the page with a number has a byte of the segment
unfoldable pub touches : SegmentImage → ℕ → Bool
touches s page = has_byte s && (nat_le (first_page s) page && nat_le page (last_page s))

-- one of the segments has a byte in the page
abbrev pub is_touched : List SegmentImage → ℕ → Bool
is_touched segments page = list_any (λ s. touches s page) segments

abbrev pub no_right : Rights
no_right = record { read = false; write = false; execute = false }

-- the rights by a segment's flags
unfoldable pub rights_by : ℕ → Rights
rights_by flags = record { read = not (bit_and flags 4 == 0); write = is_writable flags; execute = is_executable flags }

-- the rights that one of two has
unfoldable pub either : Rights → Rights → Rights
either a b = record { read = a.read || b.read; write = a.write || b.write; execute = a.execute || b.execute }

-- the rights of a page: those of all segments that have a byte in it
unfoldable pub page_rights : List SegmentImage → ℕ → Rights
page_rights [] page = no_right
page_rights (s ∷ segments) page =
    if touches s page then either (rights_by s.rights) (page_rights segments page) else page_rights segments page

-- the byte of an address: the file's, where it gives one, else 0. No two segments share a byte
unfoldable pub byte_at : List SegmentImage → ℕ → ℕ
byte_at [] address = 0
byte_at (s ∷ segments) address =
    if within s.at (length s.file_bytes) address then get_or s.file_bytes (address - s.at) 0 else byte_at segments address

-- what stands at an address: nothing, where no segment has a byte in its page
unfoldable pub cell_of : List SegmentImage → ℕ → Option Cell
cell_of segments address =
    if is_touched segments (address / page_size) then Some (cell (page_rights segments (address / page_size)) (byte_at segments address)) else None

-- the memory
unfoldable pub loaded : List SegmentImage → List Range
loaded segments = ranges_of (cell_of segments)
