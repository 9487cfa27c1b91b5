-- Segments in memory: their bytes, their pages, and what two of them share.
-- Source: System V ABI, ELF-64, "Program header" (flags: 1 execute, 2 write, 4 read). Pages have 4,096 bytes.
use Rattle.std.specs.Prelude.{ℕ, ◌+◌, ◌-◌, ◌/◌, min, max, Bool, true, not, ◌&&◌, ◌||◌, ◌==◌, nat_le, nat_lt, if◌then◌else◌, bit_and, List, [], ◌∷◌}
use Rattle.std.specs.List.{list_all}
use Rattle.guest_pages.specs.Limits.{page_size}

-- a segment: its address, the bytes from the file, how many it has in memory, and its rights
pub record SegmentImage : Type 0 where
  pub at : ℕ
  pub file_bytes : List ℕ
  pub size : ℕ
  pub rights : ℕ

-- ---- rights

abbrev pub is_executable : ℕ → Bool
is_executable rights = not (bit_and rights 1 == 0)

abbrev pub is_writable : ℕ → Bool
is_writable rights = not (bit_and rights 2 == 0)

-- ---- bytes and pages

-- the address behind its last byte
abbrev pub end_of : SegmentImage → ℕ
end_of segment = segment.at + segment.size

-- the address is one of its bytes
abbrev pub holds : SegmentImage → ℕ → Bool
holds segment address = nat_le segment.at address && nat_lt address (end_of segment)

-- an instruction at the address can be executed
unfoldable pub runs_at : SegmentImage → ℕ → Bool
runs_at segment address = is_executable segment.rights && holds segment address

-- a byte is in both
unfoldable pub shares_byte : SegmentImage → SegmentImage → Bool
shares_byte s t = nat_lt (max s.at t.at) (min (end_of s) (end_of t))

-- the numbers of the pages of its first and its last byte, where it has one
abbrev pub first_page : SegmentImage → ℕ
first_page segment = segment.at / page_size

abbrev pub last_page : SegmentImage → ℕ
last_page segment = (end_of segment - 1) / page_size

abbrev pub has_byte : SegmentImage → Bool
has_byte segment = nat_lt 0 segment.size

-- a page has bytes of both
abbrev pub shares_page : SegmentImage → SegmentImage → Bool
shares_page s t =
    (has_byte s && has_byte t) && (nat_le (first_page s) (last_page t) && nat_le (first_page t) (last_page s))

-- one of them is writable and the other executable
abbrev pub rights_clash : ℕ → ℕ → Bool
rights_clash one other = (is_writable one && is_executable other) || (is_executable one && is_writable other)

-- a page of both would be writable and executable
unfoldable pub clashes : SegmentImage → SegmentImage → Bool
clashes s t = shares_page s t && rights_clash s.rights t.rights

-- ---- lists of segments

-- a relation holds of each two, the earlier one first
unfoldable pub all_pairs : (SegmentImage → SegmentImage → Bool) → List SegmentImage → Bool
all_pairs related [] = true
all_pairs related (s ∷ segments) = list_all (related s) segments && all_pairs related segments

-- its end, if it has a byte
abbrev pub byte_end : SegmentImage → ℕ
byte_end segment = if has_byte segment then end_of segment else 0

-- the greatest end of a segment that has a byte, 0 where there is none
unfoldable pub top_of : List SegmentImage → ℕ
top_of [] = 0
top_of (s ∷ segments) = max (byte_end s) (top_of segments)
