-- What the program headers of a file say: which are loaded, at which address, and with which bytes.
-- Source: System V ABI, ELF-64, "Program header" (type 1 is loaded). The base of a file of type 3, which is added to
-- each address, and the bounds of addresses are the project's own.
use Rattle.std.specs.Prelude.{◌≡◌, ℕ, ◌+◌, ◌-◌, ◌*◌, ◌%◌, ◌<◌, Bool, true, false, ◌&&◌, ◌||◌, ◌==◌, nat_le, if◌then◌else◌, List, [], ◌∷◌, take, drop, length, Option, Some, None}
use Rattle.guest_pages.specs.Limits.{maps_end, segments_start, shared_object_base}
use Rattle.elf_file.specs.Fields.{e_type, e_entry, e_phoff, e_phnum, p_type, p_flags, p_offset, p_vaddr, p_filesz, p_memsz}
use Rattle.elf_file.specs.Below.{below, any_below, first_below}
use Rattle.elf_file.specs.Segments.{SegmentImage, is_writable, is_executable, runs_at, shares_byte, clashes}

-- what is added to each address of the file
unfoldable pub base : List ℕ → ℕ
base file = if e_type file == 3 then shared_object_base else 0

-- the header is of a segment that is loaded
unfoldable pub is_loaded : List ℕ → ℕ → Bool
is_loaded file i = p_type file i == 1

-- the segment of the header
unfoldable pub segment : List ℕ → ℕ → SegmentImage
segment file i = record {
  at = base file + p_vaddr file i;
  file_bytes = take (p_filesz file i) (drop (p_offset file i) file);
  size = p_memsz file i;
  rights = p_flags file i % 8;
}

-- it has no more bytes in the file than in memory, the file has them (wherever none would be), and it lies within the
-- addresses of programs
unfoldable pub is_placed : List ℕ → ℕ → Bool
is_placed file i =
    nat_le (p_filesz file i) (p_memsz file i)
    && ((p_filesz file i == 0 || nat_le (p_offset file i + p_filesz file i) (length file))
    && (nat_le segments_start (base file + p_vaddr file i) && nat_le (base file + p_vaddr file i + p_memsz file i) maps_end))

-- ---- two segments that are loaded

abbrev pub both_loaded : List ℕ → ℕ → ℕ → Bool
both_loaded file i j = is_loaded file i && is_loaded file j

-- both are loaded and share a byte
unfoldable pub overlap_at : List ℕ → ℕ → ℕ → Bool
overlap_at file i j = both_loaded file i j && shares_byte (segment file i) (segment file j)

-- both are loaded, and a page of both would be writable and executable
unfoldable pub clash_at : List ℕ → ℕ → ℕ → Bool
clash_at file i j = both_loaded file i j && clashes (segment file i) (segment file j)

-- a page would be writable and executable, by the rights of this segment alone or with an earlier one
unfoldable pub is_writable_code : List ℕ → ℕ → Bool
is_writable_code file i =
    (is_writable (segment file i).rights && is_executable (segment file i).rights) || any_below (λ j. clash_at file j i) i

-- ---- the first instruction

-- its address
abbrev pub entry : List ℕ → ℕ
entry file = base file + e_entry file

-- the segment is loaded, and the first instruction is in it
unfoldable pub runs_entry : List ℕ → ℕ → Bool
runs_entry file i = is_loaded file i && runs_at (segment file i) (entry file)

-- ---- what is made of the headers below n

-- the segment alone, or nothing
abbrev pub segment_if : Bool → SegmentImage → List SegmentImage
segment_if loaded segment = if loaded then segment ∷ [] else []

-- the segments that are loaded, in order
abbrev pub segments_below : List ℕ → ℕ → List SegmentImage
segments_below file n = below (λ i. segment_if (is_loaded file i) (segment file i)) n

-- the segment is loaded, and its bytes from the file hold the table of program headers whole
unfoldable pub holds_table : List ℕ → ℕ → Bool
holds_table file i =
    is_loaded file i
    && (nat_le (p_offset file i) (e_phoff file)
    && nat_le (e_phoff file + 56 * e_phnum file) (p_offset file i + p_filesz file i))

-- the address of the table in the segment of this header
abbrev pub table_address : List ℕ → Option ℕ → ℕ
table_address file None = 0
table_address file (Some i) = base file + p_vaddr file i + (e_phoff file - p_offset file i)

-- the address of the table in the first such segment, 0 where there is none
abbrev pub header_at : List ℕ → ℕ
header_at file = table_address file (first_below (holds_table file) (e_phnum file))

-- ---- what the checks found out of the headers below n

-- each segment that is loaded is placed
abbrev pub ArePlaced : List ℕ → ℕ → Type 0
ArePlaced file n = (i : ℕ) → i < n → is_loaded file i ≡ true → is_placed file i ≡ true

-- none that is loaded is writable and executable by its own rights
abbrev pub AreOneWay : List ℕ → ℕ → Type 0
AreOneWay file n =
    (i : ℕ) → i < n → is_loaded file i ≡ true → (is_writable (segment file i).rights && is_executable (segment file i).rights) ≡ false
