-- The fields of an ELF-64 file. A number is little-endian; a field that passes the file's end reads 0.
-- Source: System V ABI, ELF-64 object file format, "ELF header" and "Program header".
use Rattle.std.specs.Prelude.{ℕ, ◌+◌, ◌*◌, List, unwrap_or}
use Rattle.le_fields.specs.Fields.{field_at}

-- the number of n bytes at an offset
unfoldable pub field : ℕ → ℕ → List ℕ → ℕ
field n at file = unwrap_or (field_at n at file) 0

-- ---- the file's header

abbrev pub e_type : List ℕ → ℕ
e_type file = field 2 16 file

abbrev pub e_machine : List ℕ → ℕ
e_machine file = field 2 18 file

abbrev pub e_entry : List ℕ → ℕ
e_entry file = field 8 24 file

abbrev pub e_phoff : List ℕ → ℕ
e_phoff file = field 8 32 file

abbrev pub e_flags : List ℕ → ℕ
e_flags file = field 4 48 file

abbrev pub e_phentsize : List ℕ → ℕ
e_phentsize file = field 2 54 file

abbrev pub e_phnum : List ℕ → ℕ
e_phnum file = field 2 56 file

-- ---- the program header of an index

abbrev pub header_place : List ℕ → ℕ → ℕ
header_place file i = e_phoff file + 56 * i

abbrev pub p_type : List ℕ → ℕ → ℕ
p_type file i = field 4 (header_place file i) file

abbrev pub p_flags : List ℕ → ℕ → ℕ
p_flags file i = field 4 (header_place file i + 4) file

abbrev pub p_offset : List ℕ → ℕ → ℕ
p_offset file i = field 8 (header_place file i + 8) file

abbrev pub p_vaddr : List ℕ → ℕ → ℕ
p_vaddr file i = field 8 (header_place file i + 16) file

abbrev pub p_filesz : List ℕ → ℕ → ℕ
p_filesz file i = field 8 (header_place file i + 32) file

abbrev pub p_memsz : List ℕ → ℕ → ℕ
p_memsz file i = field 8 (header_place file i + 40) file
