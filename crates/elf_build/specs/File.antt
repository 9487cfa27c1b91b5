-- The bytes of an ELF file.
-- Source: the System V ABI, "ELF Header" and "Program Header", and the ABI of RISC-V for the machine.
use Rattle.std.specs.Prelude.{ℕ, List, [], ◌∷◌, ◌++◌}
use Rattle.std.specs.Int.{w16, w32, w64, to_le_bytes}
use Rattle.std.specs.List.{flat_map}
use Rattle.elf_build.specs.declared.headers.ElfHeader.{ElfHeader}
use Rattle.elf_build.specs.declared.headers.ProgramHeader.{ProgramHeader}

-- 16 bytes of identification: the magic number, 64 bits, little-endian, version 1, and zeros
abbrev pub identification : List ℕ
identification = 0x7F ∷ 0x45 ∷ 0x4C ∷ 0x46 ∷ 2 ∷ 1 ∷ 1 ∷ 0 ∷ 0 ∷ 0 ∷ 0 ∷ 0 ∷ 0 ∷ 0 ∷ 0 ∷ 0 ∷ []

-- the type, RISC-V, version 1, the entry, the place of the program headers, no sections, the machine's flags, the size of
-- this header, the size and the number of program headers, no sections
unfoldable pub elf_header : ElfHeader → List ℕ
elf_header header =
    identification ++ to_le_bytes w16 header.kind ++ to_le_bytes w16 243 ++ to_le_bytes w32 1
    ++ to_le_bytes w64 header.entry ++ to_le_bytes w64 header.table ++ to_le_bytes w64 0
    ++ to_le_bytes w32 header.flags ++ to_le_bytes w16 64 ++ to_le_bytes w16 56 ++ to_le_bytes w16 header.count
    ++ to_le_bytes w16 0 ++ to_le_bytes w16 0 ++ to_le_bytes w16 0

-- the type, the flags, the place in the file, the address, twice, the sizes in the file and in memory, and the alignment
unfoldable pub program_header : ProgramHeader → List ℕ
program_header header =
    to_le_bytes w32 header.kind ++ to_le_bytes w32 header.flags ++ to_le_bytes w64 header.offset
    ++ to_le_bytes w64 header.address ++ to_le_bytes w64 header.address
    ++ to_le_bytes w64 header.file_size ++ to_le_bytes w64 header.memory_size ++ to_le_bytes w64 4096

-- the header, the program headers, and bytes behind them
unfoldable pub file : ElfHeader → List ProgramHeader → List ℕ → List ℕ
file header program_headers rest = elf_header header ++ flat_map program_header program_headers ++ rest

-- the program headers stand right behind the header; no flags
abbrev pub with_table_behind : ℕ → ℕ → ℕ → ElfHeader
with_table_behind kind entry count = record { kind = kind; entry = entry; table = 64; flags = 0; count = count }

-- of a segment that is loaded
abbrev pub loaded : ℕ → ℕ → ℕ → ℕ → ℕ → ProgramHeader
loaded flags address memory_size offset file_size =
    record { kind = 1; flags = flags; offset = offset; address = address; file_size = file_size; memory_size = memory_size }
