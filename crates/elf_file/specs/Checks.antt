-- The checks of a file in the order in which they are made: what must hold, and the refusal where it does not.
-- Source: System V ABI, ELF-64; RISC-V ELF psABI, "File Header" (machine 243, flags 0x6 for a float ABI and 0x8 for
-- RV64E). The bounds of addresses, and that no page is writable and executable, are the project's own.
use Rattle.std.specs.Prelude.{ℕ, ◌+◌, ◌*◌, ◌%◌, Bool, not, ◌||◌, ◌==◌, nat_eq, nat_le, if◌then◌else◌, bit_and, List, [], ◌∷◌, ◌++◌, length, Option, Some, None}
use Rattle.std.specs.List.{starts_with}
use Rattle.elf_file.specs.declared.fault.ElfFault.{ElfFault}
use Rattle.elf_file.specs.declared.fault.ElfFault.TheVariants.{Short, NotElf, NotRiscv, Kind, FloatAbi, Embedded, HeaderSize, Interpreter, BadSegment, WritableCode, Overlap, Entry}
use Rattle.elf_file.specs.Fields.{e_type, e_machine, e_phoff, e_flags, e_phentsize, e_phnum, p_type}
use Rattle.elf_file.specs.Below.{below, any_below}
use Rattle.elf_file.specs.Headers.{is_loaded, is_placed, is_writable_code, overlap_at, runs_entry, entry}

-- what must hold, and the refusal where it does not
pub record Check : Type 0 where
  pub holds : Bool
  pub otherwise : ElfFault

-- the refusal of the first check that fails
unfoldable pub first_fault : List Check → Option ElfFault
first_fault [] = None
first_fault (check ∷ checks) = if check.holds then first_fault checks else Some check.otherwise

abbrev pub check : Bool → ElfFault → Check
check holds otherwise = record { holds = holds; otherwise = otherwise }

-- the header: its length, its identity (64 bits, little-endian, version 1), machine, type and flags
unfoldable pub header_checks : List ℕ → List Check
header_checks file =
    check (nat_le 64 (length file)) Short
    ∷ check (starts_with nat_eq file (0x7F ∷ 0x45 ∷ 0x4C ∷ 0x46 ∷ 2 ∷ 1 ∷ 1 ∷ [])) NotElf
    ∷ check (e_machine file == 243) NotRiscv
    ∷ check (e_type file == 2 || e_type file == 3) Kind
    ∷ check (bit_and (e_flags file) 0x6 == 0) FloatAbi
    ∷ check (bit_and (e_flags file) 0x8 == 0) Embedded
    ∷ []

-- the file holds its program headers, if it has any
unfoldable pub has_table : List ℕ → Bool
has_table file = e_phnum file == 0 || nat_le (e_phoff file + 56 * e_phnum file) (length file)

-- the table of program headers: the size of each, and that they lie in the file
unfoldable pub table_checks : List ℕ → List Check
table_checks file =
    check (e_phnum file == 0 || e_phentsize file == 56) (HeaderSize (e_phentsize file)) ∷ check (has_table file) Short ∷ []

-- a program header: it names no interpreter, and where it is loaded it is well placed and makes no page both writable
-- and executable
unfoldable pub segment_checks : List ℕ → ℕ → List Check
segment_checks file i =
    check (not (p_type file i == 3)) Interpreter
    ∷ check (not (is_loaded file i) || is_placed file i) (BadSegment i)
    ∷ check (not (is_loaded file i) || not (is_writable_code file i)) (WritableCode i)
    ∷ []

-- a segment j and an earlier one i: they share no byte
unfoldable pub pair_checks : List ℕ → ℕ → ℕ → List Check
pair_checks file j i = check (not (overlap_at file i j)) (Overlap i j) ∷ []

-- a segment and the earlier ones
unfoldable pub overlap_checks : List ℕ → ℕ → List Check
overlap_checks file j = below (pair_checks file j) j

-- the first instruction: its address is even, and in a segment that can be executed
unfoldable pub entry_checks : List ℕ → List Check
entry_checks file =
    check (entry file % 2 == 0) Entry ∷ check (any_below (runs_entry file) (e_phnum file)) Entry ∷ []

abbrev pub checks : List ℕ → List Check
checks file =
    header_checks file
    ++ (table_checks file
    ++ (below (segment_checks file) (e_phnum file) ++ (below (overlap_checks file) (e_phnum file) ++ entry_checks file)))
