-- The file of a source.
-- Source: the System V ABI, "ELF Header" and "Program Header", and the ABI of RISC-V for the machine and the flags.
use Rattle.std.specs.Prelude.{◌≡◌, ◌≢◌, ◌<◌, ◌^◌, ℕ, ◌+◌, ◌-◌, ◌==◌, true, false, if◌then◌else◌, List, [], ◌∷◌, ◌++◌, length, codes, replicate, unwrap_or, Option, Some, None}
use Rattle.std.specs.Int.{w16, w32, w64, to_le_bytes}
use Rattle.isa_decode.specs.Listing.{IsWord}
use Rattle.isa_asm.specs.declared.cause.AsmCause.TheVariants as cause
use Rattle.isa_asm.specs.declared.cause.AsmFault.{AsmFault}
use Rattle.isa_asm.specs.Places.{Item, Instruction, Byte, Places, address_of, data_base, fault_from, items_from, places_of, rounded, start, text_base}
use Rattle.isa_asm.specs.Source.{Piece, pieces}

-- an instruction is its word as four bytes, the lowest first
abbrev pub Spells : List Item → List ℕ → Type 0
Spells [] bytes = bytes ≡ []
Spells (Instruction instr ∷ items) bytes = (word : ℕ) × (rest : List ℕ) × (word < 2 ^ 32) × IsWord word instr × (bytes ≡ to_le_bytes w32 word ++ rest) × Spells items rest
Spells (Byte byte ∷ items) bytes = (rest : List ℕ) × (bytes ≡ byte ∷ rest) × Spells items rest

-- 16 bytes of identification: the magic number, 64 bits, little-endian, version 1, and zeros
abbrev pub identification : List ℕ
identification = 0x7F ∷ 0x45 ∷ 0x4C ∷ 0x46 ∷ 2 ∷ 1 ∷ 1 ∷ 0 ∷ 0 ∷ 0 ∷ 0 ∷ 0 ∷ 0 ∷ 0 ∷ 0 ∷ 0 ∷ []

-- type EXEC, RISC-V, version 1, the entry, the program headers behind this header, no sections, compressed instructions
unfoldable pub file_header : ℕ → ℕ → List ℕ
file_header entry headers =
    identification ++ to_le_bytes w16 2 ++ to_le_bytes w16 243 ++ to_le_bytes w32 1
    ++ to_le_bytes w64 entry ++ to_le_bytes w64 64 ++ to_le_bytes w64 0
    ++ to_le_bytes w32 1 ++ to_le_bytes w16 64 ++ to_le_bytes w16 56 ++ to_le_bytes w16 headers
    ++ to_le_bytes w16 0 ++ to_le_bytes w16 0 ++ to_le_bytes w16 0

-- a segment to be loaded, with its rights (4 to read, 2 to write, 1 to execute), its place in the file, its address, twice,
-- its size, twice, and the alignment
unfoldable pub program_header : ℕ → ℕ → ℕ → ℕ → List ℕ
program_header rights place address size =
    to_le_bytes w32 1 ++ to_le_bytes w32 rights ++ to_le_bytes w64 place
    ++ to_le_bytes w64 address ++ to_le_bytes w64 address
    ++ to_le_bytes w64 size ++ to_le_bytes w64 size ++ to_le_bytes w64 4096

-- with zeros up to a length
abbrev pub padded : ℕ → List ℕ → List ℕ
padded size bytes = bytes ++ replicate (size - length bytes) 0

abbrev pub text_header : List ℕ → List ℕ
text_header text = program_header 5 4096 text_base (length text)

-- the text from 4096 on; data at the next multiple of that
unfoldable pub file : ℕ → List ℕ → List ℕ → List ℕ
file entry text [] = padded 4096 (file_header entry 1 ++ text_header text) ++ text
file entry text (byte ∷ more) =
    padded (4096 + rounded (length text))
    (padded 4096 (file_header entry 2 ++ text_header text ++ program_header 6 (4096 + rounded (length text)) (data_base (length text)) (length (byte ∷ more))) ++ text)
    ++ byte ∷ more

-- the address of `_start`, or the text's
abbrev pub entry_of : Places → ℕ
entry_of places = unwrap_or (address_of places (codes "_start")) text_base

-- a fault of a statement, or else that there is no text
abbrev pub fault_or_empty : Option AsmFault → ℕ → Option AsmFault
fault_or_empty (Some fault) text = Some fault
fault_or_empty None text = if text == 0 then Some (record { line = 0; cause = cause.NoText }) else None

unfoldable pub fault_of : List Piece → Option AsmFault
fault_of statements = fault_or_empty (fault_from (places_of statements) 0 start statements) (places_of statements).text

-- the file of statements: what they become, in text and data
pub record IsFile (statements : List Piece) (bytes : List ℕ) : Type 0 where
  pub text : List ℕ
  pub data_bytes : List ℕ
  pub text_spells : Spells (items_from false (places_of statements) 0 start statements) text
  pub data_spells : Spells (items_from true (places_of statements) 0 start statements) data_bytes
  pub whole : bytes ≡ file (entry_of (places_of statements)) text data_bytes

-- the bytes are those of the source
pub record IsAssembled (source bytes : List ℕ) : Type 0 where
  pub faultless : fault_of (pieces source) ≡ None
  pub written : IsFile (pieces source) bytes

-- want of memory
abbrev pub no_memory : AsmFault
no_memory = record { line = 0; cause = cause.Memory }

-- a fault that is told is the source's, save for want of memory
abbrev pub IsFaultOf : List ℕ → AsmFault → Type 0
IsFaultOf source fault = fault ≢ no_memory → fault_of (pieces source) ≡ Some fault
