-- Where statements and labels stand, and what a statement becomes there.
-- The project's own.
use Rattle.std.specs.Prelude.{ℕ, ◌+◌, ◌*◌, ◌/◌, ◌%◌, ◌^◌, ◌==◌, nat_le, min, Bool, true, false, ◌&&◌, not, if◌then◌else◌, ℤ, pos, ◌-ℤ◌, List, [], ◌∷◌, ◌++◌, length, map, replicate, Option, Some, None, Result, Ok, Err}
use Rattle.std.specs.Int.{w16, w32, w64, to_le_bytes}
use Rattle.std.specs.Option.{option_map}
use Rattle.std.specs.Str.{bytes_eq}
use Rattle.isa_decode.specs.declared.instruction.Instr.{Instr}
use Rattle.isa_decode.specs.declared.instruction.Instr.TheVariants.{Auipc, Jal, Branch, OpImm}
use Rattle.isa_decode.specs.declared.instruction.ImmOp.TheVariants.{Addi}
use Rattle.isa_decode.specs.declared.instruction.Width.{Width}
use Rattle.isa_decode.specs.declared.instruction.Width.TheVariants as width
use Rattle.isa_asm.specs.declared.cause.AsmCause.{AsmCause}
use Rattle.isa_asm.specs.declared.cause.AsmCause.TheVariants as cause
use Rattle.isa_asm.specs.declared.cause.AsmFault.{AsmFault}
use Rattle.isa_asm.specs.declared.layout.Layout.{Layout}
use Rattle.isa_asm.specs.declared.layout.Spot.{Spot}
use Rattle.isa_asm.specs.Numbers.{high_part, low_part}
use Rattle.isa_asm.specs.Ranges.{in_range}
use Rattle.isa_asm.specs.Source.{Piece, piece_meaning}
use Rattle.isa_asm.specs.Statement.{Meaning, Nothing, Named, Section, One, Two, Jump, Conditional, Address, Number, Pointer, Zeros, Quoted, far}

abbrev pub width_size : Width → ℕ
width_size width.One = 1
width_size width.Two = 2
width_size width.Four = 4
width_size width.Eight = 8

-- how many bytes a statement has, whatever its place is
abbrev pub size_of : Meaning → ℕ
size_of Nothing = 0
size_of (Named name) = 0
size_of (Section in_data) = 0
size_of (One instr) = 4
size_of (Two first second) = 8
size_of (Jump rd name) = 4
size_of (Conditional cmp rs1 rs2 name) = 4
size_of (Address rd name) = 8
size_of (Number width value) = width_size width
size_of (Pointer name) = 8
size_of (Zeros size) = size
size_of (Quoted bytes) = length bytes

-- before the first statement
abbrev pub start : Layout
start = record { text_size = 0; data_size = 0; in_data = false }

-- with so many more bytes in the section that is written
abbrev pub moved : Layout → ℕ → Layout
moved layout size =
    if layout.in_data then record { text_size = layout.text_size; data_size = min (layout.data_size + size) far; in_data = layout.in_data }
    else record { text_size = min (layout.text_size + size) far; data_size = layout.data_size; in_data = layout.in_data }

abbrev pub in_section : Layout → Bool → Layout
in_section layout in_data = record { text_size = layout.text_size; data_size = layout.data_size; in_data = in_data }

abbrev pub after_meaning : Layout → Meaning → Layout
after_meaning layout Nothing = layout
after_meaning layout (Named name) = layout
after_meaning layout (Section in_data) = in_section layout in_data
after_meaning layout (One instr) = moved layout 4
after_meaning layout (Two first second) = moved layout 8
after_meaning layout (Jump rd name) = moved layout 4
after_meaning layout (Conditional cmp rs1 rs2 name) = moved layout 4
after_meaning layout (Address rd name) = moved layout 8
after_meaning layout (Number width value) = moved layout (width_size width)
after_meaning layout (Pointer name) = moved layout 8
after_meaning layout (Zeros size) = moved layout size
after_meaning layout (Quoted bytes) = moved layout (length bytes)

-- behind a statement; one without a meaning has no bytes
abbrev pub after_statement : Layout → Result Meaning AsmCause → Layout
after_statement layout (Err because) = layout
after_statement layout (Ok meaning) = after_meaning layout meaning

-- the sums of sizes behind all statements
unfoldable pub end_from : Layout → List Piece → Layout
end_from layout [] = layout
end_from layout (piece ∷ rest) = end_from (after_statement layout (piece_meaning piece)) rest

-- where the statement of this number stands in its section
abbrev pub here : ℕ → Layout → Spot
here index layout = record { index = index; in_data = layout.in_data; place = if layout.in_data then layout.data_size else layout.text_size }

abbrev pub names : List ℕ → Result Meaning AsmCause → Bool
names name (Err because) = false
names name (Ok Nothing) = false
names name (Ok (Named other)) = bytes_eq other name
names name (Ok (Section in_data)) = false
names name (Ok (One instr)) = false
names name (Ok (Two first second)) = false
names name (Ok (Jump rd target)) = false
names name (Ok (Conditional cmp rs1 rs2 target)) = false
names name (Ok (Address rd target)) = false
names name (Ok (Number width value)) = false
names name (Ok (Pointer target)) = false
names name (Ok (Zeros size)) = false
names name (Ok (Quoted bytes)) = false

-- where a label stands first
unfoldable pub spot_from : List ℕ → ℕ → Layout → List Piece → Option Spot
spot_from name index layout [] = None
spot_from name index layout (piece ∷ rest) =
    if names name (piece_meaning piece) then Some (here index layout)
    else spot_from name (index + 1) (after_statement layout (piece_meaning piece)) rest

-- what is known of all statements: where labels stand, and how many bytes the text has
pub record Places : Type 0 where
  pub spot : List ℕ → Option Spot
  pub text : ℕ

unfoldable pub places_of : List Piece → Places
places_of pieces = record { spot = λ name. spot_from name 0 start pieces; text = (end_from start pieces).text_size }

-- the multiple of a page's size at or above a number
abbrev pub rounded : ℕ → ℕ
rounded n = (n + 4095) / 4096 * 4096

-- the text's address, and that of the data at the next page boundary behind it
abbrev pub text_base : ℕ
text_base = 0x10000

abbrev pub data_base : ℕ → ℕ
data_base text = text_base + rounded text

abbrev pub address_at : ℕ → Spot → ℕ
address_at text spot = (if spot.in_data then data_base text else text_base) + spot.place

-- what is assembled: instructions, and bytes
pub data Item : Type 0 where
  Instruction : Instr → Item
  Byte : ℕ → Item

unfoldable pub checked : Instr → Result (List Item) AsmCause
checked instr = if in_range instr then Ok (Instruction instr ∷ []) else Err cause.Range

unfoldable pub checked_two : Instr → Instr → Result (List Item) AsmCause
checked_two first second = if in_range first && in_range second then Ok (Instruction first ∷ Instruction second ∷ []) else Err cause.Range

-- the address of a label
abbrev pub address_of : Places → List ℕ → Option ℕ
address_of places name = option_map (λ spot. address_at places.text spot) (places.spot name)

-- what uses the address of a label
abbrev pub at_label : {A : Type 0} → Option ℕ → (ℕ → Result A AsmCause) → Result A AsmCause
at_label None f = Err cause.Label
at_label (Some address) f = f address

-- a label stands first at the statement of this number
abbrev pub is_first_at : ℕ → Option Spot → Bool
is_first_at index None = false
is_first_at index (Some spot) = spot.index == index

abbrev pub number_bytes : Width → ℕ → List ℕ
number_bytes width.One value = value % 2 ^ 8 ∷ []
number_bytes width.Two value = to_le_bytes w16 (value % 2 ^ 16)
number_bytes width.Four value = to_le_bytes w32 (value % 2 ^ 32)
number_bytes width.Eight value = to_le_bytes w64 value

abbrev pub byte_items : List ℕ → List Item
byte_items bytes = map Byte bytes

-- the parts of an address less that of its `auipc`
abbrev pub address_items : ℕ → ℤ → Result (List Item) AsmCause
address_items rd distance = checked_two (Auipc rd (high_part distance)) (OpImm Addi rd rd (low_part distance))

-- what a statement of this number becomes at its place
unfoldable pub items_of : Places → ℕ → Layout → Meaning → Result (List Item) AsmCause
items_of places index layout Nothing = Ok []
items_of places index layout (Named name) = if is_first_at index (places.spot name) then Ok [] else Err cause.Twice
items_of places index layout (Section in_data) = Ok []
items_of places index layout (One instr) = checked instr
items_of places index layout (Two first second) = checked_two first second
items_of places index layout (Jump rd name) =
    at_label (address_of places name) (λ target. checked (Jal rd (pos target -ℤ pos (address_at places.text (here index layout)))))
items_of places index layout (Conditional cmp rs1 rs2 name) =
    at_label (address_of places name) (λ target. checked (Branch cmp rs1 rs2 (pos target -ℤ pos (address_at places.text (here index layout)))))
items_of places index layout (Address rd name) =
    at_label (address_of places name) (λ target. address_items rd (pos target -ℤ pos (address_at places.text (here index layout))))
items_of places index layout (Number width value) = Ok (byte_items (number_bytes width value))
items_of places index layout (Pointer name) = at_label (address_of places name) (λ target. Ok (byte_items (to_le_bytes w64 target)))
items_of places index layout (Zeros size) = Ok (byte_items (replicate size 0))
items_of places index layout (Quoted bytes) = Ok (byte_items bytes)

-- text and data have at most 1,048,576 bytes
abbrev pub limited : Layout → Result (List Item) AsmCause → Result (List Item) AsmCause
limited layout (Err because) = Err because
limited layout (Ok items) = if nat_le (layout.text_size + layout.data_size) (2 ^ 20) then Ok items else Err cause.TooBig

-- what a statement becomes, or its first cause
abbrev pub outcome : Places → ℕ → Layout → Result Meaning AsmCause → Result (List Item) AsmCause
outcome places index layout (Err because) = Err because
outcome places index layout (Ok meaning) = limited (after_meaning layout meaning) (items_of places index layout meaning)

abbrev pub fault_or : ℕ → Result (List Item) AsmCause → Option AsmFault → Option AsmFault
fault_or line (Err because) later = Some (record { line = line; cause = because })
fault_or line (Ok items) later = later

-- the cause of the first statement that has one
unfoldable pub fault_from : Places → ℕ → Layout → List Piece → Option AsmFault
fault_from places index layout [] = None
fault_from places index layout (piece ∷ rest) =
    fault_or piece.line (outcome places index layout (piece_meaning piece))
    (fault_from places (index + 1) (after_statement layout (piece_meaning piece)) rest)

abbrev pub kept : Bool → Result (List Item) AsmCause → List Item
kept keeps (Err because) = []
kept true (Ok items) = items
kept false (Ok items) = []

-- what stands in the data, or in the text
unfoldable pub items_from : Bool → Places → ℕ → Layout → List Piece → List Item
items_from of_data places index layout [] = []
items_from of_data places index layout (piece ∷ rest) =
    kept (if of_data then layout.in_data else not layout.in_data) (outcome places index layout (piece_meaning piece))
    ++ items_from of_data places (index + 1) (after_statement layout (piece_meaning piece)) rest
