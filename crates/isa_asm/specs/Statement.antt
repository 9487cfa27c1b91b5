-- What a statement means, by its form.
-- Source: the instructions' printed text, the RISC-V assembly programmer's manual for pseudo-instructions, and the GNU
-- assembler's manual for directives, of each a choice of the project's own.
use Rattle.std.specs.Prelude.{ℕ, ◌-◌, ◌^◌, ◌==◌, min, Bool, true, false, ◌&&◌, if◌then◌else◌, ℤ, pos, neg_ℤ, ◌-ℤ◌, int_le, int_lt, List, [], ◌∷◌, Option, Some, None, option_and_then, Result, Ok, Err}
use Rattle.std.specs.Option.{option_map}
use Rattle.isa_decode.specs.declared.instruction.Instr.{Instr}
use Rattle.isa_decode.specs.declared.instruction.Instr.TheVariants.{Lui, Auipc, Jal, Jalr, Branch, Load, Store, OpImm, Op, LoadReserved, StoreConditional, Amo, Fence, Ecall, Ebreak}
use Rattle.isa_decode.specs.declared.instruction.Cmp.{Cmp}
use Rattle.isa_decode.specs.declared.instruction.LoadKind.{LoadKind}
use Rattle.isa_decode.specs.declared.instruction.Width.{Width}
use Rattle.isa_decode.specs.declared.instruction.Width.TheVariants as width
use Rattle.isa_decode.specs.declared.instruction.ImmOp.{ImmOp}
use Rattle.isa_decode.specs.declared.instruction.ImmOp.TheVariants.{Addi, Addiw}
use Rattle.isa_decode.specs.declared.instruction.AluOp.{AluOp}
use Rattle.isa_asm.specs.declared.cause.AsmCause.{AsmCause}
use Rattle.isa_asm.specs.declared.cause.AsmCause.TheVariants as cause
use Rattle.isa_asm.specs.declared.kind.Kind.{Kind}
use Rattle.isa_asm.specs.declared.kind.Kind.TheVariants as kind
use Rattle.isa_asm.specs.declared.kind.Atomic.{Atomic}
use Rattle.isa_asm.specs.declared.kind.Atomic.TheVariants as atomic
use Rattle.isa_asm.specs.declared.literal.Literal.{Literal}
use Rattle.isa_asm.specs.Lexing.{behind_word, first_word, is_all_blank, without_front}
use Rattle.isa_asm.specs.Kinds.{kind_named}
use Rattle.isa_asm.specs.Numbers.{high_part, low_part, natural, signed_64, stored, upper}
use Rattle.isa_asm.specs.Operands.{Target, Offset, Label, label, number, register_and_address, register_and_label, register_and_memory, register_and_number, register_and_target, target, three_registers, two_and_address, two_and_number, two_and_target, two_registers}

pub data Meaning : Type 0 where
  Nothing : Meaning
  -- a label
  Named : List ℕ → Meaning
  -- what follows stands in the data, or in the text
  Section : Bool → Meaning
  One : Instr → Meaning
  Two : Instr → Instr → Meaning
  -- `jal` to a label, which keeps the place behind it in a register
  Jump : ℕ → List ℕ → Meaning
  Conditional : Cmp → ℕ → ℕ → List ℕ → Meaning
  -- the address of a label into a register
  Address : ℕ → List ℕ → Meaning
  Number : Width → ℕ → Meaning
  -- the address of a label as 8 bytes
  Pointer : List ℕ → Meaning
  Zeros : ℕ → Meaning
  Quoted : List ℕ → Meaning

-- operands of the right number and form, or the cause
abbrev pub on_operands : {A : Type 0} → Option A → (A → Result Meaning AsmCause) → Result Meaning AsmCause
on_operands None f = Err cause.Operand
on_operands (Some found) f = f found

-- a number that its field holds, or the cause
abbrev pub in_field : {A : Type 0} → Option A → (A → Result Meaning AsmCause) → Result Meaning AsmCause
in_field None f = Err cause.Range
in_field (Some held) f = f held

unfoldable pub lui : List ℕ → Result Meaning AsmCause
lui text = on_operands (register_and_number text) (λ found. in_field (upper found.1) (λ imm. Ok (One (Lui found.0 imm))))

unfoldable pub auipc : List ℕ → Result Meaning AsmCause
auipc text = on_operands (register_and_number text) (λ found. in_field (upper found.1) (λ imm. Ok (One (Auipc found.0 imm))))

unfoldable pub jump_to : ℕ → Target → Result Meaning AsmCause
jump_to rd (Offset offset) = in_field (signed_64 offset) (λ imm. Ok (One (Jal rd imm)))
jump_to rd (Label name) = Ok (Jump rd name)

unfoldable pub jal : List ℕ → Result Meaning AsmCause
jal text = on_operands (register_and_target text) (λ found. jump_to found.0 found.1)

unfoldable pub jalr : List ℕ → Result Meaning AsmCause
jalr text = on_operands (register_and_memory text) (λ found. in_field (signed_64 found.1.0) (λ imm. Ok (One (Jalr found.0 found.1.1 imm))))

unfoldable pub branch_to : Cmp → ℕ → ℕ → Target → Result Meaning AsmCause
branch_to cmp rs1 rs2 (Offset offset) = in_field (signed_64 offset) (λ imm. Ok (One (Branch cmp rs1 rs2 imm)))
branch_to cmp rs1 rs2 (Label name) = Ok (Conditional cmp rs1 rs2 name)

unfoldable pub branch : Cmp → List ℕ → Result Meaning AsmCause
branch cmp text = on_operands (two_and_target text) (λ found. branch_to cmp found.0 found.1.0 found.1.1)

unfoldable pub branch_zero : Cmp → List ℕ → Result Meaning AsmCause
branch_zero cmp text = on_operands (register_and_target text) (λ found. branch_to cmp found.0 0 found.1)

unfoldable pub load : LoadKind → List ℕ → Result Meaning AsmCause
load loads text = on_operands (register_and_memory text) (λ found. in_field (signed_64 found.1.0) (λ imm. Ok (One (Load loads found.0 found.1.1 imm))))

unfoldable pub store : Width → List ℕ → Result Meaning AsmCause
store width text = on_operands (register_and_memory text) (λ found. in_field (signed_64 found.1.0) (λ imm. Ok (One (Store width found.1.1 found.0 imm))))

unfoldable pub immediate : ImmOp → List ℕ → Result Meaning AsmCause
immediate op text = on_operands (two_and_number text) (λ found. in_field (signed_64 found.1.1) (λ imm. Ok (One (OpImm op found.0 found.1.0 imm))))

unfoldable pub operation : AluOp → List ℕ → Result Meaning AsmCause
operation op text = on_operands (three_registers text) (λ found. Ok (One (Op op found.0 found.1.0 found.1.1)))

unfoldable pub fence : Bool → List ℕ → Result Meaning AsmCause
fence code text = on_operands (two_and_number text) (λ found. in_field (signed_64 found.1.1) (λ imm. Ok (One (Fence code found.0 found.1.0 imm))))

-- no operand may stand behind this
unfoldable pub alone : Meaning → List ℕ → Result Meaning AsmCause
alone meaning text = if is_all_blank text then Ok meaning else Err cause.Operand

unfoldable pub load_reserved : Bool → ℕ → List ℕ → Result Meaning AsmCause
load_reserved wide order text = on_operands (register_and_address text) (λ found. Ok (One (LoadReserved wide order found.0 found.1)))

-- an atomic operation that stores: `rd, rs2, (rs1)`
abbrev pub storing : Atomic → Bool → ℕ → ℕ → ℕ → ℕ → Instr
storing atomic.LoadReserved wide order rd rs2 rs1 = LoadReserved wide order rd rs1
storing atomic.StoreConditional wide order rd rs2 rs1 = StoreConditional wide order rd rs1 rs2
storing (atomic.Amo op) wide order rd rs2 rs1 = Amo op wide order rd rs1 rs2

unfoldable pub atomic_storing : Atomic → Bool → ℕ → List ℕ → Result Meaning AsmCause
atomic_storing op wide order text = on_operands (two_and_address text) (λ found. Ok (One (storing op wide order found.0 found.1.0 found.1.1)))

unfoldable pub atomic_of : Atomic → Bool → ℕ → List ℕ → Result Meaning AsmCause
atomic_of atomic.LoadReserved wide order text = load_reserved wide order text
atomic_of atomic.StoreConditional wide order text = atomic_storing atomic.StoreConditional wide order text
atomic_of (atomic.Amo op) wide order text = atomic_storing (atomic.Amo op) wide order text

-- `lui` has the upper 20 bits of 32: 2^31 is written as -2^31
abbrev pub wrapped : ℤ → ℤ
wrapped z = if int_lt z (pos (2 ^ 31)) then z else z -ℤ pos (2 ^ 32)

abbrev pub is_signed : ℕ → ℤ → Bool
is_signed half z = int_le (neg_ℤ (pos half)) z && int_lt z (pos half)

-- a number of 12 bits by one instruction, one of 32 bits by two
unfoldable pub immediate_into : ℕ → ℤ → Result Meaning AsmCause
immediate_into rd n =
    if is_signed (2 ^ 11) n then Ok (One (OpImm Addi rd 0 n))
    else (if is_signed (2 ^ 31) n then Ok (Two (Lui rd (wrapped (high_part n))) (OpImm Addiw rd rd (low_part n))) else Err cause.Range)

unfoldable pub load_immediate : List ℕ → Result Meaning AsmCause
load_immediate text = on_operands (register_and_number text) (λ found. in_field (signed_64 found.1) (λ n. immediate_into found.0 n))

unfoldable pub load_address : List ℕ → Result Meaning AsmCause
load_address text = on_operands (register_and_label text) (λ found. Ok (Address found.0 found.1))

unfoldable pub copy : List ℕ → Result Meaning AsmCause
copy text = on_operands (two_registers text) (λ found. Ok (One (OpImm Addi found.0 found.1 (pos 0))))

-- `j` and `call`, which keep the place behind them in x0 and x1
unfoldable pub jump : ℕ → List ℕ → Result Meaning AsmCause
jump rd text = on_operands (label text) (λ name. Ok (Jump rd name))

-- half of the range of a number of these bytes
abbrev pub half_of : Width → ℕ
half_of width.One = 2 ^ 7
half_of width.Two = 2 ^ 15
half_of width.Four = 2 ^ 31
half_of width.Eight = 2 ^ 63

unfoldable pub number_of : Width → Literal → Result Meaning AsmCause
number_of width literal = in_field (stored (half_of width) literal) (λ value. Ok (Number width value))

unfoldable pub numbers : Width → List ℕ → Result Meaning AsmCause
numbers width text = on_operands (number text) (λ literal. number_of width literal)

unfoldable pub doubleword_of : Target → Result Meaning AsmCause
doubleword_of (Offset literal) = number_of width.Eight literal
doubleword_of (Label name) = Ok (Pointer name)

unfoldable pub doubleword : List ℕ → Result Meaning AsmCause
doubleword text = on_operands (target text) (λ found. doubleword_of found)

-- Places stand still here, far behind what a program may have: no offset reaches over it.
abbrev pub far : ℕ
far = 2 ^ 32 - 1

unfoldable pub space : List ℕ → Result Meaning AsmCause
space text = on_operands (number text) (λ literal. in_field (natural literal) (λ size. Ok (Zeros (min size far))))

-- what stands behind a backslash: `n`, `0`, `\` or `"`
abbrev pub escape : ℕ → Option ℕ
escape byte =
    if byte == 110 then Some 10 else (if byte == 48 then Some 0 else (if byte == 92 then Some 92 else (if byte == 34 then Some 34 else None)))

-- the bytes of a quoted text, from behind its first quotation mark or from behind a backslash in it. Nothing but blanks
-- may follow the second one
unfoldable pub quoted_bytes : Bool → List ℕ → Option (List ℕ)
quoted_bytes escaped [] = None
quoted_bytes true (byte ∷ bytes) = option_and_then (λ meant. option_map (λ rest. meant ∷ rest) (quoted_bytes false bytes)) (escape byte)
quoted_bytes false (byte ∷ bytes) =
    if byte == 34 then (if is_all_blank bytes then Some [] else None)
    else (if byte == 92 then quoted_bytes true bytes else option_map (λ rest. byte ∷ rest) (quoted_bytes false bytes))

abbrev pub behind_mark : List ℕ → Option (List ℕ)
behind_mark [] = None
behind_mark (byte ∷ bytes) = if byte == 34 then Some bytes else None

unfoldable pub ascii : List ℕ → Result Meaning AsmCause
ascii text = on_operands (behind_mark (without_front text)) (λ quoted. on_operands (quoted_bytes false quoted) (λ bytes. Ok (Quoted bytes)))

-- a kind with the text behind its name
unfoldable pub kind_meaning : Kind → List ℕ → Result Meaning AsmCause
kind_meaning kind.Lui text = lui text
kind_meaning kind.Auipc text = auipc text
kind_meaning kind.Jal text = jal text
kind_meaning kind.Jalr text = jalr text
kind_meaning (kind.Branch cmp) text = branch cmp text
kind_meaning (kind.Load loads) text = load loads text
kind_meaning (kind.Store width) text = store width text
kind_meaning (kind.Immediate op) text = immediate op text
kind_meaning (kind.Operation op) text = operation op text
kind_meaning (kind.Fence code) text = fence code text
kind_meaning kind.Ecall text = alone (One Ecall) text
kind_meaning kind.Ebreak text = alone (One Ebreak) text
kind_meaning (kind.Atomic op wide order) text = atomic_of op wide order text
kind_meaning kind.LoadImmediate text = load_immediate text
kind_meaning kind.LoadAddress text = load_address text
kind_meaning kind.Move text = copy text
kind_meaning kind.Nop text = alone (One (OpImm Addi 0 0 (pos 0))) text
kind_meaning kind.Return text = alone (One (Jalr 0 1 (pos 0))) text
kind_meaning kind.Jump text = jump 0 text
kind_meaning kind.Call text = jump 1 text
kind_meaning (kind.BranchZero cmp) text = branch_zero cmp text
kind_meaning kind.Text text = alone (Section false) text
kind_meaning kind.Data text = alone (Section true) text
kind_meaning (kind.Number width) text = numbers width text
kind_meaning kind.Doubleword text = doubleword text
kind_meaning kind.Space text = space text
kind_meaning kind.Ascii text = ascii text

-- a first word that is there, with the text behind it
abbrev pub word_meaning : Option Kind → List ℕ → Result Meaning AsmCause
word_meaning None text = Err cause.Word
word_meaning (Some named) text = kind_meaning named text

-- an instruction, a pseudo-instruction or a directive; blanks alone mean nothing
unfoldable pub body_meaning : List ℕ → Result Meaning AsmCause
body_meaning text = if is_all_blank text then Ok Nothing else word_meaning (kind_named (first_word text)) (behind_word text)
