-- What an operation on two registers gives. Values are numbers below 2 ^ 64, and a signed reading is taken only where the
-- operation is signed.
-- Source: the RISC-V unprivileged manual, "RV32I", "RV64I" and "M" Standard Extension for Integer Multiplication and
-- Division.
use Rattle.std.specs.Prelude.{ℕ, ◌+◌, ◌-◌, ◌*◌, ◌/◌, ◌%◌, ◌^◌, ◌==◌, Bool, not, nat_lt, if◌then◌else◌, ℤ, pos, ◌*ℤ◌, int_lt, int_div, int_rem, bit_and, bit_or, bit_xor}
use Rattle.std.specs.Int.{w32, w64, cast_signed, cast_unsigned, int_shr}
use Rattle.isa_decode.specs.declared.instruction.AluOp.{AluOp}
use Rattle.isa_decode.specs.declared.instruction.AluOp.TheVariants.{Add, Sub, Sll, Slt, Sltu, Xor, Srl, Sra, Or, And, Mul, Mulh, Mulhsu, Mulhu, Div, Divu, Rem, Remu, Addw, Subw, Sllw, Srlw, Sraw, Mulw, Divw, Divuw, Remw, Remuw}
use Rattle.isa_decode.specs.declared.instruction.ImmOp.{ImmOp}
use Rattle.isa_decode.specs.declared.instruction.ImmOp.TheVariants.{Addi, Slti, Sltiu, Xori, Ori, Andi, Slli, Srli, Srai, Addiw, Slliw, Srliw, Sraiw}
use Rattle.isa_decode.specs.declared.instruction.Cmp.{Cmp}
use Rattle.isa_decode.specs.declared.instruction.Cmp.TheVariants.{Beq, Bne, Blt, Bge, Bltu, Bgeu}

-- the number read in two's complement of 64 bits, and its lower 32 bits in that of 32 bits
abbrev pub signed : ℕ → ℤ
signed n = cast_signed w64 n

abbrev pub lower : ℕ → ℕ
lower n = n % 2 ^ 32

abbrev pub signed_lower : ℕ → ℤ
signed_lower n = cast_signed w32 (lower n)

-- the number of 64 bits that a signed number is in two's complement
abbrev pub number : ℤ → ℕ
number z = cast_unsigned w64 z

-- the lower 32 bits, sign-extended
abbrev pub extended : ℕ → ℕ
extended n = number (signed_lower n)

abbrev pub all_ones : ℕ
all_ones = 2 ^ 64 - 1

abbrev pub bit : Bool → ℕ
bit b = if b then 1 else 0

abbrev pub alu : AluOp → ℕ → ℕ → ℕ
alu Add a b = (a + b) % 2 ^ 64
alu Sub a b = (a + (2 ^ 64 - b)) % 2 ^ 64
alu Sll a b = a * 2 ^ (b % 64) % 2 ^ 64
alu Slt a b = bit (int_lt (signed a) (signed b))
alu Sltu a b = bit (nat_lt a b)
alu Xor a b = bit_xor a b
alu Srl a b = a / 2 ^ (b % 64)
alu Sra a b = number (int_shr (signed a) (b % 64))
alu Or a b = bit_or a b
alu And a b = bit_and a b
alu Mul a b = a * b % 2 ^ 64
alu Mulh a b = number (int_shr (signed a *ℤ signed b) 64)
alu Mulhsu a b = number (int_shr (signed a *ℤ pos b) 64)
alu Mulhu a b = a * b / 2 ^ 64
alu Div a b = if b == 0 then all_ones else number (int_div (signed a) (signed b))
alu Divu a b = if b == 0 then all_ones else a / b
alu Rem a b = if b == 0 then a else number (int_rem (signed a) (signed b))
alu Remu a b = if b == 0 then a else a % b
alu Addw a b = extended (a + b)
alu Subw a b = extended (a + (2 ^ 64 - b))
alu Sllw a b = extended (a * 2 ^ (b % 32))
alu Srlw a b = extended (lower a / 2 ^ (b % 32))
alu Sraw a b = number (int_shr (signed_lower a) (b % 32))
alu Mulw a b = extended (a * b)
alu Divw a b = if lower b == 0 then all_ones else extended (number (int_div (signed_lower a) (signed_lower b)))
alu Divuw a b = if lower b == 0 then all_ones else extended (lower a / lower b)
alu Remw a b = if lower b == 0 then extended a else extended (number (int_rem (signed_lower a) (signed_lower b)))
alu Remuw a b = if lower b == 0 then extended a else extended (lower a % lower b)

-- the operation that does the same with a register in place of the immediate, which is sign-extended to 64 bits
abbrev pub with_register_operand : ImmOp → AluOp
with_register_operand Addi = Add
with_register_operand Slti = Slt
with_register_operand Sltiu = Sltu
with_register_operand Xori = Xor
with_register_operand Ori = Or
with_register_operand Andi = And
with_register_operand Slli = Sll
with_register_operand Srli = Srl
with_register_operand Srai = Sra
with_register_operand Addiw = Addw
with_register_operand Slliw = Sllw
with_register_operand Srliw = Srlw
with_register_operand Sraiw = Sraw

-- whether a branch is taken
abbrev pub is_taken : Cmp → ℕ → ℕ → Bool
is_taken Beq a b = a == b
is_taken Bne a b = not (a == b)
is_taken Blt a b = int_lt (signed a) (signed b)
is_taken Bge a b = not (int_lt (signed a) (signed b))
is_taken Bltu a b = nat_lt a b
is_taken Bgeu a b = not (nat_lt a b)
