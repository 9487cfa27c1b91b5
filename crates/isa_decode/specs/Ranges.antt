-- The ranges of an instruction's fields: registers from 0 to 31, and what the immediate's bits can hold.
-- Source: the RISC-V unprivileged manual, "Base Instruction Formats".
use Rattle.std.specs.Prelude.{◌≡◌, ℕ, ◌<◌, ◌%◌, ◌^◌, ◌≤ℤ◌, ◌<ℤ◌, ℤ, pos, neg_ℤ, unsigned_abs}
use Rattle.isa_decode.specs.declared.instruction.Instr.{Instr}
use Rattle.isa_decode.specs.declared.instruction.Instr.TheVariants.{Lui, Auipc, Jal, Jalr, Branch, Load, Store, OpImm, Op, LoadReserved, StoreConditional, Amo, Fence, Ecall, Ebreak}
use Rattle.isa_decode.specs.declared.instruction.ImmOp.{ImmOp}
use Rattle.isa_decode.specs.declared.instruction.ImmOp.TheVariants.{Addi, Slti, Sltiu, Xori, Ori, Andi, Slli, Srli, Srai, Addiw, Slliw, Srliw, Sraiw}

-- z is a multiple of step, from -half to below half
pub record IsImmediate (half step : ℕ) (z : ℤ) : Type 0 where
  pub least : neg_ℤ (pos half) ≤ℤ z
  pub most : z <ℤ pos half
  pub multiple : unsigned_abs z % step ≡ 0

-- z is from 0 to below limit
pub record IsAmount (limit : ℕ) (z : ℤ) : Type 0 where
  pub least : pos 0 ≤ℤ z
  pub most : z <ℤ pos limit

-- a signed number of 12 bits
abbrev pub IsShort : ℤ → Type 0
IsShort z = IsImmediate (2 ^ 11) 1 z

abbrev pub IsOperand : ImmOp → ℤ → Type 0
IsOperand Addi imm = IsShort imm
IsOperand Slti imm = IsShort imm
IsOperand Sltiu imm = IsShort imm
IsOperand Xori imm = IsShort imm
IsOperand Ori imm = IsShort imm
IsOperand Andi imm = IsShort imm
IsOperand Slli imm = IsAmount 64 imm
IsOperand Srli imm = IsAmount 64 imm
IsOperand Srai imm = IsAmount 64 imm
IsOperand Addiw imm = IsShort imm
IsOperand Slliw imm = IsAmount 32 imm
IsOperand Srliw imm = IsAmount 32 imm
IsOperand Sraiw imm = IsAmount 32 imm

abbrev pub InRange : Instr → Type 0
InRange (Lui rd imm) = (rd < 32) × IsImmediate (2 ^ 31) (2 ^ 12) imm
InRange (Auipc rd imm) = (rd < 32) × IsImmediate (2 ^ 31) (2 ^ 12) imm
InRange (Jal rd imm) = (rd < 32) × IsImmediate (2 ^ 20) 2 imm
InRange (Jalr rd rs1 imm) = (rd < 32) × (rs1 < 32) × IsShort imm
InRange (Branch cmp rs1 rs2 imm) = (rs1 < 32) × (rs2 < 32) × IsImmediate (2 ^ 12) 2 imm
InRange (Load kind rd rs1 imm) = (rd < 32) × (rs1 < 32) × IsShort imm
InRange (Store width rs1 rs2 imm) = (rs1 < 32) × (rs2 < 32) × IsShort imm
InRange (OpImm op rd rs1 imm) = (rd < 32) × (rs1 < 32) × IsOperand op imm
InRange (Op op rd rs1 rs2) = (rd < 32) × (rs1 < 32) × (rs2 < 32)
InRange (LoadReserved wide order rd rs1) = (order < 4) × (rd < 32) × (rs1 < 32)
InRange (StoreConditional wide order rd rs1 rs2) = (order < 4) × (rd < 32) × (rs1 < 32) × (rs2 < 32)
InRange (Amo op wide order rd rs1 rs2) = (order < 4) × (rd < 32) × (rs1 < 32) × (rs2 < 32)
InRange (Fence code rd rs1 imm) = (rd < 32) × (rs1 < 32) × IsShort imm
InRange Ecall = Unit {0}
InRange Ebreak = Unit {0}
