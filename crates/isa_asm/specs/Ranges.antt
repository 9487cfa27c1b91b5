-- Whether an instruction's fields hold its numbers, as a test.
-- Source: the RISC-V unprivileged manual, "Base Instruction Formats".
use Rattle.std.specs.Prelude.{ℕ, ◌%◌, ◌^◌, ◌==◌, nat_lt, Bool, true, ◌&&◌, ℤ, pos, neg_ℤ, int_le, int_lt, unsigned_abs}
use Rattle.isa_decode.specs.declared.instruction.Instr.{Instr}
use Rattle.isa_decode.specs.declared.instruction.Instr.TheVariants.{Lui, Auipc, Jal, Jalr, Branch, Load, Store, OpImm, Op, LoadReserved, StoreConditional, Amo, Fence, Ecall, Ebreak}
use Rattle.isa_decode.specs.declared.instruction.ImmOp.{ImmOp}
use Rattle.isa_decode.specs.declared.instruction.ImmOp.TheVariants.{Addi, Slti, Sltiu, Xori, Ori, Andi, Slli, Srli, Srai, Addiw, Slliw, Srliw, Sraiw}

-- a multiple of step, from -half to below half
abbrev pub is_immediate : ℕ → ℕ → ℤ → Bool
is_immediate half step z = int_le (neg_ℤ (pos half)) z && (int_lt z (pos half) && (unsigned_abs z % step == 0))

abbrev pub is_short : ℤ → Bool
is_short z = is_immediate (2 ^ 11) 1 z

abbrev pub is_amount : ℕ → ℤ → Bool
is_amount limit z = int_le (pos 0) z && int_lt z (pos limit)

abbrev pub is_operand : ImmOp → ℤ → Bool
is_operand Addi imm = is_short imm
is_operand Slti imm = is_short imm
is_operand Sltiu imm = is_short imm
is_operand Xori imm = is_short imm
is_operand Ori imm = is_short imm
is_operand Andi imm = is_short imm
is_operand Slli imm = is_amount 64 imm
is_operand Srli imm = is_amount 64 imm
is_operand Srai imm = is_amount 64 imm
is_operand Addiw imm = is_short imm
is_operand Slliw imm = is_amount 32 imm
is_operand Srliw imm = is_amount 32 imm
is_operand Sraiw imm = is_amount 32 imm

unfoldable pub in_range : Instr → Bool
in_range (Lui rd imm) = nat_lt rd 32 && is_immediate (2 ^ 31) (2 ^ 12) imm
in_range (Auipc rd imm) = nat_lt rd 32 && is_immediate (2 ^ 31) (2 ^ 12) imm
in_range (Jal rd imm) = nat_lt rd 32 && is_immediate (2 ^ 20) 2 imm
in_range (Jalr rd rs1 imm) = nat_lt rd 32 && (nat_lt rs1 32 && is_short imm)
in_range (Branch cmp rs1 rs2 imm) = nat_lt rs1 32 && (nat_lt rs2 32 && is_immediate (2 ^ 12) 2 imm)
in_range (Load loads rd rs1 imm) = nat_lt rd 32 && (nat_lt rs1 32 && is_short imm)
in_range (Store width rs1 rs2 imm) = nat_lt rs1 32 && (nat_lt rs2 32 && is_short imm)
in_range (OpImm op rd rs1 imm) = nat_lt rd 32 && (nat_lt rs1 32 && is_operand op imm)
in_range (Op op rd rs1 rs2) = nat_lt rd 32 && (nat_lt rs1 32 && nat_lt rs2 32)
in_range (LoadReserved wide order rd rs1) = nat_lt order 4 && (nat_lt rd 32 && nat_lt rs1 32)
in_range (StoreConditional wide order rd rs1 rs2) = nat_lt order 4 && (nat_lt rd 32 && (nat_lt rs1 32 && nat_lt rs2 32))
in_range (Amo op wide order rd rs1 rs2) = nat_lt order 4 && (nat_lt rd 32 && (nat_lt rs1 32 && nat_lt rs2 32))
in_range (Fence code rd rs1 imm) = nat_lt rd 32 && (nat_lt rs1 32 && is_short imm)
in_range Ecall = true
in_range Ebreak = true
