-- What an instruction asks for, and the registers after one that asks for nothing else. An instruction that asks for more
-- leaves the registers.
-- Source: the RISC-V unprivileged manual, "RV32I", "RV64I", "M", "A" and "Zifencei".
use Rattle.std.specs.Prelude.{ℕ, ◌+◌, ◌-◌, ◌%◌, ◌^◌, Bool, true, false, if◌then◌else◌, ℤ}
use Rattle.isa_decode.specs.declared.instruction.Instr.{Instr}
use Rattle.isa_decode.specs.declared.instruction.Instr.TheVariants as instr
use Rattle.isa_exec.specs.declared.effect.Effect.{Effect}
use Rattle.isa_exec.specs.declared.effect.Effect.TheVariants as effect
use Rattle.isa_exec.specs.Arithmetic.{alu, is_taken, number, with_register_operand}
use Rattle.isa_exec.specs.Registers.{Registers, behind, going_on_at, register, with_register}

-- the address that a register and an offset give
abbrev pub address : Registers → ℕ → ℤ → ℕ
address regs rs1 imm = (register regs rs1 + number imm) % 2 ^ 64

abbrev pub effect_of : Instr → Registers → Effect
effect_of (instr.Lui rd imm) regs = effect.Next
effect_of (instr.Auipc rd imm) regs = effect.Next
effect_of (instr.Jal rd imm) regs = effect.Jump
effect_of (instr.Jalr rd rs1 imm) regs = effect.Jump
effect_of (instr.Branch cmp rs1 rs2 imm) regs =
    if is_taken cmp (register regs rs1) (register regs rs2) then effect.Jump else effect.Next
effect_of (instr.Load kind rd rs1 imm) regs = effect.Load rd kind (address regs rs1 imm)
effect_of (instr.Store width rs1 rs2 imm) regs = effect.Store width (address regs rs1 imm) (register regs rs2)
effect_of (instr.OpImm op rd rs1 imm) regs = effect.Next
effect_of (instr.Op op rd rs1 rs2) regs = effect.Next
effect_of (instr.LoadReserved wide order rd rs1) regs = effect.Reserve rd wide (register regs rs1)
effect_of (instr.StoreConditional wide order rd rs1 rs2) regs =
    effect.Conditional rd wide (register regs rs1) (register regs rs2)
effect_of (instr.Amo op wide order rd rs1 rs2) regs = effect.Amo rd op wide (register regs rs1) (register regs rs2)
effect_of (instr.Fence code rd rs1 imm) regs = effect.Next
effect_of instr.Ecall regs = effect.Call
effect_of instr.Ebreak regs = effect.Break

-- the instruction is an operation on registers, or on a register and an immediate
abbrev pub is_operation : Instr → Bool
is_operation (instr.Lui rd imm) = false
is_operation (instr.Auipc rd imm) = false
is_operation (instr.Jal rd imm) = false
is_operation (instr.Jalr rd rs1 imm) = false
is_operation (instr.Branch cmp rs1 rs2 imm) = false
is_operation (instr.Load kind rd rs1 imm) = false
is_operation (instr.Store width rs1 rs2 imm) = false
is_operation (instr.OpImm op rd rs1 imm) = true
is_operation (instr.Op op rd rs1 rs2) = true
is_operation (instr.LoadReserved wide order rd rs1) = false
is_operation (instr.StoreConditional wide order rd rs1 rs2) = false
is_operation (instr.Amo op wide order rd rs1 rs2) = false
is_operation (instr.Fence code rd rs1 imm) = false
is_operation instr.Ecall = false
is_operation instr.Ebreak = false

-- the instruction is a branch or a jump
abbrev pub is_transfer : Instr → Bool
is_transfer (instr.Lui rd imm) = false
is_transfer (instr.Auipc rd imm) = false
is_transfer (instr.Jal rd imm) = true
is_transfer (instr.Jalr rd rs1 imm) = true
is_transfer (instr.Branch cmp rs1 rs2 imm) = true
is_transfer (instr.Load kind rd rs1 imm) = false
is_transfer (instr.Store width rs1 rs2 imm) = false
is_transfer (instr.OpImm op rd rs1 imm) = false
is_transfer (instr.Op op rd rs1 rs2) = false
is_transfer (instr.LoadReserved wide order rd rs1) = false
is_transfer (instr.StoreConditional wide order rd rs1 rs2) = false
is_transfer (instr.Amo op wide order rd rs1 rs2) = false
is_transfer (instr.Fence code rd rs1 imm) = false
is_transfer instr.Ecall = false
is_transfer instr.Ebreak = false

-- the instruction asks for nothing but registers
abbrev pub is_alone : Instr → Bool
is_alone (instr.Lui rd imm) = true
is_alone (instr.Auipc rd imm) = true
is_alone (instr.Jal rd imm) = true
is_alone (instr.Jalr rd rs1 imm) = true
is_alone (instr.Branch cmp rs1 rs2 imm) = true
is_alone (instr.Load kind rd rs1 imm) = false
is_alone (instr.Store width rs1 rs2 imm) = false
is_alone (instr.OpImm op rd rs1 imm) = true
is_alone (instr.Op op rd rs1 rs2) = true
is_alone (instr.LoadReserved wide order rd rs1) = false
is_alone (instr.StoreConditional wide order rd rs1 rs2) = false
is_alone (instr.Amo op wide order rd rs1 rs2) = false
is_alone (instr.Fence code rd rs1 imm) = true
is_alone instr.Ecall = false
is_alone instr.Ebreak = false

-- the value goes into rd, and the program goes on behind the instruction
abbrev pub put : ℕ → ℕ → ℕ → Registers → Registers
put rd value size regs = going_on_at (behind size regs) (with_register rd value regs)

-- the address behind the instruction goes into rd, and the program goes on at the target
abbrev pub linked : ℕ → ℕ → ℕ → Registers → Registers
linked rd target size regs = going_on_at target (with_register rd (behind size regs) regs)

-- bit 0 of a target is cleared
abbrev pub even : ℕ → ℕ
even n = n - n % 2

unfoldable pub regs_after : Instr → ℕ → Registers → Registers
regs_after (instr.Lui rd imm) size regs = put rd (number imm) size regs
regs_after (instr.Auipc rd imm) size regs = put rd (behind (number imm) regs) size regs
regs_after (instr.Jal rd imm) size regs = linked rd (behind (number imm) regs) size regs
regs_after (instr.Jalr rd rs1 imm) size regs = linked rd (even (address regs rs1 imm)) size regs
regs_after (instr.Branch cmp rs1 rs2 imm) size regs =
    going_on_at (if is_taken cmp (register regs rs1) (register regs rs2) then behind (number imm) regs else behind size regs) regs
regs_after (instr.Load kind rd rs1 imm) size regs = regs
regs_after (instr.Store width rs1 rs2 imm) size regs = regs
regs_after (instr.OpImm op rd rs1 imm) size regs =
    put rd (alu (with_register_operand op) (register regs rs1) (number imm)) size regs
regs_after (instr.Op op rd rs1 rs2) size regs = put rd (alu op (register regs rs1) (register regs rs2)) size regs
regs_after (instr.LoadReserved wide order rd rs1) size regs = regs
regs_after (instr.StoreConditional wide order rd rs1 rs2) size regs = regs
regs_after (instr.Amo op wide order rd rs1 rs2) size regs = regs
regs_after (instr.Fence code rd rs1 imm) size regs = going_on_at (behind size regs) regs
regs_after instr.Ecall size regs = regs
regs_after instr.Ebreak size regs = regs
