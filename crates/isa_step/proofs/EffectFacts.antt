-- An effect that is carried out is the instruction's row.
use Rattle.std.proofs.Common.{◌≡◌, ℕ, Bool, true, false, if◌then◌else◌, List, Option, Some, None, refl, ◌∙◌}
use Rattle.isa_decode.specs.declared.instruction.Instr.{Instr}
use Rattle.isa_decode.specs.declared.instruction.Instr.TheVariants.{Lui, Auipc, Jal, Jalr, Branch, Load, Store, OpImm, Op, LoadReserved, StoreConditional, Amo, Fence, Ecall, Ebreak}
use Rattle.isa_exec.specs.declared.effect.Effect.{Effect}
use Rattle.isa_exec.specs.declared.effect.Effect.TheVariants as effect
use Rattle.isa_exec.specs.Arithmetic.{is_taken}
use Rattle.isa_exec.specs.Execution.{effect_of, is_alone, is_operation, is_transfer, regs_after}
use Rattle.isa_exec.specs.Registers.{register, Registers}
use Rattle.guest_pages.specs.declared.fault.PageFault.{PageFault}
use Rattle.guest_pages.specs.Ranges.{Range}
use Rattle.word_memory.specs.declared.fault.WordFault.{WordFault}
use Rattle.word_memory.specs.declared.reservations.Held.{Held}
use Rattle.isa_step.specs.declared.fault.Fault.{Fault}
use Rattle.isa_step.specs.Instruction.{InstructionOutcome, combines, executed, loads, reserves, runs_unless, runs_unless_word, stores, stores_conditionally}
use Rattle.isa_decode.specs.Ranges.{InRange}
use Rattle.isa_step.specs.Effects.{carried, HasRegister}

branch_by : (taken : Bool) (thread size : ℕ) (regs : Registers) (memory : List Range) (held : List Held) → InstructionOutcome.Runs regs memory held ≡ carried thread (if taken then effect.Jump else effect.Next) size regs memory held
branch_by true thread size regs memory held = refl
branch_by false thread size regs memory held = refl

pub carried_is_row : (thread : ℕ) (instr : Instr) (size : ℕ) (regs : Registers) (memory : List Range) (held : List Held) → executed thread instr size regs memory held ≡ carried thread (effect_of instr regs) size (regs_after instr size regs) memory held
unfolding executed regs_after
carried_is_row thread (Lui rd imm) size regs memory held = refl
carried_is_row thread (Auipc rd imm) size regs memory held = refl
carried_is_row thread (Jal rd imm) size regs memory held = refl
carried_is_row thread (Jalr rd rs1 imm) size regs memory held = refl
carried_is_row thread (Branch cmp rs1 rs2 imm) size regs memory held = branch_by (is_taken cmp (register regs rs1) (register regs rs2)) thread size _ memory held
carried_is_row thread (Load kind rd rs1 imm) size regs memory held = refl
carried_is_row thread (Store width rs1 rs2 imm) size regs memory held = refl
carried_is_row thread (OpImm op rd rs1 imm) size regs memory held = refl
carried_is_row thread (Op op rd rs1 rs2) size regs memory held = refl
carried_is_row thread (LoadReserved wide order rd rs1) size regs memory held = refl
carried_is_row thread (StoreConditional wide order rd rs1 rs2) size regs memory held = refl
carried_is_row thread (Amo op wide order rd rs1 rs2) size regs memory held = refl
carried_is_row thread (Fence code rd rs1 imm) size regs memory held = refl
carried_is_row thread Ecall size regs memory held = refl
carried_is_row thread Ebreak size regs memory held = refl

-- an instruction that faults or calls leaves the registers
pub fault_keeps_regs : (thread : ℕ) (instr : Instr) (size : ℕ) (regs : Registers) (memory : List Range) (held : List Held) (fault : Fault) → executed thread instr size regs memory held ≡ InstructionOutcome.Faults fault → regs_after instr size regs ≡ regs
unfolding executed regs_after
fault_keeps_regs thread (Lui rd imm) size regs memory held fault is = cc
fault_keeps_regs thread (Auipc rd imm) size regs memory held fault is = cc
fault_keeps_regs thread (Jal rd imm) size regs memory held fault is = cc
fault_keeps_regs thread (Jalr rd rs1 imm) size regs memory held fault is = cc
fault_keeps_regs thread (Branch cmp rs1 rs2 imm) size regs memory held fault is = cc
fault_keeps_regs thread (Load kind rd rs1 imm) size regs memory held fault is = refl
fault_keeps_regs thread (Store width rs1 rs2 imm) size regs memory held fault is = refl
fault_keeps_regs thread (OpImm op rd rs1 imm) size regs memory held fault is = cc
fault_keeps_regs thread (Op op rd rs1 rs2) size regs memory held fault is = cc
fault_keeps_regs thread (LoadReserved wide order rd rs1) size regs memory held fault is = refl
fault_keeps_regs thread (StoreConditional wide order rd rs1 rs2) size regs memory held fault is = refl
fault_keeps_regs thread (Amo op wide order rd rs1 rs2) size regs memory held fault is = refl
fault_keeps_regs thread (Fence code rd rs1 imm) size regs memory held fault is = cc
fault_keeps_regs thread Ecall size regs memory held fault is = refl
fault_keeps_regs thread Ebreak size regs memory held fault is = refl

pub call_keeps_regs : (thread : ℕ) (instr : Instr) (size : ℕ) (regs : Registers) (memory : List Range) (held : List Held) → executed thread instr size regs memory held ≡ InstructionOutcome.Calls → regs_after instr size regs ≡ regs
unfolding executed regs_after
call_keeps_regs thread (Lui rd imm) size regs memory held is = cc
call_keeps_regs thread (Auipc rd imm) size regs memory held is = cc
call_keeps_regs thread (Jal rd imm) size regs memory held is = cc
call_keeps_regs thread (Jalr rd rs1 imm) size regs memory held is = cc
call_keeps_regs thread (Branch cmp rs1 rs2 imm) size regs memory held is = cc
call_keeps_regs thread (Load kind rd rs1 imm) size regs memory held is = refl
call_keeps_regs thread (Store width rs1 rs2 imm) size regs memory held is = refl
call_keeps_regs thread (OpImm op rd rs1 imm) size regs memory held is = cc
call_keeps_regs thread (Op op rd rs1 rs2) size regs memory held is = cc
call_keeps_regs thread (LoadReserved wide order rd rs1) size regs memory held is = refl
call_keeps_regs thread (StoreConditional wide order rd rs1 rs2) size regs memory held is = refl
call_keeps_regs thread (Amo op wide order rd rs1 rs2) size regs memory held is = refl
call_keeps_regs thread (Fence code rd rs1 imm) size regs memory held is = cc
call_keeps_regs thread Ecall size regs memory held is = refl
call_keeps_regs thread Ebreak size regs memory held is = refl

has_register_by : (taken : Bool) → HasRegister (if taken then effect.Jump else effect.Next)
has_register_by true = tt
has_register_by false = tt

-- the effect of an instruction in range fills a register
pub in_range_has_register : (instr : Instr) (regs : Registers) → InRange instr → HasRegister (effect_of instr regs)
in_range_has_register (Lui rd imm) regs range = tt
in_range_has_register (Auipc rd imm) regs range = tt
in_range_has_register (Jal rd imm) regs range = tt
in_range_has_register (Jalr rd rs1 imm) regs range = tt
in_range_has_register (Branch cmp rs1 rs2 imm) regs range = has_register_by (is_taken cmp (register regs rs1) (register regs rs2))
in_range_has_register (Load kind rd rs1 imm) regs range = range.0
in_range_has_register (Store width rs1 rs2 imm) regs range = tt
in_range_has_register (OpImm op rd rs1 imm) regs range = tt
in_range_has_register (Op op rd rs1 rs2) regs range = tt
in_range_has_register (LoadReserved wide order rd rs1) regs range = range.1
in_range_has_register (StoreConditional wide order rd rs1 rs2) regs range = range.1
in_range_has_register (Amo op wide order rd rs1 rs2) regs range = range.1
in_range_has_register (Fence code rd rs1 imm) regs range = tt
in_range_has_register Ecall regs range = tt
in_range_has_register Ebreak regs range = tt

pub kept_by_call : (thread : ℕ) (instr : Instr) (size : ℕ) (regs after : Registers) (asked : Effect) (memory : List Range) (held : List Held) → asked ≡ effect_of instr regs → after ≡ regs_after instr size regs → carried thread asked size after memory held ≡ InstructionOutcome.Calls → after ≡ regs
kept_by_call thread instr size regs after asked memory held is left calls =
    let row : executed thread instr size regs memory held ≡ InstructionOutcome.Calls = carried_is_row thread instr size regs memory held ∙ (rw (← is, ← left) calls) in
    left ∙ call_keeps_regs thread instr size regs memory held row

pub kept_by_fault : (thread : ℕ) (instr : Instr) (size : ℕ) (regs after : Registers) (asked : Effect) (memory : List Range) (held : List Held) (fault : Fault) → asked ≡ effect_of instr regs → after ≡ regs_after instr size regs → carried thread asked size after memory held ≡ InstructionOutcome.Faults fault → after ≡ regs
kept_by_fault thread instr size regs after asked memory held fault is left faults =
    let row : executed thread instr size regs memory held ≡ InstructionOutcome.Faults fault = carried_is_row thread instr size regs memory held ∙ (rw (← is, ← left) faults) in
    left ∙ fault_keeps_regs thread instr size regs memory held fault row

unless_calls : {P : Type 0} (fault : Option PageFault) (regs : Registers) (memory : List Range) (held : List Held) → runs_unless fault (InstructionOutcome.Runs regs memory held) ≡ InstructionOutcome.Calls → P
unless_calls None regs memory held same = cc
unless_calls (Some fault) regs memory held same = cc

unless_word_calls : {P : Type 0} (fault : Option WordFault) (regs : Registers) (memory : List Range) (held : List Held) → runs_unless_word fault (InstructionOutcome.Runs regs memory held) ≡ InstructionOutcome.Calls → P
unless_word_calls None regs memory held same = cc
unless_word_calls (Some fault) regs memory held same = cc

-- an ecall alone is a call
pub calls_is_ecall : (thread : ℕ) (instr : Instr) (size : ℕ) (regs : Registers) (memory : List Range) (held : List Held) → executed thread instr size regs memory held ≡ InstructionOutcome.Calls → instr ≡ Ecall
unfolding executed loads stores reserves stores_conditionally combines
calls_is_ecall thread (Lui rd imm) size regs memory held same = cc
calls_is_ecall thread (Auipc rd imm) size regs memory held same = cc
calls_is_ecall thread (Jal rd imm) size regs memory held same = cc
calls_is_ecall thread (Jalr rd rs1 imm) size regs memory held same = cc
calls_is_ecall thread (Branch cmp rs1 rs2 imm) size regs memory held same = cc
calls_is_ecall thread (Load kind rd rs1 imm) size regs memory held same = unless_calls _ _ _ _ same
calls_is_ecall thread (Store width rs1 rs2 imm) size regs memory held same = unless_calls _ _ _ _ same
calls_is_ecall thread (OpImm op rd rs1 imm) size regs memory held same = cc
calls_is_ecall thread (Op op rd rs1 rs2) size regs memory held same = cc
calls_is_ecall thread (LoadReserved wide order rd rs1) size regs memory held same = unless_word_calls _ _ _ _ same
calls_is_ecall thread (StoreConditional wide order rd rs1 rs2) size regs memory held same = unless_word_calls _ _ _ _ same
calls_is_ecall thread (Amo op wide order rd rs1 rs2) size regs memory held same = unless_word_calls _ _ _ _ same
calls_is_ecall thread (Fence code rd rs1 imm) size regs memory held same = cc
calls_is_ecall thread Ecall size regs memory held same = refl
calls_is_ecall thread Ebreak size regs memory held same = cc

-- an instruction on registers alone is made by them
pub alone_is_row : (thread : ℕ) (instr : Instr) (size : ℕ) (regs : Registers) (memory : List Range) (held : List Held) → is_alone instr ≡ true → executed thread instr size regs memory held ≡ InstructionOutcome.Runs (regs_after instr size regs) memory held
unfolding executed
alone_is_row thread (Lui rd imm) size regs memory held alone = refl
alone_is_row thread (Auipc rd imm) size regs memory held alone = refl
alone_is_row thread (Jal rd imm) size regs memory held alone = refl
alone_is_row thread (Jalr rd rs1 imm) size regs memory held alone = refl
alone_is_row thread (Branch cmp rs1 rs2 imm) size regs memory held alone = refl
alone_is_row thread (Load kind rd rs1 imm) size regs memory held alone = cc
alone_is_row thread (Store width rs1 rs2 imm) size regs memory held alone = cc
alone_is_row thread (OpImm op rd rs1 imm) size regs memory held alone = refl
alone_is_row thread (Op op rd rs1 rs2) size regs memory held alone = refl
alone_is_row thread (LoadReserved wide order rd rs1) size regs memory held alone = cc
alone_is_row thread (StoreConditional wide order rd rs1 rs2) size regs memory held alone = cc
alone_is_row thread (Amo op wide order rd rs1 rs2) size regs memory held alone = cc
alone_is_row thread (Fence code rd rs1 imm) size regs memory held alone = refl
alone_is_row thread Ecall size regs memory held alone = cc
alone_is_row thread Ebreak size regs memory held alone = cc

-- another leaves the registers
pub else_stays : (instr : Instr) (size : ℕ) (regs : Registers) → is_alone instr ≡ false → regs_after instr size regs ≡ regs
unfolding regs_after
else_stays (Lui rd imm) size regs more = cc
else_stays (Auipc rd imm) size regs more = cc
else_stays (Jal rd imm) size regs more = cc
else_stays (Jalr rd rs1 imm) size regs more = cc
else_stays (Branch cmp rs1 rs2 imm) size regs more = cc
else_stays (Load kind rd rs1 imm) size regs more = refl
else_stays (Store width rs1 rs2 imm) size regs more = refl
else_stays (OpImm op rd rs1 imm) size regs more = cc
else_stays (Op op rd rs1 rs2) size regs more = cc
else_stays (LoadReserved wide order rd rs1) size regs more = refl
else_stays (StoreConditional wide order rd rs1 rs2) size regs more = refl
else_stays (Amo op wide order rd rs1 rs2) size regs more = refl
else_stays (Fence code rd rs1 imm) size regs more = cc
else_stays Ecall size regs more = refl
else_stays Ebreak size regs more = refl

pub operation_is_row : (thread : ℕ) (instr : Instr) (size : ℕ) (regs : Registers) (memory : List Range) (held : List Held) → is_operation instr ≡ true → executed thread instr size regs memory held ≡ InstructionOutcome.Runs (regs_after instr size regs) memory held
unfolding executed
operation_is_row thread (Lui rd imm) size regs memory held alone = cc
operation_is_row thread (Auipc rd imm) size regs memory held alone = cc
operation_is_row thread (Jal rd imm) size regs memory held alone = cc
operation_is_row thread (Jalr rd rs1 imm) size regs memory held alone = cc
operation_is_row thread (Branch cmp rs1 rs2 imm) size regs memory held alone = cc
operation_is_row thread (Load kind rd rs1 imm) size regs memory held alone = cc
operation_is_row thread (Store width rs1 rs2 imm) size regs memory held alone = cc
operation_is_row thread (OpImm op rd rs1 imm) size regs memory held alone = refl
operation_is_row thread (Op op rd rs1 rs2) size regs memory held alone = refl
operation_is_row thread (LoadReserved wide order rd rs1) size regs memory held alone = cc
operation_is_row thread (StoreConditional wide order rd rs1 rs2) size regs memory held alone = cc
operation_is_row thread (Amo op wide order rd rs1 rs2) size regs memory held alone = cc
operation_is_row thread (Fence code rd rs1 imm) size regs memory held alone = cc
operation_is_row thread Ecall size regs memory held alone = cc
operation_is_row thread Ebreak size regs memory held alone = cc

pub transfer_is_row : (thread : ℕ) (instr : Instr) (size : ℕ) (regs : Registers) (memory : List Range) (held : List Held) → is_transfer instr ≡ true → executed thread instr size regs memory held ≡ InstructionOutcome.Runs (regs_after instr size regs) memory held
unfolding executed
transfer_is_row thread (Lui rd imm) size regs memory held alone = cc
transfer_is_row thread (Auipc rd imm) size regs memory held alone = cc
transfer_is_row thread (Jal rd imm) size regs memory held alone = refl
transfer_is_row thread (Jalr rd rs1 imm) size regs memory held alone = refl
transfer_is_row thread (Branch cmp rs1 rs2 imm) size regs memory held alone = refl
transfer_is_row thread (Load kind rd rs1 imm) size regs memory held alone = cc
transfer_is_row thread (Store width rs1 rs2 imm) size regs memory held alone = cc
transfer_is_row thread (OpImm op rd rs1 imm) size regs memory held alone = cc
transfer_is_row thread (Op op rd rs1 rs2) size regs memory held alone = cc
transfer_is_row thread (LoadReserved wide order rd rs1) size regs memory held alone = cc
transfer_is_row thread (StoreConditional wide order rd rs1 rs2) size regs memory held alone = cc
transfer_is_row thread (Amo op wide order rd rs1 rs2) size regs memory held alone = cc
transfer_is_row thread (Fence code rd rs1 imm) size regs memory held alone = cc
transfer_is_row thread Ecall size regs memory held alone = cc
transfer_is_row thread Ebreak size regs memory held alone = cc
