-- Plain instructions, one after another.
-- Source: the RISC-V unprivileged manual, "Programmers' Model for Base Integer ISA": pc leads from one to the next.
use Rattle.std.specs.Prelude.{◌≡◌, ℕ, zero, suc, List}
use Rattle.isa_exec.specs.Registers.{Registers}
use Rattle.guest_pages.specs.Ranges.{Range}
use Rattle.word_memory.specs.declared.reservations.Held.{Held}
use Rattle.isa_step.specs.Instruction.{InstructionOutcome, instruction}

-- so many of the thread's instructions lead from the first registers, memory and reservations to the last, and none of them
-- asks for a call or faults
abbrev pub PlainRun : ℕ → ℕ → Registers → List Range → List Held → Registers → List Range → List Held → Type 0
PlainRun zero thread regs memory held after left still = (after ≡ regs) × (left ≡ memory) × (still ≡ held)
PlainRun (suc count) thread regs memory held after left still =
    (between : Registers) × (middle : List Range) × (now : List Held) × PlainRun count thread regs memory held between middle now
    × (instruction thread between middle now ≡ InstructionOutcome.Runs after left still)
