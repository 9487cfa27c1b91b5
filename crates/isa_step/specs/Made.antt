-- What the code's answer to an instruction says.
use Rattle.std.specs.Prelude.{List}
use Rattle.isa_exec.specs.Registers.{Registers}
use Rattle.guest_pages.specs.Ranges.{Range}
use Rattle.word_memory.specs.declared.reservations.Held.{Held}
use Rattle.isa_step.specs.declared.executing.Made.{Made}
use Rattle.isa_step.specs.declared.executing.Made.TheVariants.{Done, Call}
use Rattle.isa_step.specs.Instruction.{InstructionOutcome}

-- an instruction that was done, with what it left, or a call
abbrev pub outcome : Made → Registers → List Range → List Held → InstructionOutcome
outcome Done regs memory held = InstructionOutcome.Runs regs memory held
outcome Call regs memory held = InstructionOutcome.Calls
