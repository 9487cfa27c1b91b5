-- What an effect asks for, carried out: the registers are those that the instruction left.
-- Source: the same as of the instructions; that an instruction goes by its effect is the project's own.
use Rattle.std.specs.Prelude.{ℕ, ◌<◌, List}
use Rattle.isa_exec.specs.declared.effect.Effect.{Effect}
use Rattle.isa_exec.specs.declared.effect.Effect.TheVariants.{Next, Jump, Load, Store, Reserve, Conditional, Amo, Call, Break}
use Rattle.isa_exec.specs.Registers.{Registers}
use Rattle.guest_pages.specs.Ranges.{Range}
use Rattle.word_memory.specs.declared.reservations.Held.{Held}
use Rattle.isa_step.specs.Instruction.{InstructionOutcome, breakpoint, combines, loads, reserves, stores, stores_conditionally}

abbrev pub carried : ℕ → Effect → ℕ → Registers → List Range → List Held → InstructionOutcome
carried thread Next size regs memory held = InstructionOutcome.Runs regs memory held
carried thread Jump size regs memory held = InstructionOutcome.Runs regs memory held
carried thread (Load rd kind at) size regs memory held = loads kind rd at size regs memory held
carried thread (Store width at value) size regs memory held = stores thread width at value size regs memory held
carried thread (Reserve rd wide at) size regs memory held = reserves thread wide rd at size regs memory held
carried thread (Conditional rd wide at value) size regs memory held =
    stores_conditionally thread wide rd at value size regs memory held
carried thread (Amo rd op wide at value) size regs memory held = combines thread op wide rd at value size regs memory held
carried thread Call size regs memory held = InstructionOutcome.Calls
carried thread Break size regs memory held = InstructionOutcome.Faults (breakpoint regs.pc)

-- the register that the effect fills is one
abbrev pub HasRegister : Effect → Type 0
HasRegister Next = Unit {0}
HasRegister Jump = Unit {0}
HasRegister (Load rd kind at) = rd < 32
HasRegister (Store width at value) = Unit {0}
HasRegister (Reserve rd wide at) = rd < 32
HasRegister (Conditional rd wide at value) = rd < 32
HasRegister (Amo rd op wide at value) = rd < 32
HasRegister Call = Unit {0}
HasRegister Break = Unit {0}
