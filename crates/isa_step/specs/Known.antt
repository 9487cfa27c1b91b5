-- What is kept of an instruction that was found: where it stands in memory, and what it is.
-- The project's own. An instruction is found by pc and memory alone.
use Rattle.std.specs.Prelude.{◌≡◌, ◌≢◌, List}
use Rattle.isa_decode.specs.Ranges.{InRange}
use Rattle.isa_exec.specs.Registers.{Registers}
use Rattle.guest_pages.specs.Ranges.{Range}
use Rattle.isa_step.specs.declared.decoder.Known.{Known}
use Rattle.isa_step.specs.Instruction.{Found, found}

-- where something is kept, it is the instruction at its address
pub record IsKnown (memory : List Range) (known : Known) : Type 0 where
  pub is : (regs : Registers) → regs.pc ≡ known.address → known.size ≢ 0 → found regs memory ≡ Found.Is known.instr known.size
  pub range : InRange known.instr
