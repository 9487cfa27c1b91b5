-- Where code stays, a call of the system stays one, whoever asks for it and whatever is reserved.
use Rattle.std.proofs.Common.{◌≡◌, ℕ, List, refl}
use Rattle.isa_decode.specs.declared.instruction.Instr.{Instr}
use Rattle.isa_exec.specs.Registers.{Registers}
use Rattle.guest_pages.specs.Apart.{KeepsCode}
use Rattle.guest_pages.specs.Ranges.{Range}
use Rattle.word_memory.specs.declared.reservations.Held.{Held}
use Rattle.isa_step.specs.Instruction.{Calls, Found, Is, IsNot, executed, found, instruction, of_found}
use Rattle.isa_step.proofs.EffectFacts.{calls_is_ecall}
use Rattle.isa_step.proofs.KnownFacts.{found_stays}

executed_calls : (thread another : ℕ) (instr : Instr) (size : ℕ) (regs : Registers) (memory other : List Range) (held left : List Held) → executed thread instr size regs memory held ≡ Calls → executed another instr size regs other left ≡ Calls
unfolding executed
executed_calls thread another instr size regs memory other held left same = rw (calls_is_ecall thread instr size regs memory held same) refl

found_calls : (code : Found) (thread another : ℕ) (regs : Registers) (memory other : List Range) (held left : List Held) → KeepsCode memory other → found regs memory ≡ code → of_found thread code regs memory held ≡ Calls → of_found another (found regs other) regs other left ≡ Calls
found_calls (Is instr size) thread another regs memory other held left keeps is same =
    rw (found_stays memory other regs instr size keeps is) (executed_calls thread another instr size regs memory other held left same)
found_calls (IsNot fault) thread another regs memory other held left keeps is same = cc

pub calls_stay : (thread another : ℕ) (regs : Registers) (memory other : List Range) (held left : List Held) → KeepsCode memory other → instruction thread regs memory held ≡ Calls → instruction another regs other left ≡ Calls
unfolding instruction
calls_stay thread another regs memory other held left keeps same = found_calls (found regs memory) thread another regs memory other held left keeps refl same
