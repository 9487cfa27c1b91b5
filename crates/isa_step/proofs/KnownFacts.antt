-- What is kept of instructions that were found stays right.
use Rattle.std.proofs.Common.{◌≡◌, ◌≢◌, ℕ, ◌%◌, ◌==◌, Bool, true, false, if◌then◌else◌, List, Option, Some, None, Result, Ok, Err, refl, sym, ◌∙◌}
use Rattle.std.specs.List.{All}
use Rattle.std.proofs.lemmas.List.Elements.{All-weaker}
use Rattle.isa_decode.specs.declared.instruction.Instr.{Instr}
use Rattle.isa_decode.specs.Ranges.{InRange}
use Rattle.isa_compressed.specs.Expansion.{expansion}
use Rattle.isa_exec.specs.Registers.{behind, Registers}
use Rattle.guest_pages.specs.declared.fault.PageFault.{PageFault}
use Rattle.guest_pages.specs.Faults.{answer_or, executable, first_fault}
use Rattle.guest_pages.specs.Ranges.{Range}
use Rattle.isa_step.specs.declared.decoder.Known.{Known}
use Rattle.guest_pages.specs.Apart.{KeepsCode}
use Rattle.isa_step.specs.Instruction.{Found, found, half_at, is_or_illegal, of_high, of_low}
use Rattle.isa_step.specs.Known.{IsKnown}
use Rattle.guest_pages.proofs.ApartFacts.{bytes_stay, fault_stays}

-- ---- what is kept

pub known_is : (memory : List Range) (known : Known) (regs : Registers) (size : ℕ) → IsKnown memory known → known.address ≡ regs.pc → known.size ≡ size → size ≢ 0 → found regs memory ≡ Found.Is known.instr size
known_is memory known regs size is here same some =
    rw (← same) (is.is regs (sym here) (λ none. some (sym same ∙ none)))

-- an instruction is found by pc alone
found_by_pc : (regs other : Registers) (memory : List Range) → other.pc ≡ regs.pc → found other memory ≡ found regs memory
unfolding found
found_by_pc regs other memory same = rw same refl

pub found_is_known : (memory : List Range) (regs : Registers) (instr : Instr) (size : ℕ) (accesses transfers : Bool) → found regs memory ≡ Found.Is instr size → InRange instr → IsKnown memory (record { address = regs.pc; size = size; accesses = accesses; transfers = transfers; instr = instr })
found_is_known memory regs instr size accesses transfers is range = record {
  is = λ other same some. found_by_pc regs other memory same ∙ is;
  range = range;
}

-- ---- where code stays, so does what was found

no_fault : (fault : Option PageFault) (n x : ℕ) → answer_or fault n ≡ Ok x → fault ≡ None
no_fault None n x is = refl
no_fault (Some fault) n x is = cc

half_stays : (old new : List Range) (at x : ℕ) → KeepsCode old new → half_at old at ≡ Ok x → half_at new at ≡ Ok x
half_stays old new at x keeps is =
    let none = no_fault (first_fault executable old at 2) _ x is in
    rw (fault_stays old new at 2 keeps none, bytes_stay old new at 2 keeps none) (rw none at is)

high_stays : (high : Result ℕ PageFault) (old new : List Range) (pc low at : ℕ) (instr : Instr) (size : ℕ) → KeepsCode old new → half_at old at ≡ high → of_high pc low high ≡ Found.Is instr size → of_high pc low (half_at new at) ≡ Found.Is instr size
high_stays (Ok high) old new pc low at instr size keeps half is = rw (half_stays old new at high keeps half) is
high_stays (Err fault) old new pc low at instr size keeps half is = cc

test_stays : (word : Bool) (old new : List Range) (pc low at : ℕ) (instr : Instr) (size : ℕ) → KeepsCode old new → (if word then of_high pc low (half_at old at) else is_or_illegal pc 2 (expansion low)) ≡ Found.Is instr size → (if word then of_high pc low (half_at new at) else is_or_illegal pc 2 (expansion low)) ≡ Found.Is instr size
test_stays true old new pc low at instr size keeps is = high_stays (half_at old at) old new pc low at instr size keeps refl is
test_stays false old new pc low at instr size keeps is = is

low_stays : (low : Result ℕ PageFault) (old new : List Range) (regs : Registers) (instr : Instr) (size : ℕ) → KeepsCode old new → half_at old regs.pc ≡ low → of_low regs old low ≡ Found.Is instr size → of_low regs new (half_at new regs.pc) ≡ Found.Is instr size
low_stays (Ok low) old new regs instr size keeps half is =
    rw (half_stays old new regs.pc low keeps half) (test_stays (low % 4 == 3) old new regs.pc low (behind 2 regs) instr size keeps is)
low_stays (Err fault) old new regs instr size keeps half is = cc

pub found_stays : (old new : List Range) (regs : Registers) (instr : Instr) (size : ℕ) → KeepsCode old new → found regs old ≡ Found.Is instr size → found regs new ≡ Found.Is instr size
unfolding found
found_stays old new regs instr size keeps is = low_stays (half_at old regs.pc) old new regs instr size keeps refl is

pub known_stays : (old new : List Range) (known : List Known) → KeepsCode old new → All (IsKnown old) known → All (IsKnown new) known
known_stays old new known keeps all = All-weaker (IsKnown old) (IsKnown new) stays known all
  where
    stays : (k : Known) → IsKnown old k → IsKnown new k
    stays k is = record {
      is = λ regs here some. found_stays old new regs k.instr k.size keeps (is.is regs here some);
      range = is.range;
    }
