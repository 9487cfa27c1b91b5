-- One more plain instruction.
use Rattle.std.proofs.Common.{◌≡◌, ℕ, ◌+◌, List, [], refl, subst}
use Rattle.std.proofs.Math.Numerals.{suc-eq-add-one}
use Rattle.isa_exec.specs.Registers.{Registers}
use Rattle.guest_pages.specs.Apart.{IsApart}
use Rattle.guest_pages.specs.Ranges.{Range, cell_at}
use Rattle.word_memory.specs.declared.reservations.Held.{Held}
use Rattle.isa_step.specs.Instruction.{InstructionOutcome, instruction}
use Rattle.isa_step.specs.Running.{PlainRun}

module _ (count thread : ℕ) (regs between after : Registers) (memory middle left : List Range) (held now still : List Held) where
  pub one_more : PlainRun count thread regs memory held between middle now → instruction thread between middle now ≡ InstructionOutcome.Runs after left still → PlainRun (count + 1) thread regs memory held after left still
  one_more ran made =
      subst (λ (n : ℕ). PlainRun n thread regs memory held after left still) (suc-eq-add-one count) (between, middle, now, ran, made)

-- where nothing is mapped, nothing can be both written and executed
pub nothing_apart : IsApart []
unfolding cell_at
nothing_apart = record { low = λ a past. refl; apart = λ a. refl }
