-- Steps that make an instruction and nothing else.
-- The project's own.
use Rattle.std.specs.Prelude.{◌≡◌, ◌<◌, ℕ, Option, Some, None, replicate}
use Rattle.guest_core.specs.declared.events.Event.TheVariants.{Step}
use Rattle.guest_core.specs.Event.{run}
use Rattle.guest_core.specs.Machine.{Machine, Thread}
use Rattle.guest_core.specs.System.{Context, context_of, found}
use Rattle.isa_step.specs.Instruction.{IsPlain}
use Rattle.guest_core.specs.Rows.{Execute, row_of, instruction_of}

-- the thread's next step is an instruction's
abbrev pub IsReady : Context Thread → Type 0
IsReady context = row_of context ≡ Some Execute

-- the thread is there, and its next step is such an instruction's
abbrev pub GoesOnAs : ℕ → Option Thread → Machine → Type 0
GoesOnAs id None machine = ⊥
GoesOnAs id (Some thread) machine = IsReady (context_of id thread machine) × IsPlain (instruction_of (context_of id thread machine))

-- and the process lives
abbrev pub GoesOn : ℕ → Machine → Type 0
GoesOn id machine = (machine.end ≡ None) × GoesOnAs id (found id machine.members) machine

-- each of so many next steps is such an instruction's
abbrev pub AllGoOn : ℕ → Machine → ℕ → Type 0
AllGoOn thread machine count =
    (k : ℕ) (before : Machine) → k < count → run (Some machine) (replicate k (Step thread)) ≡ Some before → GoesOn thread before
