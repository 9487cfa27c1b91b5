-- What a thread's call owes, whoever makes it.
use Rattle.std.proofs.Common.{ℕ, Bool, true, false, Option, Some, None}
use Rattle.call_table.specs.declared.call.Call.{Call}
use Rattle.isa_exec.specs.Registers.{Registers}
use Rattle.host_calls.specs.Owes.{Owes}
use Rattle.host_calls.specs.Shared.{Shared}
use Rattle.host_calls.proofs.Shapes.{answers_alone}
use Rattle.host_waits.specs.declared.beginning.Begun.{Begun}
use Rattle.host_waits.specs.declared.beginning.Begun.TheVariants.{Answer, Waits}
use Rattle.host_waits.specs.Calls.{entered}
use Rattle.host_waits.proofs.FutexFacts.{leave_joins}
use Rattle.host_waits.proofs.WaitsOwe.{entered_owes}
use Rattle.guest_core.specs.Call.{asked, at_once, at_once_by, called, called_as, ends_process, made_by}

begun_owes : (begun : Begun) (thread : ℕ) (old new : Shared) → Owes thread old new → Owes thread old (at_once_by thread begun new).shared
begun_owes (Answer answer) thread old new owes = owes
begun_owes (Waits wait) thread old new owes = record {
  memory = owes.memory;
  outputs = owes.outputs;
  lives = owes.lives;
  held = owes.held;
  futexes = λ other apart held. owes.futexes other apart (leave_joins thread new.futexes other apart held);
  queue = owes.queue;
  clock = owes.clock;
}

at_once_owes : (thread : ℕ) (call : Call) (shared : Shared) → Owes thread shared (at_once thread call shared).shared
unfolding at_once
at_once_owes thread call shared = begun_owes (entered thread call shared).begun thread shared (entered thread call shared).shared (entered_owes thread call shared)

by_owes : (ends : Bool) (thread : ℕ) (call : Call) (shared : Shared) → Owes thread shared (made_by ends thread call shared).shared
by_owes true thread call shared = answers_alone thread shared
by_owes false thread call shared = at_once_owes thread call shared

as_owes : (call : Option Call) (thread : ℕ) (shared : Shared) → Owes thread shared (called_as call thread shared).shared
as_owes None thread shared = answers_alone thread shared
as_owes (Some call) thread shared = by_owes (ends_process call.no) thread call shared

pub called_owes : (thread : ℕ) (regs : Registers) (shared : Shared) → Owes thread shared (called thread regs shared).shared
unfolding called
called_owes thread regs shared = as_owes (asked regs) thread shared
