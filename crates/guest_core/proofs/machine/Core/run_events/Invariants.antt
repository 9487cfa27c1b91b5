use Rattle.std.proofs.Common.{◌≡◌, Some, take}
use Rattle.guest_core.specs.Event.{run}
use Rattle.guest_core.proofs.machine.Core.run_events.Given as goal

abbrev pub invariant-loop-index : goal.invariant-loop-index
invariant-loop-index l = run (Some l.initial.self) (take l.index l.events) ≡ Some l.self
