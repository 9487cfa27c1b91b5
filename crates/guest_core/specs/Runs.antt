-- What callers ask of events and of lists of them.
use Rattle.std.specs.Prelude.{◌≡◌, ℕ, ◌+◌, ◌<◌, true, is_some, Option, None, Some, List, length, slice_index_or, take}
use Rattle.guest_core.specs.declared.machine.CoreRefusal.{CoreRefusal}
use Rattle.guest_core.specs.declared.machine.CoreRefusal.TheVariants.{NotNow, Memory}
use Rattle.guest_core.specs.declared.events.Event.{Event}
use Rattle.guest_core.specs.declared.events.Event.TheVariants.{Step}
use Rattle.guest_core.specs.Machine.{Machine, Thread}
use Rattle.guest_core.specs.Rows.{IsSteady}
use Rattle.guest_core.specs.Event.{event_after, run}
use Rattle.guest_core.specs.System.{context_of, found}

abbrev pub IsSteadyAs : ℕ → Option Thread → Machine → Type 0
IsSteadyAs id None machine = ⊥
IsSteadyAs id (Some thread) machine = IsSteady (context_of id thread machine)

abbrev pub EventIsSteady : Machine → Event → Type 0
EventIsSteady machine (Step id) = IsSteadyAs id (found id machine.members) machine

-- the event is enabled, makes no call, and has an id left where it faults, with nothing else pending
pub record TakesNoMemory (machine : Machine) (event : Event) : Type 0 where
  pub enabled : event_after machine event ≡ None → ⊥
  pub steady : EventIsSteady machine event

-- the thread of the event lives
abbrev pub Lives : Machine → Event → Type 0
Lives machine (Step id) = is_some (found id machine.members) ≡ true

-- The events before the index were made, and that at the index is refused: as one that isn't enabled exactly where it isn't,
-- and for want of memory only where it takes some.
pub record Stopped (old : Machine) (events : List Event) (index : ℕ) (refusal : CoreRefusal) (new : Machine) : Type 0 where
  pub within : index < length events
  pub before : run (Some old) (take index events) ≡ Some new
  pub not_now : refusal ≡ NotNow → run (Some old) (take (index + 1) events) ≡ None
  pub not_enabled : run (Some old) (take (index + 1) events) ≡ None → refusal ≡ NotNow
  pub steady : (d : Event) → TakesNoMemory new (slice_index_or events index d) → refusal ≡ Memory → ⊥
