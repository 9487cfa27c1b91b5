-- Events of the emulator, and runs of them.
-- The project's own: one event is one atomic step.
use Rattle.std.specs.Prelude.{ℕ, Bool, if◌then◌else◌, is_none, is_some, List, [], ◌∷◌, map, Option, Some, None}
use Rattle.std.specs.Option.{option_map}
use Rattle.guest_core.specs.declared.events.Event.{Event}
use Rattle.guest_core.specs.declared.events.Event.TheVariants.{Step}
use Rattle.guest_core.specs.Machine.{Machine, Thread}
use Rattle.guest_core.specs.Rows.{Row, done, row_of}
use Rattle.guest_core.specs.System.{Member, context_of, found, put, with_shared}
use Rattle.host_calls.specs.Marks.{still_noted}
use Rattle.host_calls.specs.Queue.{due}
use Rattle.host_calls.specs.Shared.{Shared, later}

-- an event first takes its time
unfoldable pub ticked : Machine → Machine
ticked machine = with_shared (later machine.shared) machine

-- ---- a thread's step

abbrev pub row_done : ℕ → Thread → Machine → Option Row → Option Machine
row_done id thread machine None = None
row_done id thread machine (Some row) = Some (put id (done row (context_of id thread machine)) machine)

-- none where the thread doesn't live, or no row fits
abbrev pub stepped : ℕ → Machine → Option Thread → Option Machine
stepped id machine None = None
stepped id machine (Some thread) = row_done id thread machine (row_of (context_of id thread machine))

abbrev pub acted_now : Event → Machine → Option Machine
acted_now (Step id) machine = stepped id machine (found id machine.members)

unfoldable pub acted : Event → Machine → Option Machine
acted event machine = acted_now event (ticked machine)

-- ---- the end of each event

-- what isn't due to the thread any more is noted no more
abbrev pub thread_settled : Shared → Member Thread → Member Thread
thread_settled shared member =
    record member { self = record member.self { noted = still_noted member.self.noted (due member.id shared.queue) } }

unfoldable pub settled : Machine → Machine
settled machine = record machine { members = map (thread_settled machine.shared) machine.members }

-- ---- an event

-- the state after an event, none where it isn't enabled: nothing is after the end
unfoldable pub event_after : Machine → Event → Option Machine
event_after machine event = if is_none machine.end then option_map settled (acted event machine) else None

abbrev pub is_enabled : Machine → Event → Bool
is_enabled machine event = is_some (event_after machine event)

abbrev pub happens : Option Machine → Event → Option Machine
happens (Some machine) event = event_after machine event
happens None event = None

-- the state after the events, none where one isn't enabled after those before it
abbrev pub run : Option Machine → List Event → Option Machine
run state [] = state
run state (event ∷ events) = run (happens state event) events
