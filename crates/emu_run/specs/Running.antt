-- A run as it goes on: the core, the journal, and the devices that are handed what is new.
-- The project's own.
use Rattle.std.specs.Prelude.{◌≡◌, ◌<◌, ◌≤◌, ℕ, ◌+◌, List, [], ◌∷◌, ◌++◌, map, length, Option, Some, None, slice_index_or}
use Rattle.dev_board.specs.Seen.{DeviceSeen}
use Rattle.file_table.specs.declared.state.Device.{Device}
use Rattle.file_table.specs.State.{outputs_of}
use Rattle.guest_core.specs.declared.events.Event.{Event}
use Rattle.guest_core.specs.declared.events.Event.TheVariants.{Step}
use Rattle.guest_core.specs.declared.ends.End.{End}
use Rattle.guest_core.specs.declared.ends.End.TheVariants.{Budget}
use Rattle.guest_core.specs.Machine.{Machine, first_thread}
use Rattle.guest_core.specs.System.{live_ids}
use Rattle.guest_core.specs.Event.{event_after, run}
use Rattle.emu_run.specs.declared.solo.Halt.{Halt}
use Rattle.emu_run.specs.declared.solo.Halt.TheVariants as halts
use Rattle.emu_run.specs.Journal.{History}
use Rattle.emu_run.specs.Sending.{IsSentUpTo, sent}

-- no thread but the first lives, and it does
abbrev pub OneLives : Machine → Type 0
OneLives machine = live_ids machine ≡ first_thread ∷ []

-- events were made, and noted behind those before
pub record Makes (old : Machine) (events_before : List Event) (new : Machine) (events_after : List Event) : Type 0 where
  pub events : List Event
  pub made : run (Some old) events ≡ Some new
  pub noted : events_after ≡ events_before ++ events

-- how a run ended, by its last state, the number of its events and its budget
abbrev pub IsEnd : Option End → ℕ → ℕ → End → Type 0
IsEnd (Some end) count budget told = told ≡ end
IsEnd None count budget told = (told ≡ Budget) × (count ≡ budget)

-- the output of a device is longer than it was
abbrev pub WroteTo : ℕ → List (List ℕ) → List (List ℕ) → Type 0
WroteTo device old new = length (slice_index_or old device []) < length (slice_index_or new device [])

-- The events of the journal are a run from a core to its last state: each is enabled after those before it. They number at
-- most the budget.
pub record RunsFrom (core : Machine) (budget : ℕ) (journal : History) (last : Machine) : Type 0 where
  pub enabled : run (Some core) journal.events ≡ Some last
  pub within : length journal.events ≤ journal.budget
  pub budget_is : journal.budget ≡ budget

-- a run to its end, with all that was written sent
pub record CoreFinishes (core : Machine) (budget : ℕ) (before : List (Option DeviceSeen)) (end : End) (last : Machine) (journal : History) (after : List (Option DeviceSeen)) : Type 0 where
  pub runs : RunsFrom core budget journal last
  pub end_is : IsEnd last.end (length journal.events) journal.budget end
  pub all_sent : after ≡ sent before last.shared.files.devices

-- A run's last event wrote to a device, which failed: it holds a beginning of its output, with all that was written before
-- that event.
pub record BreaksOff (first : Machine) (events : List Event) (last : Machine) (device : ℕ) (before after : List (Option DeviceSeen)) : Type 0 where
  pub front : List Event
  pub earlier : Machine
  pub events_are : events ≡ front ++ Step first_thread ∷ []
  pub ran : run (Some first) front ≡ Some earlier
  pub writes : WroteTo device (outputs_of earlier.shared.files) (outputs_of last.shared.files)
  pub sent_up_to : IsSentUpTo before earlier.shared.files.devices last.shared.files.devices device after

-- a run that a fault stopped: a device failed, or memory was wanting, and then all that was written is sent
abbrev pub CoreStops : Machine → ℕ → List (Option DeviceSeen) → Halt → Machine → History → List (Option DeviceSeen) → Type 0
CoreStops core budget before (halts.Device device) last journal after =
    RunsFrom core budget journal last × BreaksOff core journal.events last device before after
CoreStops core budget before halts.Memory last journal after =
    RunsFrom core budget journal last × (after ≡ sent before last.shared.files.devices)
