-- The journal of a run: its events, with the steps of one thread that follow each other counted.
-- The project's own.
use Rattle.std.specs.Prelude.{◌≢◌, ◌<◌, ℕ, List, [], ◌∷◌, ◌++◌, replicate}
use Rattle.guest_core.specs.declared.events.Event.{Event}
use Rattle.guest_core.specs.declared.events.Event.TheVariants.{Step}
use Rattle.emu_run.specs.declared.journal.Entry.{Entry}
use Rattle.emu_run.specs.declared.journal.Entry.TheVariants.{Steps}

-- the budget, the events in their order, and for how many more entries there is room
pub record History : Type 0 where
  pub budget : ℕ
  pub events : List Event
  pub room : ℕ

-- whose steps an entry counts
abbrev pub thread_of : Entry → ℕ
thread_of (Steps thread count) = thread

-- how many
abbrev pub steps_of : Entry → ℕ
steps_of (Steps thread count) = count

-- No entry is empty, and entries that follow each other are of different threads. So there is one list of entries for
-- each list of events.
abbrev pub IsMerged : List Entry → Type 0
IsMerged [] = Unit {0}
IsMerged (entry ∷ []) = 0 < steps_of entry
IsMerged (entry ∷ next ∷ entries) = (0 < steps_of entry) × (thread_of entry ≢ thread_of next) × IsMerged (next ∷ entries)

-- the last entry is of another thread
abbrev pub EndsApart : List Entry → ℕ → Type 0
EndsApart [] thread = Unit {0}
EndsApart (entry ∷ []) thread = thread_of entry ≢ thread
EndsApart (entry ∷ next ∷ entries) thread = EndsApart (next ∷ entries) thread

-- an entry, counted out
abbrev pub counted : Entry → List Event
counted (Steps thread count) = replicate count (Step thread)

abbrev pub all_counted : List Entry → List Event
all_counted [] = []
all_counted (entry ∷ entries) = counted entry ++ all_counted entries
