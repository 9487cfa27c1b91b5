-- What the parts of a turn do: to the run, and to what is seen of its devices.
-- The project's own.
use Rattle.std.specs.Prelude.{◌≡◌, ◌≤◌, ℕ, zero, suc, ◌+◌, if◌then◌else◌, List, [], ◌∷◌, ◌++◌, length, Option, Some, None, slice_get, slice_set}
use Rattle.std.specs.Option.{option_map}
use Rattle.dev_board.specs.Seen.{DeviceSeen}
use Rattle.file_table.specs.declared.state.Device.{Device}
use Rattle.file_table.specs.State.{outputs_of}
use Rattle.guest_core.specs.declared.events.Event.TheVariants.{Step}
use Rattle.guest_core.specs.Event.{event_after}
use Rattle.guest_core.specs.Machine.{first_thread}
use Rattle.told.specs.Told.{HoldsBeginning, Rose}
use Rattle.emu_run.specs.declared.solo.Halt.{Halt}
use Rattle.emu_run.specs.declared.solo.Halt.TheVariants as halts
use Rattle.emu_run.specs.declared.solo.Run.{Run}
use Rattle.emu_run.specs.Running.{Makes, WroteTo}
use Rattle.emu_run.specs.Sending.{IsSentUpTo, sent, with_more}

-- ---- the run

-- a step of the first thread was made, and noted
pub record Stepped {D : Type 0} (old new : Run D) : Type 0 where
  pub event : event_after old.core (Step first_thread) ≡ Some new.core
  pub noted : new.journal.events ≡ old.journal.events ++ Step first_thread ∷ []

-- at most so many events were made, which touched no file
pub record WentAhead {D : Type 0} (old new : Run D) (limit : ℕ) : Type 0 where
  pub made : Makes old.core old.journal.events new.core new.journal.events
  pub few : length new.journal.events ≤ length old.journal.events + limit
  pub files : new.core.shared.files ≡ old.core.shared.files
  pub end : new.core.end ≡ old.core.end
  pub budget : new.journal.budget ≡ old.journal.budget
  pub board : new.board ≡ old.board

-- nothing was made
pub record Stays {D : Type 0} (old new : Run D) : Type 0 where
  pub core : new.core ≡ old.core
  pub events : new.journal.events ≡ old.journal.events
  pub board : new.board ≡ old.board

-- ---- the devices

-- those that live no more are let go
abbrev pub without_dead : {X : Type 0} → List (Option X) → List Device → List (Option X)
without_dead [] devices = []
without_dead (place ∷ places) [] = place ∷ places
without_dead (place ∷ places) (device ∷ devices) = (if device.live then place else None) ∷ without_dead places devices

-- one holds bytes more, if it is there
abbrev pub handed : ℕ → List ℕ → List (Option DeviceSeen) → List (Option DeviceSeen)
handed device bytes [] = []
handed zero bytes (seen ∷ rest) = option_map (λ it. with_more it bytes) seen ∷ rest
handed (suc device) bytes (seen ∷ rest) = seen ∷ handed device bytes rest

-- one failed, and holds a beginning of the bytes more
pub record TookPart (device : ℕ) (bytes : List ℕ) (old new : List (Option DeviceSeen)) : Type 0 where
  pub was : DeviceSeen
  pub is : DeviceSeen
  pub there : slice_get old device ≡ Some (Some was)
  pub changed : new ≡ slice_set old device (Some is)
  pub beginning : HoldsBeginning was.held bytes is.held
  pub left : is.left ≡ was.left
  pub same_reads : is.failed_reads ≡ was.failed_reads
  pub rose : Rose was.failed_writes is.failed_writes

-- ---- a turn

-- Where the devices were left as the outputs before say, they are left as the outputs afterwards say.
abbrev pub KeepsSent : List Device → List Device → List (Option DeviceSeen) → List (Option DeviceSeen) → Type 0
KeepsSent earlier devices old new =
    (first : List (Option DeviceSeen)) → length first ≡ length earlier → old ≡ sent first earlier → new ≡ sent first devices

-- the same but for a device that failed at the last write
abbrev pub KeepsSentUpTo : ℕ → List Device → List Device → List (Option DeviceSeen) → List (Option DeviceSeen) → Type 0
KeepsSentUpTo device earlier devices old new =
    (first : List (Option DeviceSeen)) → length first ≡ length earlier → old ≡ sent first earlier → IsSentUpTo first earlier devices device new

-- why a turn stopped, and what it leaves, with what was seen of the devices before it and is seen after it
abbrev pub Halted : {D : Type 0} → Halt → Run D → Run D → List (Option DeviceSeen) → List (Option DeviceSeen) → Type 0
Halted (halts.Device device) old new before after =
    Stepped old new
    × KeepsSentUpTo device old.core.shared.files.devices new.core.shared.files.devices before after
    × WroteTo device (outputs_of old.core.shared.files) (outputs_of new.core.shared.files)
Halted halts.Memory old new before after = Stays old new
