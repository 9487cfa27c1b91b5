-- What a part of the work leaves, whatever stands on the notes.
-- The project's own.
use Rattle.std.specs.Prelude.{ℕ, List, Option}
use Rattle.dev_board.specs.Seen.{DeviceSeen}
use Rattle.emu_top.specs.declared.cause.Cause.{Cause}
use Rattle.emu_top.specs.declared.ends.End.{End}
use Rattle.emu_top.specs.Causes.{IsTold, Step, Stops}
use Rattle.emu_run.specs.Journal.{History}
use Rattle.emu_top.specs.Outside.{FolderSeen, NotesSeen, outside}
use Rattle.emu_top.specs.Solo.{Ends}

-- the work came to an end
abbrev pub EndsAs : FolderSeen → FolderSeen → List (Option DeviceSeen) → List (Option DeviceSeen) → List (List ℕ) → End → History → Type 0
EndsAs folder folder_after devices devices_after words end journal =
    (notes notes_after : NotesSeen) → Ends (outside folder devices notes) (outside folder_after devices_after notes_after) words end journal

-- it stopped at a step, which is told as this cause
pub record StopsAs (folder folder_after : FolderSeen) (devices devices_after : List (Option DeviceSeen)) (words : List (List ℕ)) (cause : Cause) (journal : History) : Type 0 where
  pub step : Step
  pub told : IsTold step cause
  pub stops : (notes notes_after : NotesSeen) → Stops (outside folder devices notes) (outside folder_after devices_after notes_after) words step journal
