-- From what the parts of the work leave to what the top call answers.
use Rattle.std.proofs.Common.{◌≡◌, ◌⊎◌, inl, inr, ℕ, List, Option, refl, sym, subst}
use Rattle.cli_words.specs.Answer.{IsFaultOf}
use Rattle.cli_words.specs.declared.order.WordsFault.{WordsFault}
use Rattle.dev_board.specs.Seen.{DeviceSeen}
use Rattle.emu_top.specs.declared.cause.Cause.{Cause}
use Rattle.emu_top.specs.declared.cause.Cause.TheVariants as causes
use Rattle.emu_top.specs.declared.ends.End.{End}
use Rattle.emu_top.specs.Causes.{AtWords, Faults, IsTold, TellsFault, row_of}
use Rattle.emu_run.specs.Journal.{History}
use Rattle.emu_top.specs.Notes.{EndsUntold, TellsEnd, TriesLine, end_line}
use Rattle.emu_top.specs.Outside.{FolderSeen, NotesSeen, outside}
use Rattle.emu_top.specs.Parts.{EndsAs, StopsAs}
use Rattle.emu_top.specs.Solo.{Finishes, status_of}
use Rattle.emu_top.proofs.LaunchFacts.{IsAlone, refused}

-- the words were refused
pub stops_words : (folder folder_after : FolderSeen) (devices devices_after : List (Option DeviceSeen)) (words : List (List ℕ)) (fault : WordsFault) (cause : Cause) (journal : History) → IsFaultOf words fault → IsTold (AtWords fault) cause → folder_after.failed_reads ≡ folder.failed_reads → IsAlone folder folder_after devices devices_after journal → StopsAs folder folder_after devices devices_after words cause journal
stops_words folder folder_after devices devices_after words fault cause journal why told still alone = record {
  step = AtWords fault;
  told = told;
  stops = refused folder folder_after devices devices_after words (AtWords fault) journal why still alone;
}

-- an end that was told
pub finishes : (folder folder_after : FolderSeen) (devices devices_after : List (Option DeviceSeen)) (notes notes_after : NotesSeen) (words : List (List ℕ)) (end : End) (status : ℕ) (journal : History) → EndsAs folder folder_after devices devices_after words end journal → status ≡ status_of end → TellsEnd (end_line journal.budget end) notes notes_after → folder_after.failed_reads ≡ folder.failed_reads → folder_after.failed_writes ≡ folder.failed_writes → Finishes (outside folder devices notes) (outside folder_after devices_after notes_after) words end status journal
finishes folder folder_after devices devices_after notes notes_after words end status journal ends is told reads writes = record {
  ends = ends notes notes_after;
  status_is = is;
  line = told;
  same_reads = reads;
  same_writes = writes;
}

-- one that couldn't be told
pub untold_faults : (folder folder_after : FolderSeen) (devices devices_after : List (Option DeviceSeen)) (notes notes_after : NotesSeen) (words : List (List ℕ)) (end : End) (cause : Cause) (journal : History) → EndsAs folder folder_after devices devices_after words end journal → EndsUntold journal.budget end notes notes_after cause → folder_after.failed_reads ≡ folder.failed_reads → folder_after.failed_writes ≡ folder.failed_writes → Faults (outside folder devices notes) (outside folder_after devices_after notes_after) words cause journal
untold_faults folder folder_after devices devices_after notes notes_after words end cause journal ends untold reads writes = inr (record {
  end = end;
  ends = ends notes notes_after;
  untold = untold;
  same_reads = reads;
  same_writes = writes;
})

-- a fault whose line was tried
pub told_faults : (folder folder_after : FolderSeen) (devices devices_after : List (Option DeviceSeen)) (notes notes_after : NotesSeen) (words : List (List ℕ)) (cause answered : Cause) (journal : History) → StopsAs folder folder_after devices devices_after words cause journal → TellsFault cause notes notes_after answered → Faults (outside folder devices notes) (outside folder_after devices_after notes_after) words answered journal
told_faults folder folder_after devices devices_after notes notes_after words cause answered journal stops (inl tried) = inl (record {
  step = stops.step;
  told = subst (λ (c : Cause). IsTold stops.step c) (sym tried.0) stops.told;
  stops = stops.stops notes notes_after;
  tried = subst (λ (c : Cause). TriesLine (row_of c).line notes notes_after) (sym tried.0) tried.1;
})
told_faults folder folder_after devices devices_after notes notes_after words cause answered journal stops (inr forgotten) = inl (record {
  step = stops.step;
  told = inr forgotten.0;
  stops = stops.stops notes notes_after;
  tried = subst (λ (c : Cause). TriesLine (row_of c).line notes notes_after) (sym forgotten.0) forgotten.1;
})
