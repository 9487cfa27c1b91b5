-- What is known of an answer whose case isn't looked at.
use Rattle.std.proofs.Common.{◌≡◌, ℕ, List, Option, Result, Ok, Err, IfOk, IfErr, MatchResult, sym, subst}
use Rattle.dev_board.specs.Seen.{DeviceSeen}
use Rattle.emu_top.specs.declared.cause.Cause.{Cause}
use Rattle.emu_top.specs.declared.cause.Cause.TheVariants as causes
use Rattle.emu_top.specs.declared.ends.End.{End}
use Rattle.emu_top.specs.declared.top.Finished.{Finished}
use Rattle.emu_top.specs.declared.top.TopFault.{TopFault}
use Rattle.emu_top.specs.Causes.{Faults}
use Rattle.emu_top.specs.Complete.{CanEnd, NoneRose}
use Rattle.emu_top.specs.Lawful.{IsLawful}
use Rattle.emu_top.specs.Notes.{EndsUntold, TellsEnd, end_line}
use Rattle.emu_top.specs.Outside.{FolderSeen, NotesSeen, Outside, outside}
use Rattle.emu_top.specs.Parts.{EndsAs}
use Rattle.emu_top.specs.Solo.{Finishes, status_of}
use Rattle.emu_top.proofs.CompleteFacts.{complete}
use Rattle.emu_top.proofs.LawFacts.{fault_lawful, finish_lawful}
use Rattle.emu_top.proofs.TopFacts.{finishes, untold_faults}

-- what holds for all words holds for these
pub ok_of : {T E : Type 0} (r : Result T E) (Asks : List (List ℕ) → Type 0) (P : T → List (List ℕ) → Type 0) (words : List (List ℕ)) → Asks words → IfOk r (λ f. (w : List (List ℕ)) → Asks w → P f w) → IfOk r (λ f. P f words)
ok_of (Ok f) Asks P words asks all = all words asks
ok_of (Err e) Asks P words asks all = tt

pub err_of : {T E : Type 0} (r : Result T E) (Asks : List (List ℕ) → Type 0) (P : E → List (List ℕ) → Type 0) (words : List (List ℕ)) → Asks words → IfErr r (λ f. (w : List (List ℕ)) → Asks w → P f w) → IfErr r (λ f. P f words)
err_of (Ok f) Asks P words asks all = tt
err_of (Err e) Asks P words asks all = all words asks

-- an end whose line was told
pub told_finishes : {D : Type 0} (see : List (Option D) → List (Option DeviceSeen)) (r : Result (Finished D) (TopFault D)) (finished : Finished D) (folder folder_after : FolderSeen) (before : List (Option DeviceSeen)) (notes notes_after : NotesSeen) (words : List (List ℕ)) → EndsAs folder folder_after before (see finished.devices) words finished.end finished.journal → finished.status ≡ status_of finished.end → folder_after.failed_reads ≡ folder.failed_reads → folder_after.failed_writes ≡ folder.failed_writes → IfOk r (λ f. (f ≡ finished) × TellsEnd (end_line f.journal.budget f.end) notes notes_after) → IfOk r (λ f. Finishes (outside folder before notes) (outside folder_after (see f.devices) notes_after) words f.end f.status f.journal)
told_finishes see (Err e) finished folder folder_after before notes notes_after words ends status reads writes told = tt
told_finishes {D} see (Ok f) finished folder folder_after before notes notes_after words ends status reads writes told =
    let tells : TellsEnd (end_line finished.journal.budget finished.end) notes notes_after = subst (λ (x : Finished D). TellsEnd (end_line x.journal.budget x.end) notes notes_after) told.0 told.1 in
    subst (λ (x : Finished D). Finishes (outside folder before notes) (outside folder_after (see x.devices) notes_after) words x.end x.status x.journal) (sym told.0)
    (finishes folder folder_after before (see finished.devices) notes notes_after words finished.end finished.status finished.journal ends status tells reads writes)

-- one whose line wasn't
pub told_faults_behind : {D : Type 0} (see : List (Option D) → List (Option DeviceSeen)) (r : Result (Finished D) (TopFault D)) (finished : Finished D) (folder folder_after : FolderSeen) (before : List (Option DeviceSeen)) (notes notes_after : NotesSeen) (words : List (List ℕ)) → EndsAs folder folder_after before (see finished.devices) words finished.end finished.journal → folder_after.failed_reads ≡ folder.failed_reads → folder_after.failed_writes ≡ folder.failed_writes → IfErr r (λ f. EndsUntold finished.journal.budget finished.end notes notes_after f.cause) → IfErr r (λ f. f.journal ≡ finished.journal) → IfErr r (λ f. f.devices ≡ finished.devices) → IfErr r (λ f. Faults (outside folder before notes) (outside folder_after (see f.devices) notes_after) words f.cause f.journal)
told_faults_behind see (Ok f) finished folder folder_after before notes notes_after words ends reads writes untold journal devices = tt
told_faults_behind see (Err f) finished folder folder_after before notes notes_after words ends reads writes untold journal devices =
    rw (journal, devices) (untold_faults folder folder_after before (see finished.devices) notes notes_after words finished.end f.cause finished.journal ends untold reads writes)

-- the journal is lawful in both cases
pub both_lawful : {D : Type 0} (see : List (Option D) → List (Option DeviceSeen)) (r : Result (Finished D) (TopFault D)) (old : Outside) (folder_after : FolderSeen) (notes_after : NotesSeen) (words : List (List ℕ)) → IfOk r (λ f. Finishes old (outside folder_after (see f.devices) notes_after) words f.end f.status f.journal) → IfErr r (λ f. Faults old (outside folder_after (see f.devices) notes_after) words f.cause f.journal) → MatchResult r (λ f. IsLawful f.journal) (λ f. IsLawful f.journal)
both_lawful see (Ok f) old folder_after notes_after words ended faulted = finish_lawful old (outside folder_after (see f.devices) notes_after) words f.end f.status f.journal ended
both_lawful see (Err f) old folder_after notes_after words ended faulted = fault_lawful old (outside folder_after (see f.devices) notes_after) words f.cause f.journal faulted

-- and only want of memory is left
pub err_complete : {D : Type 0} (see : List (Option D) → List (Option DeviceSeen)) (r : Result (Finished D) (TopFault D)) (folder folder_after : FolderSeen) (before : List (Option DeviceSeen)) (notes notes_after : NotesSeen) (words : List (List ℕ)) → IfErr r (λ f. Faults (outside folder before notes) (outside folder_after (see f.devices) notes_after) words f.cause f.journal) → IfErr r (λ f. CanEnd folder.tree words → NoneRose (outside folder before notes) (outside folder_after (see f.devices) notes_after) → f.cause ≡ causes.Memory)
err_complete see (Ok f) folder folder_after before notes notes_after words faulted = tt
err_complete see (Err f) folder folder_after before notes notes_after words faulted = complete folder before notes (outside folder_after (see f.devices) notes_after) words f.cause f.journal faulted
