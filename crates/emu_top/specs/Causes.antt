-- Why the program gives up: the table of its causes, and when each comes.
-- The project's own.
use Rattle.std.specs.Prelude.{◌≡◌, ◌≢◌, ◌⊎◌, ◌<◌, ◌≤◌, ℕ, Bool, true, false, List, [], ◌++◌, length, Option, Some, None, Ok, Err, codes, decimal}
use Rattle.cli_words.specs.Answer.{IsFaultOf}
use Rattle.cli_words.specs.Command.{Asked, Assembly, IsAsked, IsAsmAsked}
use Rattle.cli_words.specs.declared.order.WordsFault.{WordsFault}
use Rattle.cli_words.specs.declared.order.WordsFault.TheVariants as word_faults
use Rattle.dev_board.specs.Seen.{DeviceSeen}
use Rattle.elf_file.specs.declared.fault.ElfFault.{ElfFault}
use Rattle.elf_file.specs.declared.fault.ElfFault.TheVariants as files
use Rattle.elf_file.specs.Reading.{Gives, Image, reading}
use Rattle.file_tree.specs.Nodes.{Tree, file_bytes}
use Rattle.guest_core.specs.declared.starting.StartFault.{StartFault}
use Rattle.guest_core.specs.declared.starting.StartFault.TheVariants as starts
use Rattle.guest_core.specs.Machine.{Machine}
use Rattle.guest_core.specs.Start.{Refuses}
use Rattle.image_store.specs.Changes.{LeavesBeginning}
use Rattle.image_store.specs.declared.folder.Entry.{Entry}
use Rattle.image_store.specs.declared.loading.LoadFault.{LoadFault}
use Rattle.image_store.specs.declared.loading.LoadFault.TheVariants as loads
use Rattle.image_store.specs.declared.storing.StoreFault.{StoreFault}
use Rattle.image_store.specs.declared.storing.StoreFault.TheVariants as stores
use Rattle.image_store.specs.Loading.{IsQuiet, NotLoaded}
use Rattle.image_store.specs.Storing.{IsPartlyStored}
use Rattle.isa_asm.specs.declared.cause.AsmCause.{AsmCause}
use Rattle.isa_asm.specs.declared.cause.AsmCause.TheVariants as asm
use Rattle.isa_asm.specs.declared.cause.AsmFault.{AsmFault}
use Rattle.isa_asm.specs.File.{IsFaultOf as IsSourceFault}
use Rattle.linux_model.specs.Process.{ProcessState}
use Rattle.emu_top.specs.declared.cause.Cause.{Cause}
use Rattle.emu_top.specs.declared.cause.Cause.TheVariants as causes
use Rattle.emu_top.specs.declared.cause.Part.{Part}
use Rattle.emu_top.specs.declared.cause.Part.TheVariants as parts
use Rattle.emu_top.specs.declared.ends.End.{End}
use Rattle.emu_run.specs.declared.solo.Halt.{Halt}
use Rattle.emu_run.specs.declared.solo.Halt.TheVariants as halts
use Rattle.emu_run.specs.Journal.{History}
use Rattle.emu_top.specs.Notes.{EndsUntold, TriesLine, asm_text, fault_text, newline, part_text}
use Rattle.emu_top.specs.Outside.{FolderSeen, NotesSeen, Outside}
use Rattle.emu_run.specs.Running.{BreaksOff}
use Rattle.emu_run.specs.Sending.{sent}
use Rattle.emu_top.specs.Solo.{Assembles, Ends, HasNoFile, IsChosen, IsFileAt, IsReady, IsRun, IsTaken, Journeys, Load, first_state, launched}
use Rattle.told.specs.Told.{Rose}

-- ---- the table

-- the steps of the work, in their order, each with the fault that its part answers
pub data Step : Type 0 where
  -- the words are read
  AtWords : WordsFault → Step
  -- the folder is listed and loaded
  AtLoading : LoadFault → Step
  -- it is looked whether a file can stand where one is to be made
  AtNaming : List ℕ → Step
  -- the files that the words name are looked for: the program and then its input, or the source
  AtChoosing : List ℕ → Step
  -- the program's bytes are read as a file
  AtFile : ElfFault → Step
  -- the source is assembled
  AtSource : AsmFault → Step
  -- the first state is made
  AtStart : StartFault → Step
  -- the events are made, and what they write is sent
  AtEvents : Halt → Step
  -- what the run leaves, or what was assembled, is written to the folder
  AtStoring : StoreFault → Step

-- the status with which the program ends, its line on the notes, where there is one, and the step at which it gives up: none
-- for want of memory, which may come at each, for a failure of the notes, which comes behind them, and for what is never
-- answered
pub record Row : Type 0 where
  pub status : ℕ
  pub line : Option (List ℕ)
  pub step : Option Step

abbrev with_line : ℕ → List ℕ → Option Step → Row
with_line status line step = record { status = status; line = Some line; step = step }

abbrev without_line : ℕ → Option Step → Row
without_line status step = record { status = status; line = None; step = step }

-- nothing is read but the folder
abbrev read_step : Part → Option Step
read_step parts.Folder = Some (AtLoading loads.ReadFault)
read_step (parts.Device device) = None
read_step parts.Notes = None

abbrev pub file_step : ElfFault → Option Step
file_step files.Memory = None
file_step fault = Some (AtFile fault)

abbrev pub source_step_by : AsmFault → AsmCause → Option Step
source_step_by fault asm.Memory = None
source_step_by fault cause = Some (AtSource fault)

abbrev pub source_step : AsmFault → Option Step
source_step fault = source_step_by fault fault.cause

-- the table
abbrev pub row_of : Cause → Row
row_of (causes.Usage word) = with_line 64 (codes "rvuser: usage: word " ++ (decimal word ++ newline)) (Some (AtWords (word_faults.At word)))
row_of (causes.TooMany count) = with_line 66 (codes "rvuser: too many entries: " ++ (decimal count ++ newline)) (Some (AtLoading (loads.TooMany count)))
row_of (causes.Link path) = with_line 66 (codes "rvuser: not a plain file: " ++ (path ++ newline)) (Some (AtLoading (loads.Link path)))
row_of (causes.TooBig path size) = with_line 66 (codes "rvuser: too big: " ++ (path ++ (codes " " ++ (decimal size ++ newline)))) (Some (AtLoading (loads.TooBig path size)))
row_of (causes.NotAFile path) = with_line 66 (codes "rvuser: not a file: " ++ (path ++ newline)) (Some (AtNaming path))
row_of (causes.NoProgram path) = with_line 66 (codes "rvuser: no file " ++ (path ++ newline)) (Some (AtChoosing path))
row_of (causes.Elf fault) = with_line 65 (codes "rvuser: not runnable: " ++ (fault_text fault ++ newline)) (file_step fault)
row_of (causes.Asm fault) = with_line 65 (codes "rvuser: line " ++ (decimal fault.line ++ (codes ": " ++ (asm_text fault.cause ++ newline)))) (source_step fault)
row_of (causes.StackTooLong size) = with_line 65 (codes "rvuser: stack texts of " ++ (decimal size ++ codes " bytes\n")) (Some (AtStart (starts.StackTooLong size)))
row_of (causes.PagesFull wanted) = with_line 65 (codes "rvuser: " ++ (decimal wanted ++ codes " pages wanted\n")) (Some (AtStart (starts.PagesFull wanted)))
row_of (causes.ReadFault part) = with_line 74 (codes "rvuser: read failed: " ++ (part_text part ++ newline)) (read_step part)
row_of (causes.WriteFault parts.Folder) = with_line 74 (codes "rvuser: write failed: " ++ (part_text parts.Folder ++ newline)) (Some (AtStoring stores.WriteFault))
row_of (causes.WriteFault (parts.Device device)) = with_line 74 (codes "rvuser: write failed: " ++ (part_text (parts.Device device) ++ newline)) (Some (AtEvents (halts.Device device)))
row_of (causes.WriteFault parts.Notes) = without_line 74 None
row_of causes.Memory = without_line 70 None

-- a step's fault is told as the cause in whose row it stands, or as want of memory
abbrev pub IsTold : Step → Cause → Type 0
IsTold step cause = ((row_of cause).step ≡ Some step) ⊎ (cause ≡ causes.Memory)

-- ---- when each comes

abbrev pub Asks : List (List ℕ) → Type 0
Asks words = ((asked : Asked) × IsAsked words asked) ⊎ ((assembly : Assembly) × IsAsmAsked words assembly)

-- the program is missing, or it is there and its input is missing
abbrev pub Lacks : Tree → Asked → List ℕ → Type 0
Lacks tree asked path =
    HasNoFile tree path × ((path ≡ asked.program) ⊎ (((file : ℕ) × (IsFileAt tree asked.program file)) × (asked.input ≡ Some path)))

-- the folder was loaded, and lacks a file that a run names
pub record LacksForRun (folder : Option (List Entry)) (words : List (List ℕ)) (path : List ℕ) : Type 0 where
  pub asked : Asked
  pub asks : IsAsked words asked
  pub load : Load folder
  pub lacks : Lacks load.tree asked path

-- it can take what is to be made, and lacks the source
pub record LacksSource (folder : Option (List Entry)) (words : List (List ℕ)) (path : List ℕ) : Type 0 where
  pub assembly : Assembly
  pub asks : IsAsmAsked words assembly
  pub load : Load folder
  pub free : IsTaken load.listing assembly.out → ⊥
  pub source : path ≡ assembly.source
  pub lacks : HasNoFile load.tree path

-- it can't take what is to be made
pub record CannotTake (folder : Option (List Entry)) (words : List (List ℕ)) (path : List ℕ) : Type 0 where
  pub assembly : Assembly
  pub asks : IsAsmAsked words assembly
  pub load : Load folder
  pub out : path ≡ assembly.out
  pub taken : IsTaken load.listing path

-- the files that a run names are there, and what its program's bytes are
pub record IsFound (folder : Option (List Entry)) (words : List (List ℕ)) (asked : Asked) (bytes : List ℕ) : Type 0 where
  pub asks : IsAsked words asked
  pub load : Load folder
  pub program : ℕ
  pub input : Option ℕ
  pub chosen : IsChosen load.tree asked program input
  pub bytes_are : bytes ≡ file_bytes load.tree.nodes program

-- Why nothing was started or assembled: the steps before were made, and this one was refused. Want of memory is free.
abbrev pub Fails : Option (List Entry) → ℕ → ℕ → List (List ℕ) → Step → Type 0
Fails folder reads_before reads_after words (AtWords fault) = IsFaultOf words fault
Fails folder reads_before reads_after words (AtLoading fault) = Asks words × NotLoaded folder reads_before reads_after fault
Fails folder reads_before reads_after words (AtNaming path) = CannotTake folder words path
Fails folder reads_before reads_after words (AtChoosing path) = LacksForRun folder words path ⊎ LacksSource folder words path
Fails folder reads_before reads_after words (AtFile fault) =
    (asked : Asked) × (bytes : List ℕ) × IsFound folder words asked bytes × Gives (Err fault) (reading bytes)
Fails folder reads_before reads_after words (AtSource fault) =
    (ready : IsReady folder words) × IsSourceFault (file_bytes ready.load.tree.nodes ready.source) fault
Fails folder reads_before reads_after words (AtStart fault) =
    (asked : Asked) × (bytes : List ℕ) × (image : Image) × IsFound folder words asked bytes × (reading bytes ≡ Ok image) × Refuses (launched asked image) fault
Fails folder reads_before reads_after words (AtEvents halt) = ⊥
Fails folder reads_before reads_after words (AtStoring fault) = ⊥

-- no failed read is passed over: their count stands still, but at loading
abbrev pub ReadsBy : Step → ℕ → ℕ → Type 0
ReadsBy (AtLoading fault) before after = (before ≤ after) × IsQuiet before after fault
ReadsBy step before after = after ≡ before

-- nothing was begun: all is as it was, and the journal is that of no run, since the words may have given no budget
pub record IsRefused (before after : Outside) (words : List (List ℕ)) (step : Step) (journal : History) : Type 0 where
  pub why : Fails before.folder.tree before.folder.failed_reads after.folder.failed_reads words step
  pub reads : ReadsBy step before.folder.failed_reads after.folder.failed_reads
  pub same_tree : after.folder.tree ≡ before.folder.tree
  pub same_writes : after.folder.failed_writes ≡ before.folder.failed_writes
  pub same_devices : after.devices ≡ before.devices
  pub no_event : journal.events ≡ []
  pub no_budget : journal.budget ≡ 0

-- A run that a device stopped at its last event, which wrote to it: it holds a beginning of its output, with all that was
-- written before that event, and each other device all of its own. Or one that want of memory stopped, with all sent.
abbrev pub LeftBy : Halt → Machine → History → Machine → List (Option DeviceSeen) → List (Option DeviceSeen) → Type 0
LeftBy (halts.Device device) first journal last before after = BreaksOff first journal.events last device before after
LeftBy halts.Memory first journal last before after = after ≡ sent before last.shared.files.devices

-- a run that was stopped, before anything was written to the folder
pub record IsStopped (before after : Outside) (words : List (List ℕ)) (halt : Halt) (journal : History) : Type 0 where
  pub last : Machine
  pub process : ProcessState
  pub journeys : Journeys before.folder.tree words (length before.devices) journal last process
  pub left : LeftBy halt (first_state journeys.prepared (length before.devices)) journal last before.devices after.devices
  pub same_folder : after.folder ≡ before.folder

-- a write of the folder failed only where their count rose
abbrev pub WritesBy : StoreFault → ℕ → ℕ → Type 0
WritesBy stores.WriteFault before after = Rose before after
WritesBy stores.Memory before after = before ≤ after

-- a run came to its end, and what it leaves was stored in part
pub record StoresRun (before after : Outside) (words : List (List ℕ)) (journal : History) : Type 0 where
  pub end : End
  pub last : Machine
  pub is_run : IsRun before.folder.tree words before.devices end journal last after.devices
  pub stores : is_run.journeys.prepared.asked.keep ≡ false
  pub partly : IsPartlyStored is_run.journeys.prepared.load.listing is_run.journeys.prepared.load.tree is_run.process.shared.files.tree before.folder.tree after.folder.tree

-- what was assembled was stored in part
pub record StoresAsm (before after : Outside) (words : List (List ℕ)) (journal : History) : Type 0 where
  pub bytes : List ℕ
  pub assembles : Assembles before.folder.tree words bytes
  pub partly : LeavesBeginning assembles.ready.assembly.out bytes before.folder.tree after.folder.tree
  pub same_devices : after.devices ≡ before.devices
  pub no_event : journal.events ≡ []
  pub no_budget : journal.budget ≡ 0

pub record IsPartly (before after : Outside) (words : List (List ℕ)) (fault : StoreFault) (journal : History) : Type 0 where
  pub stores : StoresRun before after words journal ⊎ StoresAsm before after words journal
  pub same_reads : after.folder.failed_reads ≡ before.folder.failed_reads
  pub writes : WritesBy fault before.folder.failed_writes after.folder.failed_writes

-- what stops the work at a step, and what it leaves but the notes
abbrev pub Stops : Outside → Outside → List (List ℕ) → Step → History → Type 0
Stops before after words (AtEvents halt) journal = IsStopped before after words halt journal
Stops before after words (AtStoring fault) journal = IsPartly before after words fault journal
Stops before after words step journal = IsRefused before after words step journal

-- A fault at a step, which is told as its cause. The cause's line was tried, where it has one; where there was no memory for
-- that line, the cause is want of memory.
pub record FaultsAt (before after : Outside) (words : List (List ℕ)) (cause : Cause) (journal : History) : Type 0 where
  pub step : Step
  pub told : IsTold step cause
  pub stops : Stops before after words step journal
  pub tried : TriesLine (row_of cause).line before.notes after.notes

-- the work came to its end, whose line couldn't be told, or made
pub record FaultsBehind (before after : Outside) (words : List (List ℕ)) (cause : Cause) (journal : History) : Type 0 where
  pub end : End
  pub ends : Ends before after words end journal
  pub untold : EndsUntold journal.budget end before.notes after.notes cause
  pub same_reads : after.folder.failed_reads ≡ before.folder.failed_reads
  pub same_writes : after.folder.failed_writes ≡ before.folder.failed_writes

-- each cause of a fault, and what it leaves
abbrev pub Faults : Outside → Outside → List (List ℕ) → Cause → History → Type 0
Faults before after words cause journal = FaultsAt before after words cause journal ⊎ FaultsBehind before after words cause journal

-- what is told of a fault: its line was tried, where it has one; or there was no memory for the line, and then the fault is
-- want of memory, and the notes stay as they were
abbrev pub TellsFault : Cause → NotesSeen → NotesSeen → Cause → Type 0
TellsFault cause before after answered =
    ((answered ≡ cause) × TriesLine (row_of cause).line before after) ⊎ ((answered ≡ causes.Memory) × (after ≡ before))
