-- What `solo` and `asm` answer: the headline of the program.
-- The project's own.
use Rattle.std.specs.Prelude.{◌≡◌, ◌≢◌, ◌⊎◌, ◌≤◌, ℕ, ◌+◌, Bool, true, false, List, [], ◌∷◌, length, Option, Some, None, Ok}
use Rattle.std.specs.List.{Any}
use Rattle.cli_words.specs.Command.{Asked, Assembly, IsAsked, IsAsmAsked}
use Rattle.dev_board.specs.Seen.{DeviceSeen}
use Rattle.elf_file.specs.Reading.{Image, reading}
use Rattle.file_table.specs.Opening.{started as opened_first}
use Rattle.file_table.specs.State.{Files}
use Rattle.file_tree.specs.declared.kind.Kind.TheVariants as nodes
use Rattle.file_tree.specs.Nodes.{Tree, file_bytes, kind_in}
use Rattle.file_tree.specs.Walk.{walked}
use Rattle.guest_core.specs.declared.ends.End.{End as ProcessEnd}
use Rattle.guest_core.specs.declared.ends.End.TheVariants as process_ends
use Rattle.guest_core.specs.Event.{run}
use Rattle.guest_core.specs.Machine.{Machine}
use Rattle.guest_core.specs.Start.{FitsIn, Program, program_of, started}
use Rattle.image_store.specs.declared.folder.Entry.{Entry}
use Rattle.image_store.specs.declared.folder.Kind.TheVariants as kinds
use Rattle.image_store.specs.declared.folder.Listed.{Listed}
use Rattle.image_store.specs.Changes.{Leaves, file_at}
use Rattle.image_store.specs.Loading.{IsLoaded}
use Rattle.image_store.specs.Storing.{IsStored}
use Rattle.isa_asm.specs.File.{IsAssembled}
use Rattle.linux_model.specs.Process.{ProcessState, begun, seen_end}
use Rattle.linux_model.specs.Steps.{follow}
use Rattle.emu_top.specs.declared.ends.End.{End}
use Rattle.emu_top.specs.declared.ends.End.TheVariants.{Exit, Killed, Budget, Done}
use Rattle.emu_run.specs.Journal.{History}
use Rattle.emu_run.specs.Labels.{run_labels}
use Rattle.emu_top.specs.Notes.{TellsEnd, end_line}
use Rattle.emu_top.specs.Outside.{FolderSeen, Outside}
use Rattle.emu_run.specs.Running.{IsEnd}
use Rattle.emu_run.specs.Schedule.{scheduled}
use Rattle.emu_run.specs.Sending.{sent}
use Rattle.emu_run.specs.View.{view}

-- the status of the program at an end
abbrev pub status_of : End → ℕ
status_of (Exit code) = code
status_of (Killed signal) = 128 + signal
status_of Budget = 75
status_of Done = 0

-- the end of a run, by that of its process
abbrev pub end_of : ProcessEnd → End
end_of (process_ends.Exit code) = Exit code
end_of (process_ends.Killed signal) = Killed signal
end_of process_ends.Budget = Budget

-- ---- what the words name

-- a loaded folder: its listing, and the tree that was made of it
pub record Load (folder : Option (List Entry)) : Type 0 where
  pub listing : List Listed
  pub tree : Tree
  pub is_loaded : IsLoaded folder listing tree

-- a file stands at the path
abbrev pub IsFileAt : Tree → List ℕ → ℕ → Type 0
IsFileAt tree path file = (walked tree 1 path ≡ Ok file) × (kind_in tree file ≡ Some nodes.File)

-- none does
abbrev pub HasNoFile : Tree → List ℕ → Type 0
HasNoFile tree path = (file : ℕ) → (IsFileAt tree path file → ⊥)

-- the file that is the program's input, where the words name one
abbrev pub IsInput : Tree → Option (List ℕ) → Option ℕ → Type 0
IsInput tree None input = input ≡ None
IsInput tree (Some path) input = (file : ℕ) × (input ≡ Some file) × (IsFileAt tree path file)

-- the program and its input stand in a tree
pub record IsChosen (tree : Tree) (asked : Asked) (program : ℕ) (input : Option ℕ) : Type 0 where
  pub program_is : IsFileAt tree asked.program program
  pub input_is : IsInput tree asked.input input

-- the arguments: the program's name, and the words behind `--`
abbrev pub args_of : Asked → List (List ℕ)
args_of asked = asked.program ∷ asked.args

-- what is started
abbrev pub launched : Asked → Image → Program
launched asked image = program_of image (args_of asked) asked.env

-- the words ask for a program of the loaded folder, and its bytes are a file that starts so
pub record Prepared (folder : Option (List Entry)) (words : List (List ℕ)) : Type 0 where
  pub asked : Asked
  pub asks : IsAsked words asked
  pub load : Load folder
  pub program : ℕ
  pub input : Option ℕ
  pub chosen : IsChosen load.tree asked program input
  pub image : Image
  pub image_is : reading (file_bytes load.tree.nodes program) ≡ Ok image
  pub fits : FitsIn (launched asked image)

-- the files of the program at first: those that were loaded, so many devices by their numbers as descriptors, and the input
-- as descriptor 0
abbrev pub first_files : {folder : Option (List Entry)} {words : List (List ℕ)} → Prepared folder words → ℕ → Files
first_files prepared devices = opened_first prepared.load.tree devices prepared.input

-- the first state
abbrev pub first_state : {folder : Option (List Entry)} {words : List (List ℕ)} → Prepared folder words → ℕ → Machine
first_state prepared devices = started (launched prepared.asked prepared.image) (first_files prepared devices)

-- ---- a run

-- The words, the folder and the number of devices give a start, and the journal's events are a run from it: each is
-- enabled after those before it, and they are those of the schedule. They number at most the budget that the words ask for.
-- Their labels are a run of the process machine from its own start, whose last state is the view of the core's.
pub record Journeys (folder : Option (List Entry)) (words : List (List ℕ)) (devices : ℕ) (journal : History) (last : Machine) (process : ProcessState) : Type 0 where
  pub prepared : Prepared folder words
  pub enabled : run (Some (first_state prepared devices)) journal.events ≡ Some last
  pub in_turn : scheduled (length journal.events) [] (Some (first_state prepared devices)) ≡ journal.events
  pub within : length journal.events ≤ journal.budget
  pub budget_is : journal.budget ≡ prepared.asked.budget
  pub labels_are_a_run : follow (Some (begun (launched prepared.asked prepared.image) (first_files prepared devices))) (run_labels (Some (first_state prepared devices)) journal.events) ≡ Some process
  pub viewed : process ≡ view last

-- A run of a process that came to its end: its events are all that the schedule gives under the budget. Each device holds
-- what it held, and what the process wrote to it behind that; one is let go exactly where no description of it is left.
pub record IsRun (folder : Option (List Entry)) (words : List (List ℕ)) (before : List (Option DeviceSeen)) (end : End) (journal : History) (last : Machine) (after : List (Option DeviceSeen)) : Type 0 where
  pub process : ProcessState
  pub journeys : Journeys folder words (length before) journal last process
  pub whole : scheduled journal.budget [] (Some (first_state journeys.prepared (length before))) ≡ journal.events
  pub process_end : ProcessEnd
  pub end_is : IsEnd (seen_end process) (length journal.events) journal.budget process_end
  pub told : end ≡ end_of process_end
  pub all_sent : after ≡ sent before process.shared.files.devices

-- What the folder has become of a run that left this tree: with `--keep` it is as it was, else all changes are made that lead
-- from the loaded tree to that one.
abbrev pub FolderAfter : Bool → List Listed → Tree → Tree → Option (List Entry) → Option (List Entry) → Type 0
FolderAfter true listing loaded last before after = after ≡ before
FolderAfter false listing loaded last before after = IsStored listing loaded last before after

-- a run, with what it leaves
pub record EndsRun (before after : Outside) (words : List (List ℕ)) (end : End) (journal : History) : Type 0 where
  pub last : Machine
  pub is_run : IsRun before.folder.tree words before.devices end journal last after.devices
  pub folder_after : FolderAfter is_run.journeys.prepared.asked.keep is_run.journeys.prepared.load.listing is_run.journeys.prepared.load.tree is_run.process.shared.files.tree before.folder.tree after.folder.tree

-- ---- an assembly

-- an entry that isn't a file stands at the path
abbrev pub IsTaken : List Listed → List ℕ → Type 0
IsTaken listing path = Any (λ entry. (entry.path ≡ path) × (entry.kind ≢ kinds.File)) listing

-- the words ask to assemble a file of the loaded folder, and what is made may stand at its path
pub record IsReady (folder : Option (List Entry)) (words : List (List ℕ)) : Type 0 where
  pub assembly : Assembly
  pub asks : IsAsmAsked words assembly
  pub load : Load folder
  pub free : IsTaken load.listing assembly.out → ⊥
  pub source : ℕ
  pub source_is : IsFileAt load.tree assembly.source source

-- the source is assembled to these bytes
pub record Assembles (folder : Option (List Entry)) (words : List (List ℕ)) (bytes : List ℕ) : Type 0 where
  pub ready : IsReady folder words
  pub assembled : IsAssembled (file_bytes ready.load.tree.nodes ready.source) bytes

-- the file stands in the folder, and all else is as it was; there is no event
pub record EndsAsm (before after : Outside) (words : List (List ℕ)) (end : End) (journal : History) : Type 0 where
  pub bytes : List ℕ
  pub assembles : Assembles before.folder.tree words bytes
  pub written : Leaves assembles.ready.assembly.out (Some (file_at assembles.ready.assembly.out bytes)) before.folder.tree after.folder.tree
  pub same_devices : after.devices ≡ before.devices
  pub no_event : journal.events ≡ []
  pub no_budget : journal.budget ≡ 0
  pub done : end ≡ Done

-- ---- what is answered

abbrev pub Ends : Outside → Outside → List (List ℕ) → End → History → Type 0
Ends before after words end journal = EndsRun before after words end journal ⊎ EndsAsm before after words end journal

-- a run or an assembly came to its end, its line was told, and nothing failed
pub record Finishes (before after : Outside) (words : List (List ℕ)) (end : End) (status : ℕ) (journal : History) : Type 0 where
  pub ends : Ends before after words end journal
  pub status_is : status ≡ status_of end
  pub line : TellsEnd (end_line journal.budget end) before.notes after.notes
  pub same_reads : after.folder.failed_reads ≡ before.folder.failed_reads
  pub same_writes : after.folder.failed_writes ≡ before.folder.failed_writes
