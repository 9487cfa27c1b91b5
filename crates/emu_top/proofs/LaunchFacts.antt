-- From what is started over a loaded folder to what the words ask for.
use Rattle.std.proofs.Common.{◌≡◌, ◌⊎◌, inl, inr, ℕ, Bool, false, List, [], Option, Some, Ok, Err, length, refl, ap, sym, subst, ◌∙◌, Result, IfOk, IfErr, OnOk, OnErr, MatchResult, replicate}
use Rattle.std.proofs.lemmas.List.{length-replicate}
use Rattle.file_table.specs.Opening.{new_device}
use Rattle.emu_run.specs.declared.executing.Executed.{Executed}
use Rattle.emu_top.specs.declared.top.Finished.{Finished}
use Rattle.emu_top.specs.declared.top.TopFault.{TopFault}
use Rattle.emu_run.proofs.StartFacts.{start_devices, start_sent}
use Rattle.cli_words.specs.Command.{Asked, IsAsked}
use Rattle.dev_board.specs.Seen.{DeviceSeen}
use Rattle.file_table.specs.Opening.{started as opened_first}
use Rattle.file_table.specs.State.{Files}
use Rattle.file_tree.specs.Nodes.{Tree, file_bytes}
use Rattle.guest_core.specs.declared.ends.End.{End as ProcessEnd}
use Rattle.guest_core.specs.Event.{run}
use Rattle.guest_core.specs.Kept.{Keeps}
use Rattle.guest_core.specs.Machine.{Machine}
use Rattle.guest_core.specs.Start.{Program, started}
use Rattle.image_store.specs.declared.folder.Entry.{Entry}
use Rattle.image_store.specs.declared.loading.LoadFault.{LoadFault}
use Rattle.image_store.specs.declared.loading.Loaded.{Loaded}
use Rattle.image_store.specs.Loading.{IsLoaded, NotLoaded}
use Rattle.image_store.specs.Storing.{IsPartlyStored}
use Rattle.emu_top.specs.declared.cause.Cause.{Cause}
use Rattle.emu_top.specs.declared.ends.End.{End}
use Rattle.emu_top.specs.declared.prepare.Launch.{Launch}
use Rattle.emu_run.specs.declared.solo.Halt.{Halt}
use Rattle.emu_run.specs.declared.solo.Halt.TheVariants as halts
use Rattle.emu_top.specs.Assembling.{NotWritten}
use Rattle.emu_top.specs.Causes.{Asks, AtChoosing, AtEvents, AtFile, AtLoading, AtStart, AtStoring, Fails, IsRefused, IsStopped, IsTold, LeftBy, ReadsBy, Step}
use Rattle.emu_run.specs.Journal.{History}
use Rattle.emu_top.specs.Loading.{IsLaunch, IsMissed, IsNoElf, IsNoStart, NotLaunched}
use Rattle.emu_top.specs.Outside.{FolderSeen, NotesSeen, Outside, outside}
use Rattle.emu_top.specs.Parts.{EndsAs, StopsAs}
use Rattle.emu_run.specs.Running.{BreaksOff, CoreFinishes, CoreStops, OneLives, RunsFrom}
use Rattle.emu_run.specs.Sending.{sent}
use Rattle.emu_top.specs.Solo.{FolderAfter, IsRun, Journeys, Load, Prepared, end_of, first_state, launched}
use Rattle.emu_run.specs.View.{view}
use Rattle.emu_run.proofs.EventsSimulate.{start_simulates}
use Rattle.emu_run.proofs.ScheduleFacts.{start_in_turn, start_one, start_whole}

-- ---- where nothing was begun

-- all is as it was, and the journal is that of no run
pub record IsAlone (folder folder_after : FolderSeen) (devices devices_after : List (Option DeviceSeen)) (journal : History) : Type 0 where
  pub tree : folder_after.tree ≡ folder.tree
  pub writes : folder_after.failed_writes ≡ folder.failed_writes
  pub devices_are : devices_after ≡ devices
  pub events : journal.events ≡ []
  pub budget : journal.budget ≡ 0

pub refused : (folder folder_after : FolderSeen) (devices devices_after : List (Option DeviceSeen)) (words : List (List ℕ)) (step : Step) (journal : History) → Fails folder.tree folder.failed_reads folder_after.failed_reads words step → ReadsBy step folder.failed_reads folder_after.failed_reads → IsAlone folder folder_after devices devices_after journal → (notes notes_after : NotesSeen) → IsRefused (outside folder devices notes) (outside folder_after devices_after notes_after) words step journal
refused folder folder_after devices devices_after words step journal why reads alone notes notes_after = record {
  why = why;
  reads = reads;
  same_tree = alone.tree;
  same_writes = alone.writes;
  same_devices = alone.devices_are;
  no_event = alone.events;
  no_budget = alone.budget;
}

-- the folder wasn't loaded
pub stops_loading : (folder folder_after : FolderSeen) (devices devices_after : List (Option DeviceSeen)) (words : List (List ℕ)) (cause : Cause) (journal : History) → Asks words → ((fault : LoadFault) × IsTold (AtLoading fault) cause × NotLoaded folder.tree folder.failed_reads folder_after.failed_reads fault × ReadsBy (AtLoading fault) folder.failed_reads folder_after.failed_reads) → IsAlone folder folder_after devices devices_after journal → StopsAs folder folder_after devices devices_after words cause journal
stops_loading folder folder_after devices devices_after words cause journal asks why alone = record {
  step = AtLoading why.0;
  told = why.1;
  stops = refused folder folder_after devices devices_after words (AtLoading why.0) journal (asks, why.2) why.3 alone;
}

-- nothing was started over it
pub stops_launching : (folder folder_after : FolderSeen) (devices devices_after : List (Option DeviceSeen)) (words : List (List ℕ)) (asked : Asked) (load : Load folder.tree) (cause : Cause) (journal : History) → IsAsked words asked → NotLaunched load.tree asked cause → folder_after.failed_reads ≡ folder.failed_reads → IsAlone folder folder_after devices devices_after journal → StopsAs folder folder_after devices devices_after words cause journal
stops_launching folder folder_after devices devices_after words asked load cause journal asks (inl missed) still alone = record {
  step = AtChoosing missed.path;
  told = missed.told;
  stops = refused folder folder_after devices devices_after words (AtChoosing missed.path) journal (inl (record { asked = asked; asks = asks; load = load; lacks = missed.lacks })) still alone;
}
stops_launching folder folder_after devices devices_after words asked load cause journal asks (inr (inl no_elf)) still alone = record {
  step = AtFile no_elf.fault;
  told = no_elf.told;
  stops = refused folder folder_after devices devices_after words (AtFile no_elf.fault) journal (
    asked,
    file_bytes load.tree.nodes no_elf.program,
    record { asks = asks; load = load; program = no_elf.program; input = no_elf.input; chosen = no_elf.chosen; bytes_are = refl },
    no_elf.gives,
  ) still alone;
}
stops_launching folder folder_after devices devices_after words asked load cause journal asks (inr (inr no_start)) still alone = record {
  step = AtStart no_start.fault;
  told = no_start.told;
  stops = refused folder folder_after devices devices_after words (AtStart no_start.fault) journal (
    asked,
    file_bytes load.tree.nodes no_start.program,
    no_start.image,
    record { asks = asks; load = load; program = no_start.program; input = no_start.input; chosen = no_start.chosen; bytes_are = refl },
    no_start.image_is,
    no_start.refuses,
  ) still alone;
}

-- ---- a run

abbrev prepared : (folder : Option (List Entry)) (words : List (List ℕ)) (loaded : Loaded) (asked : Asked) (devices : ℕ) (launch : Launch) → IsAsked words asked → IsLoaded folder loaded.listed.items loaded.tree → IsLaunch loaded asked devices launch → Prepared folder words
prepared folder words loaded asked devices launch asks is_loaded is = record {
  asked = asked;
  asks = asks;
  load = record { listing = loaded.listed.items; tree = loaded.tree; is_loaded = is_loaded };
  program = is.program;
  input = is.input;
  chosen = is.chosen;
  image = is.image;
  image_is = is.image_is;
  fits = is.fits;
}

enabled : (loaded : Loaded) (asked : Asked) (devices : ℕ) (launch : Launch) (is : IsLaunch loaded asked devices launch) (journal : History) (last : Machine) → RunsFrom launch.core launch.budget journal last → run (Some (started (launched asked is.image) (opened_first loaded.tree devices is.input))) journal.events ≡ Some last
enabled loaded asked devices launch is journal last runs = subst (λ (m : Machine). run (Some m) journal.events ≡ Some last) is.core_is runs.enabled

abbrev journeys : (folder : Option (List Entry)) (words : List (List ℕ)) (loaded : Loaded) (asked : Asked) (devices : ℕ) (launch : Launch) (journal : History) (last : Machine) → IsAsked words asked → IsLoaded folder loaded.listed.items loaded.tree → IsLaunch loaded asked devices launch → RunsFrom launch.core launch.budget journal last → Journeys folder words devices journal last (view last)
journeys folder words loaded asked devices launch journal last asks is_loaded is runs =
    let program = launched asked is.image in
    let files = opened_first loaded.tree devices is.input in
    let made = enabled loaded asked devices launch is journal last runs in
    record {
      prepared = prepared folder words loaded asked devices launch asks is_loaded is;
      enabled = made;
      in_turn = start_in_turn program files journal.events last made;
      within = runs.within;
      budget_is = runs.budget_is ∙ is.budget_is;
      labels_are_a_run = start_simulates program files journal.events last (subst Keeps is.core_is is.keeps) made;
      viewed = refl;
    }

abbrev is_run : (folder : Option (List Entry)) (words : List (List ℕ)) (loaded : Loaded) (asked : Asked) (launch : Launch) (before : List (Option DeviceSeen)) (end : ProcessEnd) (last : Machine) (journal : History) (after : List (Option DeviceSeen)) → IsAsked words asked → IsLoaded folder loaded.listed.items loaded.tree → IsLaunch loaded asked (length before) launch → CoreFinishes launch.core launch.budget before end last journal after → IsRun folder words before (end_of end) journal last after
is_run folder words loaded asked launch before end last journal after asks is_loaded is finishes =
    let made = enabled loaded asked (length before) launch is journal last finishes.runs in
    record {
      process = view last;
      journeys = journeys folder words loaded asked (length before) launch journal last asks is_loaded is finishes.runs;
      whole = start_whole (launched asked is.image) (opened_first loaded.tree (length before) is.input) journal.events journal.budget last end made finishes.runs.within finishes.end_is;
      process_end = end;
      end_is = finishes.end_is;
      told = refl;
      all_sent = finishes.all_sent;
    }

-- one that came to its end, with what it left in the folder
pub ends_run : (folder folder_after : FolderSeen) (words : List (List ℕ)) (loaded : Loaded) (asked : Asked) (launch : Launch) (before : List (Option DeviceSeen)) (end : ProcessEnd) (last : Machine) (journal : History) (after : List (Option DeviceSeen)) → IsAsked words asked → IsLoaded folder.tree loaded.listed.items loaded.tree → IsLaunch loaded asked (length before) launch → CoreFinishes launch.core launch.budget before end last journal after → FolderAfter launch.keep launch.loaded.listed.items launch.loaded.tree last.shared.files.tree folder.tree folder_after.tree → EndsAs folder folder_after before after words (end_of end) journal
ends_run folder folder_after words loaded asked launch before end last journal after asks is_loaded is finishes stored notes notes_after = inl (record {
  last = last;
  is_run = is_run folder.tree words loaded asked launch before end last journal after asks is_loaded is finishes;
  folder_after = subst (λ (k : Bool). FolderAfter k loaded.listed.items loaded.tree last.shared.files.tree folder.tree folder_after.tree) is.keep_is
      (subst (λ (l : Loaded). FolderAfter launch.keep l.listed.items l.tree last.shared.files.tree folder.tree folder_after.tree) is.loaded_is stored);
})

-- one whose tree wasn't written back whole
pub stops_storing : (folder folder_after : FolderSeen) (words : List (List ℕ)) (loaded : Loaded) (asked : Asked) (launch : Launch) (before : List (Option DeviceSeen)) (end : ProcessEnd) (last : Machine) (journal : History) (after : List (Option DeviceSeen)) (cause : Cause) → IsAsked words asked → IsLoaded folder.tree loaded.listed.items loaded.tree → IsLaunch loaded asked (length before) launch → CoreFinishes launch.core launch.budget before end last journal after → launch.keep ≡ false → IsPartlyStored launch.loaded.listed.items launch.loaded.tree last.shared.files.tree folder.tree folder_after.tree → NotWritten folder.failed_writes folder_after.failed_writes cause → folder_after.failed_reads ≡ folder.failed_reads → StopsAs folder folder_after before after words cause journal
stops_storing folder folder_after words loaded asked launch before end last journal after cause asks is_loaded is finishes keep partly not_written reads = record {
  step = AtStoring not_written.fault;
  told = not_written.told;
  stops = λ notes notes_after. record {
    stores = inl (record {
      end = end_of end;
      last = last;
      is_run = is_run folder.tree words loaded asked launch before end last journal after asks is_loaded is finishes;
      stores = sym is.keep_is ∙ keep;
      partly = subst (λ (l : Loaded). IsPartlyStored l.listed.items l.tree last.shared.files.tree folder.tree folder_after.tree) is.loaded_is partly;
    });
    same_reads = reads;
    writes = not_written.writes;
  };
}

-- one that was stopped
runs_by : (core : Machine) (budget : ℕ) (before : List (Option DeviceSeen)) (halt : Halt) (last : Machine) (journal : History) (after : List (Option DeviceSeen)) → CoreStops core budget before halt last journal after → RunsFrom core budget journal last
runs_by core budget before (halts.Device device) last journal after stopped = stopped.0
runs_by core budget before halts.Memory last journal after stopped = stopped.0

left_by : (core first : Machine) (budget : ℕ) (before : List (Option DeviceSeen)) (halt : Halt) (last : Machine) (journal : History) (after : List (Option DeviceSeen)) → core ≡ first → CoreStops core budget before halt last journal after → LeftBy halt first journal last before after
left_by core first budget before (halts.Device device) last journal after same stopped = subst (λ (m : Machine). BreaksOff m journal.events last device before after) same stopped.1
left_by core first budget before halts.Memory last journal after same stopped = stopped.1

pub stops_events : (folder folder_after : FolderSeen) (words : List (List ℕ)) (loaded : Loaded) (asked : Asked) (launch : Launch) (before : List (Option DeviceSeen)) (halt : Halt) (journal : History) (after : List (Option DeviceSeen)) (cause : Cause) → IsAsked words asked → IsLoaded folder.tree loaded.listed.items loaded.tree → IsLaunch loaded asked (length before) launch → ((last : Machine) × CoreStops launch.core launch.budget before halt last journal after) → IsTold (AtEvents halt) cause → folder_after ≡ folder → StopsAs folder folder_after before after words cause journal
stops_events folder folder_after words loaded asked launch before halt journal after cause asks is_loaded is stopped told same = record {
  step = AtEvents halt;
  told = told;
  stops = λ notes notes_after. record {
    last = stopped.0;
    process = view stopped.0;
    journeys = journeys folder.tree words loaded asked (length before) launch journal stopped.0 asks is_loaded is (runs_by launch.core launch.budget before halt stopped.0 journal after stopped.1);
    left = left_by launch.core _ launch.budget before halt stopped.0 journal after is.core_is stopped.1;
    same_folder = same;
  };
}

-- a folder of which all is as it was
pub folder_same : (tree tree_after : Option (List Entry)) (reads reads_after writes writes_after : ℕ) → tree_after ≡ tree → reads_after ≡ reads → writes_after ≡ writes → (let after : FolderSeen = record { tree = tree_after; failed_reads = reads_after; failed_writes = writes_after } in let before : FolderSeen = record { tree = tree; failed_reads = reads; failed_writes = writes } in after ≡ before)
folder_same tree tree_after reads reads_after writes writes_after t r w = rw (t, r, w) refl

-- ---- the first state

pub launch_one : (loaded : Loaded) (asked : Asked) (devices : ℕ) (launch : Launch) → IsLaunch loaded asked devices launch → OneLives launch.core
launch_one loaded asked devices launch is = start_one (launched asked is.image) (opened_first loaded.tree devices is.input) launch.core is.core_is

started_files : (program : Program) (files : Files) → (started program files).shared.files ≡ files
unfolding started
started_files program files = refl

launch_devices : (loaded : Loaded) (asked : Asked) (devices : ℕ) (launch : Launch) → IsLaunch loaded asked devices launch → launch.core.shared.files.devices ≡ replicate devices new_device
launch_devices loaded asked devices launch is =
    ap (λ (m : Machine). m.shared.files.devices) is.core_is
    ∙ ap (λ (f : Files). f.devices) (started_files (launched asked is.image) (opened_first loaded.tree devices is.input))
    ∙ start_devices loaded.tree devices is.input

pub launch_count : (loaded : Loaded) (asked : Asked) (devices count : ℕ) (launch : Launch) → IsLaunch loaded asked devices launch → devices ≡ count → count ≡ length launch.core.shared.files.devices
launch_count loaded asked devices count launch is same = sym (ap length (launch_devices loaded asked devices launch is) ∙ length-replicate devices new_device ∙ same)

pub launch_quiet : (loaded : Loaded) (asked : Asked) (devices : ℕ) (launch : Launch) (seen : List (Option DeviceSeen)) → IsLaunch loaded asked devices launch → devices ≡ length seen → seen ≡ sent seen launch.core.shared.files.devices
launch_quiet loaded asked devices launch seen is same = sym (ap (sent seen) (launch_devices loaded asked devices launch is) ∙ start_sent seen devices (sym same))

-- ---- what was answered of storing

pub store_ends : {D : Type 0} (see : List (Option D) → List (Option DeviceSeen)) (result : Result (Finished D) (TopFault D)) (folder folder_after : FolderSeen) (mid : Option (List Entry)) (loaded : Loaded) (asked : Asked) (launch : Launch) (before : List (Option DeviceSeen)) (executed : Executed D) → mid ≡ folder.tree → IsLoaded folder.tree loaded.listed.items loaded.tree → IsLaunch loaded asked (length before) launch → CoreFinishes launch.core launch.budget before executed.end executed.core executed.journal (see executed.devices) → IfOk result (λ f. f.end ≡ end_of executed.end) → MatchResult result (λ f. f.journal ≡ executed.journal) (λ f. f.journal ≡ executed.journal) → MatchResult result (λ f. f.devices ≡ executed.devices) (λ f. f.devices ≡ executed.devices) → OnOk result (FolderAfter launch.keep launch.loaded.listed.items launch.loaded.tree executed.core.shared.files.tree mid folder_after.tree) → IfOk result (λ f. (words : List (List ℕ)) → IsAsked words asked → EndsAs folder folder_after before (see f.devices) words f.end f.journal)
store_ends see (Err fault) folder folder_after mid loaded asked launch before executed same is_loaded is finishes end journal devices stored = tt
store_ends see (Ok f) folder folder_after mid loaded asked launch before executed same is_loaded is finishes end journal devices stored = λ words asks.
    rw (end, journal, devices) (ends_run folder folder_after words loaded asked launch before executed.end executed.core executed.journal (see executed.devices) asks is_loaded is finishes
    (subst (λ (t : Option (List Entry)). FolderAfter launch.keep launch.loaded.listed.items launch.loaded.tree executed.core.shared.files.tree t folder_after.tree) same stored))

pub store_stops : {D : Type 0} (see : List (Option D) → List (Option DeviceSeen)) (result : Result (Finished D) (TopFault D)) (folder folder_after : FolderSeen) (mid : Option (List Entry)) (mid_writes : ℕ) (loaded : Loaded) (asked : Asked) (launch : Launch) (before : List (Option DeviceSeen)) (executed : Executed D) → mid ≡ folder.tree → mid_writes ≡ folder.failed_writes → IsLoaded folder.tree loaded.listed.items loaded.tree → IsLaunch loaded asked (length before) launch → CoreFinishes launch.core launch.budget before executed.end executed.core executed.journal (see executed.devices) → MatchResult result (λ f. f.journal ≡ executed.journal) (λ f. f.journal ≡ executed.journal) → MatchResult result (λ f. f.devices ≡ executed.devices) (λ f. f.devices ≡ executed.devices) → OnErr result (launch.keep ≡ false) → OnErr result (IsPartlyStored launch.loaded.listed.items launch.loaded.tree executed.core.shared.files.tree mid folder_after.tree) → IfErr result (λ f. NotWritten mid_writes folder_after.failed_writes f.cause) → folder_after.failed_reads ≡ folder.failed_reads → IfErr result (λ f. (words : List (List ℕ)) → IsAsked words asked → StopsAs folder folder_after before (see f.devices) words f.cause f.journal)
store_stops see (Ok f) folder folder_after mid mid_writes loaded asked launch before executed same same_writes is_loaded is finishes journal devices keep partly told reads = tt
store_stops see (Err f) folder folder_after mid mid_writes loaded asked launch before executed same same_writes is_loaded is finishes journal devices keep partly told reads = λ words asks.
    rw (journal, devices) (stops_storing folder folder_after words loaded asked launch before executed.end executed.core executed.journal (see executed.devices) f.cause asks is_loaded is finishes keep
    (subst (λ (t : Option (List Entry)). IsPartlyStored launch.loaded.listed.items launch.loaded.tree executed.core.shared.files.tree t folder_after.tree) same partly)
    (subst (λ (n : ℕ). NotWritten n folder_after.failed_writes f.cause) same_writes told) reads)
