-- Where what the words ask for can be done and no count rose, only want of memory is left.
use Rattle.std.proofs.Common.{◌≡◌, ◌≢◌, ◌⊎◌, inl, inr, ℕ, zero, suc, ◌≤◌, ◌<◌, List, [], ◌∷◌, length, Option, Some, None, Ok, Err, Result, set, slice_get, refl, ap, sym, subst, ◌∙◌, arith}
use Rattle.cli_words.specs.Command.{Asked, Assembly, IsAsked, IsAsmAsked, asked_by}
use Rattle.cli_words.specs.FirstWrong.{IsAccepted}
use Rattle.cli_words.proofs.FrontFacts.{never_both, same_assembly, same_command}
use Rattle.cli_words.proofs.WrongFacts.{not_accepted}
use Rattle.dev_board.specs.Seen.{DeviceSeen}
use Rattle.elf_file.specs.declared.fault.ElfFault.{ElfFault}
use Rattle.elf_file.specs.declared.fault.ElfFault.TheVariants as files
use Rattle.elf_file.specs.Reading.{Gives, Image, reading}
use Rattle.file_table.specs.declared.state.Device.{Device}
use Rattle.file_tree.specs.Nodes.{Tree, file_bytes}
use Rattle.guest_core.specs.declared.starting.StartFault.TheVariants as starts
use Rattle.guest_core.specs.Start.{FitsIn, wanted_pages}
use Rattle.guest_pages.specs.Limits.{most_pages, most_stack_bytes}
use Rattle.image_store.specs.declared.folder.Entry.{Entry}
use Rattle.image_store.specs.declared.loading.LoadFault.TheVariants as loads
use Rattle.image_store.specs.declared.storing.StoreFault.TheVariants as stores
use Rattle.image_store.specs.Loading.{NotLoaded}
use Rattle.isa_asm.specs.declared.cause.AsmFault.{AsmFault}
use Rattle.isa_asm.specs.declared.cause.AsmCause.{AsmCause}
use Rattle.isa_asm.specs.declared.cause.AsmCause.TheVariants as asm
use Rattle.isa_asm.specs.File.{IsFaultOf, fault_of, no_memory}
use Rattle.isa_asm.specs.Source.{pieces}
use Rattle.start_stack.specs.Placing.{stack_size}
use Rattle.emu_top.specs.declared.cause.Cause.{Cause}
use Rattle.emu_top.specs.declared.cause.Cause.TheVariants as causes
use Rattle.emu_top.specs.declared.cause.Part.TheVariants as parts
use Rattle.emu_run.specs.declared.solo.Halt.TheVariants as halts
use Rattle.emu_top.specs.Causes.{AtChoosing, AtEvents, AtFile, AtLoading, AtNaming, AtSource, AtStart, AtStoring, AtWords, Asks, CannotTake, Faults, FaultsAt, IsFound, Lacks, LacksForRun, LacksSource, Step, Stops, file_step, row_of, source_step, source_step_by}
use Rattle.emu_top.specs.Complete.{AreLoadable, CanAssemble, CanEnd, CanRun, NoneRose, Starts}
use Rattle.emu_run.specs.Journal.{History}
use Rattle.emu_top.specs.Outside.{FolderSeen, NotesSeen, Outside, outside}
use Rattle.emu_run.specs.Sending.{sent}
use Rattle.emu_top.specs.Solo.{HasNoFile, IsChosen, IsFileAt, IsInput, IsReady, Load, args_of, launched}

-- ---- the words ask for one thing

same_asked : (words : List (List ℕ)) (one other : Asked) → IsAsked words one → IsAsked words other → one ≡ other
same_asked words one other first second =
    first.2 ∙ ap asked_by (same_command words first.0 second.0 first.1 second.1) ∙ sym second.2

accepted : (entries : List Entry) (words : List (List ℕ)) → CanRun entries words ⊎ CanAssemble entries words → IsAccepted words
accepted entries words (inl can) = inl (can.asks.0, can.asks.1)
accepted entries words (inr can) = inr (can.assembly, can.asks)

loadable : (entries : List Entry) (words : List (List ℕ)) → CanRun entries words ⊎ CanAssemble entries words → AreLoadable entries
loadable entries words (inl can) = can.loadable
loadable entries words (inr can) = can.loadable

-- a run that is asked for starts over each loaded tree
starts_so : (entries : List Entry) (words : List (List ℕ)) (asked : Asked) (load : Load (Some entries)) → CanRun entries words ⊎ CanAssemble entries words → IsAsked words asked → Starts load.tree asked
starts_so entries words asked load (inl can) asks = subst (λ (a : Asked). Starts load.tree a) (same_asked words can.asked asked can.asks asks) (can.starts load)
starts_so entries words asked load (inr can) asks = absurd (never_both words asks.0 can.assembly asks.1 can.asks)

-- ---- what stands at a path is one thing

ok_is : {A E : Type 0} (one other : A) → (let first : Result A E = Ok one in let second : Result A E = Ok other in first ≡ second) → one ≡ other
ok_is one other same = cc

one_file : (tree : Tree) (path : List ℕ) (one other : ℕ) → IsFileAt tree path one → IsFileAt tree path other → one ≡ other
one_file tree path one other first second = ok_is one other (sym first.0 ∙ second.0)

-- ---- a run

lacks_none : (tree : Tree) (asked : Asked) (path : List ℕ) → Starts tree asked → Lacks tree asked path → ⊥
lacks_none tree asked path can (none, inl same) = none can.program (rw same can.chosen.program_is)
lacks_none tree asked path can (none, inr later) = input_there tree asked.input path can.input can.chosen.input_is later.1 none where
  input_there : (tree : Tree) (name : Option (List ℕ)) (path : List ℕ) (input : Option ℕ) → IsInput tree name input → name ≡ Some path → HasNoFile tree path → ⊥
  input_there tree None path input is same none = cc
  input_there tree (Some name) path input is same none = none is.0 (subst (λ (p : List ℕ). IsFileAt tree p is.0) (let it : name ≡ path = cc in it) is.2)

-- the bytes of the program are those that start
found_bytes : (entries : List Entry) (words : List (List ℕ)) (asked : Asked) (bytes : List ℕ) → CanRun entries words ⊎ CanAssemble entries words → IsFound (Some entries) words asked bytes → (image : Image) × (reading bytes ≡ Ok image) × FitsIn (launched asked image)
found_bytes entries words asked bytes can found =
    let starts = starts_so entries words asked found.load can found.asks in
    let same = one_file found.load.tree asked.program starts.program found.program starts.chosen.program_is found.chosen.program_is in
    (starts.image, rw (found.bytes_are, sym same) starts.image_is, starts.fits)

fits_so : (asked : Asked) (bytes : List ℕ) (image : Image) → ((other : Image) × (reading bytes ≡ Ok other) × FitsIn (launched asked other)) → reading bytes ≡ Ok image → FitsIn (launched asked image)
fits_so asked bytes image can is = subst (λ (i : Image). FitsIn (launched asked i)) (ok_is can.0 image (sym can.1 ∙ is)) can.2

-- a file that is read has no fault but want of memory
want_only : (fault : ElfFault) (image : Image) (read : Result Image ElfFault) → read ≡ Ok image → Gives (Err fault) read → fault ≡ files.Memory
want_only files.Short image read is gives = absurd (let none : ⊥ = cc in none)
want_only files.NotElf image read is gives = absurd (let none : ⊥ = cc in none)
want_only files.NotRiscv image read is gives = absurd (let none : ⊥ = cc in none)
want_only files.Kind image read is gives = absurd (let none : ⊥ = cc in none)
want_only files.FloatAbi image read is gives = absurd (let none : ⊥ = cc in none)
want_only files.Embedded image read is gives = absurd (let none : ⊥ = cc in none)
want_only (files.HeaderSize size) image read is gives = absurd (let none : ⊥ = cc in none)
want_only files.Interpreter image read is gives = absurd (let none : ⊥ = cc in none)
want_only (files.BadSegment index) image read is gives = absurd (let none : ⊥ = cc in none)
want_only (files.WritableCode index) image read is gives = absurd (let none : ⊥ = cc in none)
want_only (files.Overlap first second) image read is gives = absurd (let none : ⊥ = cc in none)
want_only files.Entry image read is gives = absurd (let none : ⊥ = cc in none)
want_only files.Memory image read is gives = refl

no_step : (step : Option Step) (some : Step) → step ≡ None → step ≡ Some some → ⊥
no_step step some none is = cc

some_is : (one other : Step) → Some one ≡ Some other → one ≡ other
some_is one other same = cc

-- the fault of the file is want of memory, which has no row
file_none : (fault : ElfFault) (step : Step) → fault ≡ files.Memory → file_step fault ≡ Some step → ⊥
file_none fault step want is = no_step (file_step fault) step (ap file_step want) is

file_step_is : (fault : ElfFault) (step : Step) → file_step fault ≡ Some step → AtFile fault ≡ step
file_step_is files.Short step is = some_is (AtFile files.Short) step is
file_step_is files.NotElf step is = some_is (AtFile files.NotElf) step is
file_step_is files.NotRiscv step is = some_is (AtFile files.NotRiscv) step is
file_step_is files.Kind step is = some_is (AtFile files.Kind) step is
file_step_is files.FloatAbi step is = some_is (AtFile files.FloatAbi) step is
file_step_is files.Embedded step is = some_is (AtFile files.Embedded) step is
file_step_is (files.HeaderSize size) step is = some_is (AtFile (files.HeaderSize size)) step is
file_step_is files.Interpreter step is = some_is (AtFile files.Interpreter) step is
file_step_is (files.BadSegment index) step is = some_is (AtFile (files.BadSegment index)) step is
file_step_is (files.WritableCode index) step is = some_is (AtFile (files.WritableCode index)) step is
file_step_is (files.Overlap first second) step is = some_is (AtFile (files.Overlap first second)) step is
file_step_is files.Entry step is = some_is (AtFile files.Entry) step is
file_step_is files.Memory step is = absurd (no_step None step refl is)

-- ---- an assembly

out_free : (entries : List Entry) (words : List (List ℕ)) (path : List ℕ) → CanRun entries words ⊎ CanAssemble entries words → CannotTake (Some entries) words path → ⊥
out_free entries words path (inl can) cannot = never_both words can.asks.0 cannot.assembly can.asks.1 cannot.asks
out_free entries words path (inr can) cannot =
    let same = same_assembly words can.assembly cannot.assembly can.asks cannot.asks in
    (can.sound cannot.load).free (rw (same, sym cannot.out) cannot.taken)

source_there : (entries : List Entry) (words : List (List ℕ)) (path : List ℕ) → CanRun entries words ⊎ CanAssemble entries words → LacksSource (Some entries) words path → ⊥
source_there entries words path (inl can) lacks = never_both words can.asks.0 lacks.assembly can.asks.1 lacks.asks
source_there entries words path (inr can) lacks =
    let same = same_assembly words can.assembly lacks.assembly can.asks lacks.asks in
    let sound = can.sound lacks.load in
    lacks.lacks sound.source (rw (lacks.source, sym same) sound.source_is)

faultless : (entries : List Entry) (words : List (List ℕ)) (ready : IsReady (Some entries) words) → CanRun entries words ⊎ CanAssemble entries words → fault_of (pieces (file_bytes ready.load.tree.nodes ready.source)) ≡ None
faultless entries words ready (inl can) = absurd (never_both words can.asks.0 ready.assembly can.asks.1 ready.asks)
faultless entries words ready (inr can) =
    let same = same_assembly words can.assembly ready.assembly can.asks ready.asks in
    let sound = can.sound ready.load in
    let file = one_file ready.load.tree ready.assembly.source sound.source ready.source (rw (sym same) sound.source_is) ready.source_is in
    rw (sym file) sound.faultless

-- a fault that has a row isn't want of memory
source_none : (fault : AsmFault) (step : Step) → source_step fault ≡ Some step → fault ≢ no_memory
source_none fault step is want = no_step (source_step fault) step (ap source_step want) is

source_by : (fault : AsmFault) (cause : AsmCause) (step : Step) → source_step_by fault cause ≡ Some step → AtSource fault ≡ step
source_by fault asm.Word step is = some_is (AtSource fault) step is
source_by fault asm.Operand step is = some_is (AtSource fault) step is
source_by fault asm.Range step is = some_is (AtSource fault) step is
source_by fault asm.Label step is = some_is (AtSource fault) step is
source_by fault asm.Twice step is = some_is (AtSource fault) step is
source_by fault asm.TooBig step is = some_is (AtSource fault) step is
source_by fault asm.NoText step is = some_is (AtSource fault) step is
source_by fault asm.Memory step is = absurd (no_step None step refl is)

some_fault : (one : AsmFault) (other : Option AsmFault) → other ≡ None → other ≡ Some one → ⊥
some_fault one other none is = cc

-- ---- a device

sent_length : (before : List (Option DeviceSeen)) (devices : List Device) → length (sent before devices) ≡ length before
sent_length [] devices = refl
sent_length (seen ∷ rest) [] = refl
sent_length (seen ∷ rest) (device ∷ devices) = ap suc (sent_length rest devices)

got_within : (seen : List (Option DeviceSeen)) (place : ℕ) (one : Option DeviceSeen) → slice_get seen place ≡ Some one → place < length seen
got_within [] place one is = absurd (let none : ⊥ = cc in none)
got_within (first ∷ rest) zero one is = omega arith
got_within (first ∷ rest) (suc place) one is = let more = got_within rest place one is in omega (arith, more)

set_got : (seen : List (Option DeviceSeen)) (place : ℕ) (one : Option DeviceSeen) → place < length seen → slice_get (set seen place one) place ≡ Some one
set_got [] place one within = absurd (omega (arith, within))
set_got (first ∷ rest) zero one within = refl
set_got (first ∷ rest) (suc place) one within = set_got rest place one (omega (arith, within))

device_still : (before after : Outside) (words : List (List ℕ)) (device : ℕ) (journal : History) → NoneRose before after → Stops before after words (AtEvents (halts.Device device)) journal → ⊥
device_still before after words device journal none stops =
    let up_to = stops.left.sent_up_to in
    let devices = stops.last.shared.files.devices in
    let within : device < length (sent before.devices devices) = rw (sent_length before.devices devices) (got_within before.devices device (Some up_to.was) up_to.there) in
    none.devices device up_to.was up_to.is up_to.there
    (ap (λ (s : List (Option DeviceSeen)). slice_get s device) up_to.all ∙ set_got (sent before.devices devices) device (Some up_to.is) within) up_to.rose

-- ---- all causes

stops_as : (before after : Outside) (words : List (List ℕ)) (step other : Step) (journal : History) → Some other ≡ Some step → Stops before after words step journal → Stops before after words other journal
stops_as before after words step other journal same stops = subst (λ (s : Step). Stops before after words s journal) (sym (some_is other step same)) stops

at_step : (folder : FolderSeen) (devices : List (Option DeviceSeen)) (notes : NotesSeen) (after : Outside) (words : List (List ℕ)) (entries : List Entry) (cause : Cause) (journal : History) (step : Step) → folder.tree ≡ Some entries → CanRun entries words ⊎ CanAssemble entries words → NoneRose (outside folder devices notes) after → (row_of cause).step ≡ Some step → Stops (outside folder devices notes) after words step journal → cause ≡ causes.Memory
at_step folder devices notes after words entries (causes.Usage word) journal step tells can none is stops =
    absurd (not_accepted IsAccepted words word (stops_as (outside folder devices notes) after words step _ journal is stops).why (accepted entries words can))
at_step folder devices notes after words entries (causes.TooMany count) journal step tells can none is stops =
    absurd ((loadable entries words can).0 count (subst (λ t. NotLoaded t 0 0 (loads.TooMany count)) tells (stops_as (outside folder devices notes) after words step _ journal is stops).why.1))
at_step folder devices notes after words entries (causes.Link path) journal step tells can none is stops =
    absurd ((loadable entries words can).1 path (subst (λ t. NotLoaded t 0 0 (loads.Link path)) tells (stops_as (outside folder devices notes) after words step _ journal is stops).why.1))
at_step folder devices notes after words entries (causes.TooBig path size) journal step tells can none is stops =
    absurd ((loadable entries words can).2 path size (subst (λ t. NotLoaded t 0 0 (loads.TooBig path size)) tells (stops_as (outside folder devices notes) after words step _ journal is stops).why.1))
at_step folder devices notes after words entries (causes.NotAFile path) journal step tells can none is stops =
    absurd (out_free entries words path can (subst (λ t. CannotTake t words path) tells (stops_as (outside folder devices notes) after words step _ journal is stops).why))
at_step folder devices notes after words entries (causes.NoProgram path) journal step tells can none is stops =
    absurd (file_there entries words path can (subst (λ t. LacksForRun t words path ⊎ LacksSource t words path) tells (stops_as (outside folder devices notes) after words step _ journal is stops).why)) where
      file_there : (entries : List Entry) (words : List (List ℕ)) (path : List ℕ) → CanRun entries words ⊎ CanAssemble entries words → LacksForRun (Some entries) words path ⊎ LacksSource (Some entries) words path → ⊥
      file_there entries words path can (inl lacks) = lacks_none lacks.load.tree lacks.asked path (starts_so entries words lacks.asked lacks.load can lacks.asks) lacks.lacks
      file_there entries words path can (inr lacks) = source_there entries words path can lacks
at_step folder devices notes after words entries (causes.Elf fault) journal step tells can none is stops =
    let why = (subst (λ (s : Step). Stops (outside folder devices notes) after words s journal) (sym (file_step_is fault step is)) stops).why in
    let bytes = found_bytes entries words why.0 why.1 can (subst (λ t. IsFound t words why.0 why.1) tells why.2) in
    absurd (file_none fault step (want_only fault bytes.0 (reading why.1) bytes.1 why.3) is)
at_step folder devices notes after words entries (causes.Asm fault) journal step tells can none is stops =
    let why = (subst (λ (s : Step). Stops (outside folder devices notes) after words s journal) (sym (source_by fault fault.cause step is)) stops).why in
    absurd (source_faultless entries words folder.tree fault step is tells can why) where
      source_faultless : (entries : List Entry) (words : List (List ℕ)) (tree : Option (List Entry)) (fault : AsmFault) (step : Step) → source_step fault ≡ Some step → tree ≡ Some entries → CanRun entries words ⊎ CanAssemble entries words → ((ready : IsReady tree words) × IsFaultOf (file_bytes ready.load.tree.nodes ready.source) fault) → ⊥
      source_faultless entries words tree fault step is tells can why =
          let it = subst (λ (t : Option (List Entry)). (ready : IsReady t words) × IsFaultOf (file_bytes ready.load.tree.nodes ready.source) fault) tells why in
          some_fault fault (fault_of (pieces (file_bytes it.0.load.tree.nodes it.0.source))) (faultless entries words it.0 can) (it.1 (source_none fault step is))
at_step folder devices notes after words entries (causes.StackTooLong size) journal step tells can none is stops =
    let why = (stops_as (outside folder devices notes) after words step _ journal is stops).why in
    let bytes = found_bytes entries words why.0 why.1 can (subst (λ t. IsFound t words why.0 why.1) tells why.3) in
    let fit = fits_so why.0 why.1 why.2 bytes why.4 in
    let few : stack_size (args_of why.0) why.0.env ≤ most_stack_bytes = fit.stack in
    let more : most_stack_bytes < stack_size (args_of why.0) why.0.env = why.5.1 in
    absurd (omega (arith, few, more))
at_step folder devices notes after words entries (causes.PagesFull wanted) journal step tells can none is stops =
    let why = (stops_as (outside folder devices notes) after words step _ journal is stops).why in
    let bytes = found_bytes entries words why.0 why.1 can (subst (λ t. IsFound t words why.0 why.1) tells why.3) in
    let fit = fits_so why.0 why.1 why.2 bytes why.4 in
    let few : wanted_pages why.2 ≤ most_pages = fit.pages in
    let more : most_pages < wanted_pages why.2 = why.5.1 in
    absurd (omega (arith, few, more))
at_step folder devices notes after words entries (causes.ReadFault parts.Folder) journal step tells can none is stops =
    absurd (none.reads (stops_as (outside folder devices notes) after words step _ journal is stops).why.1)
at_step folder devices notes after words entries (causes.ReadFault (parts.Device device)) journal step tells can none is stops = absurd (no_step None step refl is)
at_step folder devices notes after words entries (causes.ReadFault parts.Notes) journal step tells can none is stops = absurd (no_step None step refl is)
at_step folder devices notes after words entries (causes.WriteFault parts.Folder) journal step tells can none is stops =
    absurd (none.writes (stops_as (outside folder devices notes) after words step _ journal is stops).writes)
at_step folder devices notes after words entries (causes.WriteFault (parts.Device device)) journal step tells can none is stops =
    absurd (device_still (outside folder devices notes) after words device journal none (stops_as (outside folder devices notes) after words step _ journal is stops))
at_step folder devices notes after words entries (causes.WriteFault parts.Notes) journal step tells can none is stops = absurd (no_step None step refl is)
at_step folder devices notes after words entries causes.Memory journal step tells can none is stops = refl

only_memory : (folder : FolderSeen) (devices : List (Option DeviceSeen)) (notes : NotesSeen) (after : Outside) (words : List (List ℕ)) (entries : List Entry) (cause : Cause) (journal : History) → folder.tree ≡ Some entries → CanRun entries words ⊎ CanAssemble entries words → NoneRose (outside folder devices notes) after → Faults (outside folder devices notes) after words cause journal → cause ≡ causes.Memory
only_memory folder devices notes after words entries cause journal tells can none (inl at) = told_memory at.told where
  told_memory : ((row_of cause).step ≡ Some at.step) ⊎ (cause ≡ causes.Memory) → cause ≡ causes.Memory
  told_memory (inl is) = at_step folder devices notes after words entries cause journal at.step tells can none is at.stops
  told_memory (inr want) = want
only_memory folder devices notes after words entries cause journal tells can none (inr behind) = elim behind.untold [
  | inl failed ↦ absurd (none.notes failed.1.2.rose)
  | inr want ↦ want.0
]

complete_by : (tree : Option (List Entry)) (folder : FolderSeen) (devices : List (Option DeviceSeen)) (notes : NotesSeen) (after : Outside) (words : List (List ℕ)) (cause : Cause) (journal : History) → folder.tree ≡ tree → CanEnd tree words → NoneRose (outside folder devices notes) after → Faults (outside folder devices notes) after words cause journal → cause ≡ causes.Memory
complete_by None folder devices notes after words cause journal tells can none faults = absurd can
complete_by (Some entries) folder devices notes after words cause journal tells can none faults = only_memory folder devices notes after words entries cause journal tells can none faults

pub complete : (folder : FolderSeen) (devices : List (Option DeviceSeen)) (notes : NotesSeen) (after : Outside) (words : List (List ℕ)) (cause : Cause) (journal : History) → Faults (outside folder devices notes) after words cause journal → CanEnd folder.tree words → NoneRose (outside folder devices notes) after → cause ≡ causes.Memory
complete folder devices notes after words cause journal faults can none = complete_by folder.tree folder devices notes after words cause journal refl can none faults
