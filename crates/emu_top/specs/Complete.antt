-- When the work must come to an end, but for want of memory.
-- The project's own.
use Rattle.std.specs.Prelude.{◌≡◌, ◌⊎◌, ℕ, List, Option, Some, None, Ok, slice_get}
use Rattle.cli_words.specs.Command.{Asked, Assembly, IsAsked, IsAsmAsked}
use Rattle.dev_board.specs.Seen.{DeviceSeen}
use Rattle.elf_file.specs.Reading.{Image, reading}
use Rattle.file_tree.specs.Nodes.{Tree, file_bytes}
use Rattle.guest_core.specs.Start.{FitsIn}
use Rattle.image_store.specs.declared.folder.Entry.{Entry}
use Rattle.image_store.specs.declared.folder.Listed.{Listed}
use Rattle.image_store.specs.declared.loading.LoadFault.{LoadFault}
use Rattle.image_store.specs.declared.loading.LoadFault.TheVariants as loads
use Rattle.image_store.specs.Loading.{NotLoaded}
use Rattle.isa_asm.specs.File.{fault_of}
use Rattle.isa_asm.specs.Source.{pieces}
use Rattle.emu_top.specs.Outside.{Outside}
use Rattle.emu_top.specs.Solo.{IsChosen, IsFileAt, IsTaken, Load, launched}
use Rattle.told.specs.Told.{Rose}

-- entries of which none is refused: they are few, plain, and small
abbrev pub AreLoadable : List Entry → Type 0
AreLoadable entries =
    ((count : ℕ) → NotLoaded (Some entries) 0 0 (loads.TooMany count) → ⊥)
    × ((path : List ℕ) → NotLoaded (Some entries) 0 0 (loads.Link path) → ⊥)
    × ((path : List ℕ) (size : ℕ) → NotLoaded (Some entries) 0 0 (loads.TooBig path size) → ⊥)

-- what is asked for stands in a tree, and starts
pub record Starts (tree : Tree) (asked : Asked) : Type 0 where
  pub program : ℕ
  pub input : Option ℕ
  pub chosen : IsChosen tree asked program input
  pub image : Image
  pub image_is : reading (file_bytes tree.nodes program) ≡ Ok image
  pub fits : FitsIn (launched asked image)

-- the words ask for a program that starts, however the entries are loaded
pub record CanRun (entries : List Entry) (words : List (List ℕ)) : Type 0 where
  pub asked : Asked
  pub asks : IsAsked words asked
  pub loadable : AreLoadable entries
  pub starts : (load : Load (Some entries)) → Starts load.tree asked

-- the source stands in a tree, and nothing is wrong with it; a file may stand where it is to be made
pub record IsSound (folder : Option (List Entry)) (load : Load folder) (assembly : Assembly) : Type 0 where
  pub free : IsTaken load.listing assembly.out → ⊥
  pub source : ℕ
  pub source_is : IsFileAt load.tree assembly.source source
  pub faultless : fault_of (pieces (file_bytes load.tree.nodes source)) ≡ None

-- the words ask for such an assembly
pub record CanAssemble (entries : List Entry) (words : List (List ℕ)) : Type 0 where
  pub assembly : Assembly
  pub asks : IsAsmAsked words assembly
  pub loadable : AreLoadable entries
  pub sound : (load : Load (Some entries)) → IsSound (Some entries) load assembly

-- the folder tells its entries, and the words ask for what can be done with them
abbrev pub CanEnd : Option (List Entry) → List (List ℕ) → Type 0
CanEnd None words = ⊥
CanEnd (Some entries) words = CanRun entries words ⊎ CanAssemble entries words

-- no count of a fault rose: of the folder, of any device, of the notes
pub record NoneRose (before after : Outside) : Type 0 where
  pub reads : Rose before.folder.failed_reads after.folder.failed_reads → ⊥
  pub writes : Rose before.folder.failed_writes after.folder.failed_writes → ⊥
  pub devices : (device : ℕ) (was is : DeviceSeen) → slice_get before.devices device ≡ Some (Some was) → slice_get after.devices device ≡ Some (Some is) → Rose was.failed_writes is.failed_writes → ⊥
  pub notes : Rose before.notes.failed_writes after.notes.failed_writes → ⊥
