-- What is started over a loaded folder, and why nothing was.
-- The project's own.
use Rattle.std.specs.Prelude.{◌≡◌, ◌⊎◌, ℕ, List, Option, Ok, Err}
use Rattle.cli_words.specs.Command.{Asked}
use Rattle.elf_file.specs.declared.fault.ElfFault.{ElfFault}
use Rattle.elf_file.specs.Reading.{Gives, Image, reading}
use Rattle.file_table.specs.Opening.{started as opened_first}
use Rattle.file_tree.specs.Nodes.{Tree, file_bytes}
use Rattle.guest_core.specs.declared.starting.StartFault.{StartFault}
use Rattle.guest_core.specs.Kept.{Keeps}
use Rattle.guest_core.specs.Start.{FitsIn, Refuses, started}
use Rattle.image_store.specs.declared.loading.Loaded.{Loaded}
use Rattle.emu_top.specs.declared.cause.Cause.{Cause}
use Rattle.emu_top.specs.declared.prepare.Launch.{Launch}
use Rattle.emu_top.specs.Causes.{AtChoosing, AtFile, AtStart, IsTold, Lacks}
use Rattle.emu_top.specs.Solo.{IsChosen, launched}

-- what is to be started is what was asked for
pub record IsLaunch (loaded : Loaded) (asked : Asked) (devices : ℕ) (launch : Launch) : Type 0 where
  pub loaded_is : launch.loaded ≡ loaded
  pub program : ℕ
  pub input : Option ℕ
  pub chosen : IsChosen loaded.tree asked program input
  pub image : Image
  pub image_is : reading (file_bytes loaded.tree.nodes program) ≡ Ok image
  pub fits : FitsIn (launched asked image)
  pub core_is : launch.core ≡ started (launched asked image) (opened_first loaded.tree devices input)
  pub keeps : Keeps launch.core
  pub budget_is : launch.budget ≡ asked.budget
  pub keep_is : launch.keep ≡ asked.keep

-- a file that is named is missing
pub record IsMissed (tree : Tree) (asked : Asked) (cause : Cause) : Type 0 where
  pub path : List ℕ
  pub lacks : Lacks tree asked path
  pub told : IsTold (AtChoosing path) cause

-- the program is no file that can be run
pub record IsNoElf (tree : Tree) (asked : Asked) (cause : Cause) : Type 0 where
  pub program : ℕ
  pub input : Option ℕ
  pub chosen : IsChosen tree asked program input
  pub fault : ElfFault
  pub gives : Gives (Err fault) (reading (file_bytes tree.nodes program))
  pub told : IsTold (AtFile fault) cause

-- it can't be started
pub record IsNoStart (tree : Tree) (asked : Asked) (cause : Cause) : Type 0 where
  pub program : ℕ
  pub input : Option ℕ
  pub chosen : IsChosen tree asked program input
  pub image : Image
  pub image_is : reading (file_bytes tree.nodes program) ≡ Ok image
  pub fault : StartFault
  pub refuses : Refuses (launched asked image) fault
  pub told : IsTold (AtStart fault) cause

abbrev pub NotLaunched : Tree → Asked → Cause → Type 0
NotLaunched tree asked cause = IsMissed tree asked cause ⊎ (IsNoElf tree asked cause ⊎ IsNoStart tree asked cause)
