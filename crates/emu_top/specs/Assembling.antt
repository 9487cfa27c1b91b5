-- What is assembled over a loaded folder, and why nothing was.
-- The project's own.
use Rattle.std.specs.Prelude.{◌≡◌, ◌⊎◌, ℕ, List}
use Rattle.cli_words.specs.Command.{Assembly}
use Rattle.file_tree.specs.Nodes.{file_bytes}
use Rattle.image_store.specs.declared.loading.Loaded.{Loaded}
use Rattle.image_store.specs.declared.storing.StoreFault.{StoreFault}
use Rattle.isa_asm.specs.declared.cause.AsmFault.{AsmFault}
use Rattle.isa_asm.specs.File.{IsAssembled, IsFaultOf}
use Rattle.emu_top.specs.declared.cause.Cause.{Cause}
use Rattle.emu_top.specs.Causes.{AtChoosing, AtNaming, AtSource, AtStoring, IsTold, WritesBy}
use Rattle.emu_top.specs.Solo.{HasNoFile, IsFileAt, IsTaken}

-- the bytes are the file of the source
pub record IsMade (loaded : Loaded) (assembly : Assembly) (bytes : List ℕ) : Type 0 where
  pub free : IsTaken loaded.listed.items assembly.out → ⊥
  pub source : ℕ
  pub source_is : IsFileAt loaded.tree assembly.source source
  pub assembled : IsAssembled (file_bytes loaded.tree.nodes source) bytes

-- what is made may not stand at its path
pub record IsBarred (loaded : Loaded) (assembly : Assembly) (cause : Cause) : Type 0 where
  pub taken : IsTaken loaded.listed.items assembly.out
  pub told : IsTold (AtNaming assembly.out) cause

-- the source is missing
pub record IsSourceless (loaded : Loaded) (assembly : Assembly) (cause : Cause) : Type 0 where
  pub free : IsTaken loaded.listed.items assembly.out → ⊥
  pub lacks : HasNoFile loaded.tree assembly.source
  pub told : IsTold (AtChoosing assembly.source) cause

-- it isn't assembled
pub record IsFaulty (loaded : Loaded) (assembly : Assembly) (cause : Cause) : Type 0 where
  pub free : IsTaken loaded.listed.items assembly.out → ⊥
  pub source : ℕ
  pub source_is : IsFileAt loaded.tree assembly.source source
  pub fault : AsmFault
  pub why : IsFaultOf (file_bytes loaded.tree.nodes source) fault
  pub told : IsTold (AtSource fault) cause

abbrev pub NotMade : Loaded → Assembly → Cause → Type 0
NotMade loaded assembly cause = IsBarred loaded assembly cause ⊎ (IsSourceless loaded assembly cause ⊎ IsFaulty loaded assembly cause)

-- why it wasn't written, with the count of failed writes
pub record NotWritten (before after : ℕ) (cause : Cause) : Type 0 where
  pub fault : StoreFault
  pub told : IsTold (AtStoring fault) cause
  pub writes : WritesBy fault before after
