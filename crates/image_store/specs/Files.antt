-- A folder, as far as it tells what it holds.
-- The project's own.
use Rattle.std.specs.Prelude.{◌≡◌, ◌⊎◌, ℕ, zero, suc, List, [], ◌∷◌, map, Option, Some, None, Result, Err, OnOk, ◌≤◌, length}
use Rattle.image_store.specs.declared.folder.FolderError.{FolderError}
use Rattle.image_store.specs.declared.folder.FolderError.TheVariants.{Failed}
use Rattle.told.specs.Told.{Rose}
use Rattle.image_store.specs.declared.folder.Kind.TheVariants.{File}
use Rattle.image_store.specs.declared.folder.Entry.{Entry}
use Rattle.image_store.specs.declared.folder.Listed.{Listed}

-- how an entry is listed
abbrev pub listed : Entry → Listed
listed entry = record { path = entry.path; kind = entry.kind; size = length entry.bytes }

-- a file stands at the path
abbrev pub NamesFile : List Listed → List ℕ → Type 0
NamesFile [] path = ⊥
NamesFile (entry ∷ entries) path = ((entry.path ≡ path) × (entry.kind ≡ File)) ⊎ NamesFile entries path

-- the bytes are those of a file at the path
abbrev pub IsFileOf : List Entry → List ℕ → List ℕ → Type 0
IsFileOf [] path bytes = ⊥
IsFileOf (entry ∷ entries) path bytes = ((entry.path ≡ path) × (entry.kind ≡ File) × (entry.bytes ≡ bytes)) ⊎ IsFileOf entries path bytes

-- what a listing gives, where the folder tells
abbrev pub Lists : Option (List Entry) → List Listed → Type 0
Lists None listing = Unit {0}
Lists (Some entries) listing = listing ≡ map listed entries

-- what a file gives, where the folder tells
abbrev pub Reads : Option (List Entry) → List ℕ → List ℕ → Type 0
Reads None path bytes = Unit {0}
Reads (Some entries) path bytes = IsFileOf entries path bytes

-- A count never falls, the call failed only where it rose, and it stands still where the call was made; want of memory is
-- free.
pub record FailsBy {T : Type 0} (before after : ℕ) (result : Result T FolderError) : Type 0 where
  pub later : before ≤ after
  pub failed : result ≡ Err Failed → Rose before after
  pub still : OnOk result (after ≡ before)

-- a file of the path stands at that place
abbrev pub StandsAt : List Entry → List ℕ → ℕ → Type 0
StandsAt [] path place = ⊥
StandsAt (entry ∷ entries) path zero = (entry.path ≡ path) × (entry.kind ≡ File)
StandsAt (entry ∷ entries) path (suc place) = StandsAt entries path place
