-- Writing a tree back to the folder that it was loaded from: which calls are made, in which order, and what stands after a
-- fault.
-- Source: unlink(2), rmdir(2), mkdir(2), open(2). The order is the project's own.
use Rattle.std.specs.Prelude.{◌≡◌, ◌≤◌, ◌⊎◌, ℕ, List, [], ◌∷◌, ◌++◌, reverse, Bool, true, false, if◌then◌else◌, Option, Some, None, Result, Ok, Err, OnOk}
use Rattle.std.specs.List.{flat_map}
use Rattle.std.specs.Str.{bytes_eq}
use Rattle.file_tree.specs.Making.{is_own}
use Rattle.file_tree.specs.Nodes.{Tree, kind_in, file_bytes}
use Rattle.file_tree.specs.Walk.{walked}
use Rattle.file_tree.specs.declared.errno.Errno.{Errno}
use Rattle.file_tree.specs.declared.kind.Kind.{Kind as NodeKind}
use Rattle.file_tree.specs.declared.kind.Kind.TheVariants as nodes
use Rattle.image_store.specs.declared.folder.Entry.{Entry}
use Rattle.image_store.specs.declared.folder.Kind.{Kind}
use Rattle.image_store.specs.declared.folder.Kind.TheVariants as kinds
use Rattle.image_store.specs.declared.folder.Listed.{Listed}
use Rattle.image_store.specs.declared.storing.Standing.{Standing}
use Rattle.image_store.specs.declared.storing.Standing.TheVariants.{Nothing, Dir, File}
use Rattle.image_store.specs.declared.storing.StoreFault.{StoreFault}
use Rattle.image_store.specs.declared.storing.StoreFault.TheVariants.{WriteFault}
use Rattle.image_store.specs.AllPaths.{AreAllPaths}
use Rattle.image_store.specs.Changes.{Leaves, LeavesBeginning, dir_at, file_at}
use Rattle.told.specs.Told.{Rose}

-- what stands at a path of a tree

abbrev pub standing_as : ℕ → Option NodeKind → Standing
standing_as inode None = Nothing
standing_as inode (Some nodes.Dir) = Dir
standing_as inode (Some nodes.File) = File inode

abbrev pub standing_by : Tree → Result ℕ Errno → Standing
standing_by tree (Err errno) = Nothing
standing_by tree (Ok inode) = standing_as inode (kind_in tree inode)

abbrev pub standing : Tree → List ℕ → Standing
standing tree path = standing_by tree (walked tree 1 path)

-- one call that changes the folder
pub data Change : Type 0 where
  Remove : List ℕ → Change
  MakeDir : List ℕ → Change
  Write : List ℕ → List ℕ → Change

abbrev pub remove_by : List ℕ → Kind → Standing → List Change
remove_by path kinds.File (File inode) = []
remove_by path kinds.Dir Dir = []
remove_by path kind other = Remove path ∷ []

-- a loaded entry goes where nothing of its kind stands in the tree
abbrev pub removal : Tree → Listed → List Change
removal after entry = if is_own entry.path then [] else remove_by entry.path entry.kind (standing after entry.path)

abbrev pub write_unless : Bool → List ℕ → List ℕ → List Change
write_unless true path bytes = []
write_unless false path bytes = Write path bytes ∷ []

-- a file with these bytes
abbrev pub holds_bytes : Tree → Standing → List ℕ → Bool
holds_bytes tree (File inode) bytes = bytes_eq (file_bytes tree.nodes inode) bytes
holds_bytes tree other bytes = false

abbrev pub make_unless : Standing → List ℕ → List Change
make_unless Dir path = []
make_unless other path = MakeDir path ∷ []

abbrev pub make_by : Tree → Tree → List ℕ → Standing → Standing → List Change
make_by before after path old Nothing = []
make_by before after path old Dir = make_unless old path
make_by before after path old (File inode) = write_unless (holds_bytes before old (file_bytes after.nodes inode)) path (file_bytes after.nodes inode)

-- a directory is made that wasn't one, and a file is written that is new, or has other bytes
abbrev pub making : Tree → Tree → List ℕ → List Change
making before after path = make_by before after path (standing before path) (standing after path)

-- The changes that lead from a tree, and the listing that it was loaded from, to another tree. First what is gone, in the
-- listing's order backwards, so that a directory's entries go before it; then what is new, in rising order of path.
pub record AreChanges (listing : List Listed) (before after : Tree) (changes : List Change) : Type 0 where
  pub paths : List (List ℕ)
  pub all : AreAllPaths after paths
  pub are : changes ≡ flat_map (removal after) (reverse listing) ++ flat_map (making before after) paths

-- what a change leaves of a folder
abbrev pub DoneBy : Change → Option (List Entry) → Option (List Entry) → Type 0
DoneBy (Remove path) old new = Leaves path None old new
DoneBy (MakeDir path) old new = Leaves path (Some (dir_at path)) old new
DoneBy (Write path bytes) old new = Leaves path (Some (file_at path bytes)) old new

-- what is left of a change that failed
abbrev pub LeftBy : Change → Option (List Entry) → Option (List Entry) → Type 0
LeftBy (Remove path) old new = new ≡ old
LeftBy (MakeDir path) old new = new ≡ old
LeftBy (Write path bytes) old new = LeavesBeginning path bytes old new

-- the changes are done one after another
abbrev pub AreDone : List Change → Option (List Entry) → Option (List Entry) → Type 0
AreDone [] old new = new ≡ old
AreDone (change ∷ changes) old new = (next : Option (List Entry)) × DoneBy change old next × AreDone changes next new

-- the changes are done one after another up to one that failed, which is among them, and none after it
abbrev pub AreBegun : List Change → Option (List Entry) → Option (List Entry) → Type 0
AreBegun [] old new = ⊥
AreBegun (change ∷ changes) old new = LeftBy change old new ⊎ ((next : Option (List Entry)) × DoneBy change old next × AreBegun changes next new)

-- all changes are done
abbrev pub IsStored : List Listed → Tree → Tree → Option (List Entry) → Option (List Entry) → Type 0
IsStored listing before after old new = (changes : List Change) × AreChanges listing before after changes × AreDone changes old new

-- nothing is changed, or some changes are done and one failed
abbrev pub IsPartlyStored : List Listed → Tree → Tree → Option (List Entry) → Option (List Entry) → Type 0
IsPartlyStored listing before after old new = (new ≡ old) ⊎ ((changes : List Change) × AreChanges listing before after changes × AreBegun changes old new)

-- a count never falls, a fault comes only where it rose, and it stands still where there is none; want of memory is free
pub record StoresBy (before after : ℕ) (result : Result (Unit {0}) StoreFault) : Type 0 where
  pub later : before ≤ after
  pub failed : result ≡ Err WriteFault → Rose before after
  pub still : OnOk result (after ≡ before)
