-- What a call that changes the tree answers, and what it leaves.
use Rattle.std.specs.Prelude.{◌≡◌, ◌≢◌, ℕ, ◌+◌, ◌-◌, ◌^◌, ◌<◌, min, true, false, List, Some, None, Result, Ok, Err, IsOk}
use Rattle.file_tree.specs.declared.errno.Errno.{Errno}
use Rattle.file_tree.specs.declared.fault.TreeFault.{TreeFault}
use Rattle.file_tree.specs.declared.fault.TreeFault.TheVariants as faults
use Rattle.file_tree.specs.declared.kind.Kind.{Kind}
use Rattle.file_tree.specs.Entries.{entry_named, with_entry, without_entry}
use Rattle.file_tree.specs.Nodes.{Tree, Has, node_in, kind_in, holds_in, linked_in, file_bytes, names_in}
use Rattle.file_tree.specs.Walk.{walked, Spot, spot_of}
use Rattle.file_tree.specs.Making.{slash_refused}
use Rattle.file_tree.specs.Whole.{IsSound}
use Rattle.file_tree.specs.declared.errno.Errno.TheVariants.{ENOENT}

-- the tree that is due, or the errno that is due; after an errno, and after want of memory, the tree is as before
abbrev pub Answers : {A : Type 0} → Result A TreeFault → Result Tree Errno → Tree → Tree → Type 0
Answers (Ok value) due old new = due ≡ Ok new
Answers (Err (faults.Errno errno)) due old new = (due ≡ Err errno) × (new ≡ old)
Answers (Err faults.Memory) due old new = IsOk due × (new ≡ old)

-- the same of a call that takes no memory
abbrev pub AnswersAlways : {A : Type 0} → Result A Errno → Result Tree Errno → Tree → Tree → Type 0
AnswersAlways (Ok value) due old new = due ≡ Ok new
AnswersAlways (Err errno) due old new = (due ≡ Err errno) × (new ≡ old)

-- each inode is there as before, of the same kind
abbrev pub KindsStay : Tree → Tree → Type 0
KindsStay old new = (inode : ℕ) (kind : Kind) → kind_in old inode ≡ Some kind → kind_in new inode ≡ Some kind

-- each inode is held as often as before
abbrev pub HoldsStay : Tree → Tree → Type 0
HoldsStay old new = (inode : ℕ) → holds_in new inode ≡ holds_in old inode

-- each inode that is held is there as before, of the same kind
abbrev pub HeldStay : Tree → Tree → Type 0
HeldStay old new = (inode : ℕ) (kind : Kind) → 0 < holds_in old inode → kind_in old inode ≡ Some kind → kind_in new inode ≡ Some kind

-- all inodes but one are as before
abbrev pub OthersStay : ℕ → Tree → Tree → Type 0
OthersStay inode old new = (other : ℕ) → other ≢ inode → node_in new.nodes other ≡ node_in old.nodes other

-- each walk finds what it found
abbrev pub PathsStay : Tree → Tree → Type 0
PathsStay old new = (from : ℕ) (path : List ℕ) → walked new from path ≡ walked old from path

-- each file has the same bytes
abbrev pub BytesStay : Tree → Tree → Type 0
BytesStay old new = (file : ℕ) → file_bytes new.nodes file ≡ file_bytes old.nodes file

-- each directory has the same names, which lead to the same inodes
abbrev pub NamesStay : Tree → Tree → Type 0
NamesStay old new = (directory : ℕ) → names_in new.nodes directory ≡ names_in old.nodes directory

-- what was made is there, which wasn't before, and nothing else changed: kinds, holds, bytes, and what was found by a path
-- is found by it
pub record IsMade (kind : Kind) (inode : ℕ) (old new : Tree) : Type 0 where
  pub made : kind_in new inode ≡ Some kind
  pub there : Has new inode
  pub fresh : kind_in old inode ≡ None
  pub kinds : KindsStay old new
  pub holds : HoldsStay old new
  pub bytes : BytesStay old new
  pub paths : (from : ℕ) (path : List ℕ) (found : ℕ) → walked old from path ≡ Ok found → walked new from path ≡ Ok found
  pub sound : IsSound new

-- a directory has a name that it hadn't, and nothing else is named otherwise
pub record GainsName (spot : Spot) (inode : ℕ) (old new : Tree) : Type 0 where
  pub free : entry_named spot.name (names_in old.nodes spot.at) ≡ None
  pub here : names_in new.nodes spot.at ≡ with_entry spot.name inode (names_in old.nodes spot.at)
  pub others : (other : ℕ) → other ≢ spot.at → names_in new.nodes other ≡ names_in old.nodes other

-- the last name of a path is put where the path says
pub record IsNamed (from : ℕ) (path : List ℕ) (inode : ℕ) (old new : Tree) : Type 0 where
  pub gains : (spot : Spot) → spot_of old from path ≡ Ok spot → GainsName spot inode old new

-- what was taken away stays with its bytes while it is held, and nothing else changed its kind, holds or bytes; nothing is
-- found that wasn't, and from elsewhere no path leads to what was taken away
pub record IsTaken (inode : ℕ) (old new : Tree) : Type 0 where
  pub kinds : HeldStay old new
  pub others : (other : ℕ) → other ≢ inode → kind_in new other ≡ kind_in old other
  pub holds : HoldsStay old new
  pub bytes : (file : ℕ) → file ≢ inode → file_bytes new.nodes file ≡ file_bytes old.nodes file
  pub kept : 0 < holds_in old inode → file_bytes new.nodes inode ≡ file_bytes old.nodes inode
  pub gone : holds_in old inode ≡ 0 → kind_in new inode ≡ None
  pub unlinked : linked_in new inode ≡ false
  pub paths : (from : ℕ) (path : List ℕ) (found : ℕ) → walked new from path ≡ Ok found → walked old from path ≡ Ok found
  pub lost : (from : ℕ) (path : List ℕ) → walked new from path ≡ Ok inode → from ≡ inode
  pub sound : IsSound new

-- a directory has a name no more, and nothing else is named otherwise
pub record LosesName (spot : Spot) (inode : ℕ) (old new : Tree) : Type 0 where
  pub was : entry_named spot.name (names_in old.nodes spot.at) ≡ Some inode
  pub here : names_in new.nodes spot.at ≡ without_entry spot.name (names_in old.nodes spot.at)
  pub others : (other : ℕ) → other ≢ spot.at → names_in new.nodes other ≡ names_in old.nodes other

-- the last name of a path is taken from where the path says
pub record IsUnnamed (from : ℕ) (path : List ℕ) (inode : ℕ) (old new : Tree) : Type 0 where
  pub loses : (spot : Spot) → spot_of old from path ≡ Ok spot → LosesName spot inode old new

-- a file has other bytes, and nothing else changed
pub record IsFilled (file : ℕ) (old new : Tree) : Type 0 where
  pub others : OthersStay file old new
  pub kinds : KindsStay old new
  pub holds : HoldsStay old new
  pub names : NamesStay old new
  pub paths : PathsStay old new
  pub sound : IsSound new

-- an entry is held once more, and nothing else changed
pub record IsHeld (inode : ℕ) (old new : Tree) : Type 0 where
  pub others : OthersStay inode old new
  pub kinds : KindsStay old new
  pub holds : holds_in new inode ≡ min (holds_in old inode + 1) (2 ^ 64 - 1)
  pub bytes : BytesStay old new
  pub names : NamesStay old new
  pub paths : PathsStay old new
  pub sound : IsSound new

-- an entry is held once less, and nothing else changed; it goes with its last hold where it was unlinked
pub record IsReleased (inode : ℕ) (old new : Tree) : Type 0 where
  pub others : OthersStay inode old new
  pub kinds : (kind : Kind) → 1 < holds_in old inode → kind_in old inode ≡ Some kind → kind_in new inode ≡ Some kind
  pub linked : linked_in old inode ≡ true → kind_in new inode ≡ kind_in old inode
  pub gone : linked_in old inode ≡ false → holds_in old inode ≡ 1 → kind_in new inode ≡ None
  pub holds : holds_in new inode + 1 ≡ holds_in old inode
  pub bytes : Has new inode → file_bytes new.nodes inode ≡ file_bytes old.nodes inode
  pub names : NamesStay old new
  pub paths : (from : ℕ) (path : List ℕ) → from ≢ inode → walked new from path ≡ walked old from path
  pub sound : IsSound new

-- a path to this spot leads to the inode; a file's path ends in no slash
abbrev pub Leads : Kind → Spot → ℕ → Tree → Tree → Type 0
Leads kind spot inode old new = (from : ℕ) (path : List ℕ) → spot_of old from path ≡ Ok spot → slash_refused kind path ≡ false → walked new from path ≡ Ok inode

-- no path to this spot leads anywhere
abbrev pub Loses : Spot → Tree → Tree → Type 0
Loses spot old new = (from : ℕ) (path : List ℕ) → spot_of old from path ≡ Ok spot → walked new from path ≡ Err ENOENT
