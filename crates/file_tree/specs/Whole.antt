-- What every tree keeps. The linked entries are one tree whose root is inode 1; what was unlinked is held, and empty.
-- The limits, and that an entry's inode is above its directory's, are the project's own.
use Rattle.std.specs.Prelude.{◌≡◌, ◌≢◌, ℕ, ◌<◌, ◌≤◌, Bool, true, false, ◌==◌, List, [], length, Option, Some, None, IsSome}
use Rattle.std.specs.List.{list_any}
use Rattle.std.specs.Str.{is_utf8}
use Rattle.std.specs.Ordering.{nat_cmp}
use Rattle.std.specs.List.Sorted.{IsStrictlySortedBy}
use Rattle.std.specs.Map.{keys_of}
use Rattle.file_tree.specs.declared.node.Node.{Node}
use Rattle.file_tree.specs.declared.node.Directory.{Directory}
use Rattle.file_tree.specs.declared.node.Body.{Body}
use Rattle.file_tree.specs.declared.node.Body.TheVariants.{Bytes, Names}
use Rattle.file_tree.specs.Entries.{Entries, entry_named, AreRising}
use Rattle.file_tree.specs.Paths.{is_dots}
use Rattle.file_tree.specs.Making.{is_own, is_itself, path_below}
use Rattle.file_tree.specs.declared.kind.Kind.TheVariants as kinds
use Rattle.file_tree.specs.Nodes.{Tree, node_in, kind_in, linked_in, names_of, names_in, file_bytes, tree_bytes, tree_count}

-- what a linked inode is
pub data Place : Type 0 where
  File : Place
  Dir : Directory → Place

abbrev pub place_of : Body → Place
place_of (Bytes bytes) = File
place_of (Names directory) = Dir directory

abbrev pub linked_place : Bool → Body → Option Place
linked_place false body = None
linked_place true body = Some (place_of body)

abbrev pub place_by : Option Node → Option Place
place_by None = None
place_by (Some node) = linked_place node.linked node.body

-- the linked entries
abbrev pub places : List (ℕ × Node) → ℕ → Option Place
places nodes inode = place_by (node_in nodes inode)

abbrev pub entries_in : Option Place → Entries
entries_in None = []
entries_in (Some File) = []
entries_in (Some (Dir directory)) = directory.names

abbrev pub path_in : Option Place → ℕ
path_in None = 0
path_in (Some File) = 0
path_in (Some (Dir directory)) = directory.path

-- the inode that a name of a directory leads to
abbrev pub child : (ℕ → Option Place) → ℕ → List ℕ → Option ℕ
child tree at name = entry_named name (entries_in (tree at))

-- a name that an entry may have
pub record IsName (at : ℕ) (name : List ℕ) : Type 0 where
  pub utf8 : is_utf8 name ≡ true
  pub short : length name ≤ 255
  pub plain : list_any (λ byte. byte == 47) name ≡ false
  pub other : is_itself name ≡ false
  pub not_dots : is_dots name ≡ false
  pub free : at ≡ 1 → is_own name ≡ false

-- an entry stands under this name in this directory
pub record IsPlaced (tree : ℕ → Option Place) (at : ℕ) (name : List ℕ) (inode : ℕ) : Type 0 where
  pub named : IsName at name
  pub rises : at < inode
  pub short : path_below (path_in (tree at)) name ≤ 4095
  pub linked : IsSome (tree inode)
  pub below : (directory : Directory) → tree inode ≡ Some (Dir directory) → (directory.parent ≡ at) × (directory.path ≡ path_below (path_in (tree at)) name)

pub record IsRoot (place : Option Place) : Type 0 where
  pub directory : Directory
  pub is : place ≡ Some (Dir directory)
  pub parent : directory.parent ≡ 1
  pub path : directory.path ≡ 0

-- an entry has a name
pub record HasHome (tree : ℕ → Option Place) (inode : ℕ) : Type 0 where
  pub at : ℕ
  pub name : List ℕ
  pub is : child tree at name ≡ Some inode

-- the linked entries are one tree: each but the root has one name in one directory, whose inode is lower
pub record IsTree (tree : ℕ → Option Place) : Type 0 where
  pub root : IsRoot (tree 1)
  pub rising : (at : ℕ) → AreRising (entries_in (tree at))
  pub placed : (at : ℕ) (name : List ℕ) (inode : ℕ) → child tree at name ≡ Some inode → IsPlaced tree at name inode
  pub once : (at other : ℕ) (name second : List ℕ) (inode : ℕ) → child tree at name ≡ Some inode → child tree other second ≡ Some inode → (at ≡ other) × (name ≡ second)
  pub homed : (inode : ℕ) → inode ≢ 1 → IsSome (tree inode) → HasHome tree inode

-- what was unlinked
pub record IsKept (node : Node) : Type 0 where
  pub held : 0 < node.holds
  pub empty : names_of node.body ≡ []

pub record IsWhole (nodes : List (ℕ × Node)) (next count bytes : ℕ) : Type 0 where
  pub sorted : IsStrictlySortedBy nat_cmp (keys_of nodes)
  -- inodes are never used again
  pub unused : (inode : ℕ) → next ≤ inode → node_in nodes inode ≡ None
  pub tree : IsTree (places nodes)
  pub kept : (inode : ℕ) (node : Node) → node_in nodes inode ≡ Some node → node.linked ≡ false → IsKept node
  pub small : (inode : ℕ) → length (file_bytes nodes inode) ≤ 16777216
  pub counted : count ≡ tree_count nodes
  pub few : count ≤ 4097
  pub summed : bytes ≡ tree_bytes nodes
  pub within : bytes ≤ 268435456

-- a name leads to an inode
pub record IsLed (tree : Tree) (directory : ℕ) (name : List ℕ) (inode : ℕ) : Type 0 where
  pub named : IsName directory name
  pub from : linked_in tree directory ≡ true
  pub to : linked_in tree inode ≡ true

-- what callers know of every tree
pub record IsSound (tree : Tree) : Type 0 where
  pub root : kind_in tree 1 ≡ Some kinds.Dir
  pub linked : IsTree (places tree.nodes)
  -- the names of a directory rise by their bytes, so that each stands there once
  pub rising : (directory : ℕ) → AreRising (names_in tree.nodes directory)
  pub leads : (directory : ℕ) (name : List ℕ) (inode : ℕ) → entry_named name (names_in tree.nodes directory) ≡ Some inode → IsLed tree directory name inode
  pub kept : (inode : ℕ) (node : Node) → node_in tree.nodes inode ≡ Some node → node.linked ≡ false → IsKept node
  pub unused : (inode : ℕ) → tree.next ≤ inode → kind_in tree inode ≡ None
  pub sorted : IsStrictlySortedBy nat_cmp (keys_of tree.nodes)
  pub small : (file : ℕ) → length (file_bytes tree.nodes file) ≤ 16777216
  pub few : tree_count tree.nodes ≤ 4097
  pub within : tree_bytes tree.nodes ≤ 268435456
