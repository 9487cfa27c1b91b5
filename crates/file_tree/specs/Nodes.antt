-- The tree: its inodes in rising order, each with its node, and the next inode.
-- Source: inode(7); that inodes are never used again is the project's own.
use Rattle.std.specs.Prelude.{ℕ, Bool, true, false, List, [], ◌∷◌, Option, Some, None, IsSome, sum_by, if◌then◌else◌, length}
use Rattle.std.specs.Ordering.{nat_cmp}
use Rattle.std.specs.Map.{lookup, remove_entry, set_value, values_of}
use Rattle.std.specs.BTreeMap.{insert_entry, is_at}
use Rattle.file_tree.specs.declared.node.Node.{Node}
use Rattle.file_tree.specs.declared.node.Body.{Body}
use Rattle.file_tree.specs.declared.node.Body.TheVariants.{Bytes, Names}
use Rattle.file_tree.specs.declared.kind.Kind.{Kind}
use Rattle.file_tree.specs.declared.kind.Kind.TheVariants as kinds
use Rattle.file_tree.specs.Entries.{Entries}

pub record Tree : Type 0 where
  pub nodes : List (ℕ × Node)
  pub next : ℕ

-- what an inode stands for
abbrev pub node_in : List (ℕ × Node) → ℕ → Option Node
node_in nodes inode = lookup (is_at (nat_cmp inode)) nodes

abbrev pub with_node : ℕ → Node → List (ℕ × Node) → List (ℕ × Node)
with_node inode node nodes = insert_entry nat_cmp nodes inode node

abbrev pub changed_node : ℕ → Node → List (ℕ × Node) → List (ℕ × Node)
changed_node inode node nodes = set_value (is_at (nat_cmp inode)) nodes node

abbrev pub without_node : ℕ → List (ℕ × Node) → List (ℕ × Node)
without_node inode nodes = remove_entry (is_at (nat_cmp inode)) nodes

abbrev pub new_directory : ℕ → ℕ → Node
new_directory parent path = record { holds = 0; linked = true; body = Names (record { parent = parent; path = path; names = [] }) }

abbrev pub new_file : Node
new_file = record { holds = 0; linked = true; body = Bytes [] }

-- the root alone
abbrev pub new_tree : Tree
new_tree = record { nodes = (1, new_directory 1 0) ∷ []; next = 2 }

abbrev pub kind_of : Body → Kind
kind_of (Bytes bytes) = kinds.File
kind_of (Names directory) = kinds.Dir

abbrev pub kind_by : Option Node → Option Kind
kind_by None = None
kind_by (Some node) = Some (kind_of node.body)

-- what an inode is, if it is in the tree
unfoldable pub kind_in : Tree → ℕ → Option Kind
kind_in tree inode = kind_by (node_in tree.nodes inode)

-- an inode is in the tree: it is linked, or was unlinked and is held
abbrev pub Has : Tree → ℕ → Type 0
Has tree inode = IsSome (kind_in tree inode)

abbrev pub bytes_of : Body → List ℕ
bytes_of (Bytes bytes) = bytes
bytes_of (Names directory) = []

abbrev pub bytes_by : Option Node → List ℕ
bytes_by None = []
bytes_by (Some node) = bytes_of node.body

-- the bytes of a file
abbrev pub file_bytes : List (ℕ × Node) → ℕ → List ℕ
file_bytes nodes inode = bytes_by (node_in nodes inode)

abbrev pub names_of : Body → Entries
names_of (Bytes bytes) = []
names_of (Names directory) = directory.names

abbrev pub names_by : Option Node → Entries
names_by None = []
names_by (Some node) = names_of node.body

-- the names of a directory
abbrev pub names_in : List (ℕ × Node) → ℕ → Entries
names_in nodes inode = names_by (node_in nodes inode)

abbrev pub path_of : Body → ℕ
path_of (Bytes bytes) = 0
path_of (Names directory) = directory.path

abbrev pub path_by : Option Node → ℕ
path_by None = 0
path_by (Some node) = path_of node.body

abbrev pub linked_by : Option Node → Bool
linked_by None = false
linked_by (Some node) = node.linked

-- whether a name leads to an inode, or it is the root
abbrev pub linked_in : Tree → ℕ → Bool
linked_in tree inode = linked_by (node_in tree.nodes inode)

abbrev pub holds_by : Option Node → ℕ
holds_by None = 0
holds_by (Some node) = node.holds

-- how often an inode is held
unfoldable pub holds_in : Tree → ℕ → ℕ
holds_in tree inode = holds_by (node_in tree.nodes inode)

-- what a node counts in the tree: the bytes of a file that is linked
abbrev pub weight : Node → ℕ
weight node = if node.linked then length (bytes_of node.body) else 0

-- the bytes of all linked files
unfoldable pub tree_bytes : List (ℕ × Node) → ℕ
tree_bytes nodes = sum_by weight (values_of nodes)

abbrev pub one_linked : Node → ℕ
one_linked node = if node.linked then 1 else 0

-- how many entries are linked, with the root
unfoldable pub tree_count : List (ℕ × Node) → ℕ
tree_count nodes = sum_by one_linked (values_of nodes)
