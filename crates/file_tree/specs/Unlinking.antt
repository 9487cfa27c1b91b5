-- Taking a name away.
-- Source: unlink(2), rmdir(2).
use Rattle.std.specs.Prelude.{ℕ, ◌==◌, Bool, false, not, if◌then◌else◌, List, length, Option, Some, None, Result, Ok}
use Rattle.file_tree.specs.declared.errno.Errno.{Errno}
use Rattle.file_tree.specs.declared.errno.Errno.TheVariants.{ENOENT, ENOTDIR, EISDIR, EINVAL, ENOTEMPTY, EBUSY}
use Rattle.file_tree.specs.declared.node.Node.{Node}
use Rattle.file_tree.specs.declared.node.Body.{Body}
use Rattle.file_tree.specs.declared.node.Body.TheVariants.{Bytes, Names}
use Rattle.file_tree.specs.Entries.{without_entry}
use Rattle.file_tree.specs.Paths.{is_dot, is_dots}
use Rattle.file_tree.specs.Nodes.{Tree, node_in, changed_node, without_node, holds_by}
use Rattle.file_tree.specs.Walk.{Spot, spot_of, walked, and_then, unless}

-- a directory has one name less
abbrev pub without_name : List ℕ → Body → Body
without_name name (Bytes bytes) = Bytes bytes
without_name name (Names directory) = Names (record { parent = directory.parent; path = directory.path; names = without_entry name directory.names })

abbrev pub node_without : List ℕ → Node → Node
node_without name node = record { holds = node.holds; linked = node.linked; body = without_name name node.body }

abbrev pub unnamed_by : ℕ → List ℕ → Option Node → List (ℕ × Node) → List (ℕ × Node)
unnamed_by at name None nodes = nodes
unnamed_by at name (Some node) nodes = changed_node at (node_without name node) nodes

abbrev pub unnamed : ℕ → List ℕ → List (ℕ × Node) → List (ℕ × Node)
unnamed at name nodes = unnamed_by at name (node_in nodes at) nodes

abbrev pub marked : Node → Node
marked node = record { holds = node.holds; linked = false; body = node.body }

abbrev pub marked_by : ℕ → Option Node → List (ℕ × Node) → List (ℕ × Node)
marked_by inode None nodes = nodes
marked_by inode (Some node) nodes = changed_node inode (marked node) nodes

-- a node that has lost its name lives on while it is held
abbrev pub gone : ℕ → List (ℕ × Node) → List (ℕ × Node)
gone inode nodes = if holds_by (node_in nodes inode) == 0 then without_node inode nodes else marked_by inode (node_in nodes inode) nodes

-- the nodes after a name is taken away
unfoldable pub with_unlinked : ℕ → List ℕ → ℕ → List (ℕ × Node) → List (ℕ × Node)
with_unlinked at name inode nodes = gone inode (unnamed at name nodes)

-- why an entry can't be taken away; `wants` where a directory is asked for
abbrev pub body_refused : Bool → Body → Option Errno
body_refused wants (Bytes bytes) = if wants then Some ENOTDIR else None
body_refused wants (Names directory) = if not wants then Some EISDIR else if length directory.names == 0 then None else Some ENOTEMPTY

abbrev pub entry_refused : Bool → Option Node → Option Errno
entry_refused wants None = Some ENOENT
entry_refused wants (Some node) = body_refused wants node.body

-- why what a path leads to can't be taken away, by its last name
unfoldable pub unlink_refused : Bool → List ℕ → Option Node → Option Errno
unlink_refused wants name node =
    if length name == 0 then Some (if wants then EBUSY else EISDIR)
    else if is_dot name then Some (if wants then EINVAL else EISDIR)
    else if is_dots name then Some (if wants then ENOTEMPTY else EISDIR)
    else entry_refused wants node

abbrev pub unlinked_at : Bool → ℕ → Tree → Spot → Result Tree Errno
unlinked_at wants inode tree spot =
    unless (unlink_refused wants spot.name (node_in tree.nodes inode))
    (Ok (record { nodes = with_unlinked spot.at spot.name inode tree.nodes; next = tree.next }))

-- the tree after an entry is taken away; the whole path is walked first
unfoldable pub unlinked : ℕ → List ℕ → Bool → Tree → Result Tree Errno
unlinked from path wants tree =
    and_then (walked tree from path) (λ inode. and_then (spot_of tree from path) (unlinked_at wants inode tree))
