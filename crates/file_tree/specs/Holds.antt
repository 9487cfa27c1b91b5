-- Holding an entry, and letting go of it.
-- Source: unlink(2): a file lives on as long as it is open.
use Rattle.std.specs.Prelude.{ℕ, ◌+◌, ◌-◌, ◌^◌, min, ◌==◌, ◌&&◌, Bool, false, not, if◌then◌else◌, List, Option, Some, None}
use Rattle.file_tree.specs.declared.node.Node.{Node}
use Rattle.file_tree.specs.Nodes.{Tree, node_in, changed_node, without_node}

abbrev pub with_holds : ℕ → Node → Node
with_holds holds node = record { holds = holds; linked = node.linked; body = node.body }

abbrev pub held_by : ℕ → Option Node → List (ℕ × Node) → List (ℕ × Node)
held_by inode None nodes = nodes
held_by inode (Some node) nodes = changed_node inode (with_holds (min (node.holds + 1) (2 ^ 64 - 1)) node) nodes

-- one hold more; their number stands still at 2^64 - 1
unfoldable pub held : ℕ → Tree → Tree
held inode tree = record { nodes = held_by inode (node_in tree.nodes inode) tree.nodes; next = tree.next }

abbrev pub lowered_by : ℕ → Option Node → List (ℕ × Node) → List (ℕ × Node)
lowered_by inode None nodes = nodes
lowered_by inode (Some node) nodes = changed_node inode (with_holds (node.holds - 1) node) nodes

abbrev pub goes_by : Option Node → Bool
goes_by None = false
goes_by (Some node) = (node.holds == 1) && not node.linked

abbrev pub released_by : ℕ → Option Node → List (ℕ × Node) → List (ℕ × Node)
released_by inode node nodes = if goes_by node then without_node inode nodes else lowered_by inode node nodes

-- one hold less; what was unlinked goes with the last hold
unfoldable pub released : ℕ → Tree → Tree
released inode tree = record { nodes = released_by inode (node_in tree.nodes inode) tree.nodes; next = tree.next }
