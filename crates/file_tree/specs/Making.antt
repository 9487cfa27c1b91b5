-- Making an entry.
-- Source: open(2), mkdir(2). The limits, and that no name of the root begins with `rv-`, are the project's own.
use Rattle.std.specs.Prelude.{ℕ, ◌+◌, nat_lt, ◌==◌, Bool, false, not, ◌&&◌, ◌||◌, if◌then◌else◌, List, [], ◌∷◌, length, Option, Some, None, is_some, Result, Ok}
use Rattle.std.specs.Str.{is_utf8}
use Rattle.file_tree.specs.declared.errno.Errno.{Errno}
use Rattle.file_tree.specs.declared.errno.Errno.TheVariants.{ENOENT, ENOTDIR, ENAMETOOLONG, EEXIST, EINVAL, EACCES, EISDIR, ENOSPC}
use Rattle.file_tree.specs.declared.node.Node.{Node}
use Rattle.file_tree.specs.declared.node.Directory.{Directory}
use Rattle.file_tree.specs.declared.node.Body.{Body}
use Rattle.file_tree.specs.declared.node.Body.TheVariants.{Bytes, Names}
use Rattle.file_tree.specs.declared.kind.Kind.{Kind}
use Rattle.file_tree.specs.declared.kind.Kind.TheVariants.{File, Dir}
use Rattle.file_tree.specs.Entries.{entry_named, with_entry}
use Rattle.file_tree.specs.Paths.{is_dot, is_dots, ends_in_slash}
use Rattle.file_tree.specs.Nodes.{Tree, node_in, with_node, changed_node, new_file, new_directory, path_by, tree_count}
use Rattle.file_tree.specs.Walk.{Spot, spot_of, and_then, unless}

-- the name begins with `rv-`
abbrev pub is_own : List ℕ → Bool
is_own [] = false
is_own (a ∷ []) = false
is_own (a ∷ b ∷ []) = false
is_own (a ∷ b ∷ c ∷ rest) = (a == 114) && ((b == 118) && (c == 45))

-- the directory itself: no name, or `.`
abbrev pub is_itself : List ℕ → Bool
is_itself name = (length name == 0) || is_dot name

-- how many bytes the path from the root of a new entry has; the root's own has none, and none begins with a slash
abbrev pub path_below : ℕ → List ℕ → ℕ
path_below path name = if path == 0 then length name else path + 1 + length name

-- why a name can't be made in a directory, the first reason in this order
abbrev pub name_refused : ℕ → Bool → Directory → List ℕ → Bool → ℕ → Option Errno
name_refused at linked directory name ends count =
    if is_itself name then Some EEXIST
    else if not linked then Some ENOENT
    else if is_dots name then Some EEXIST
    else if not (is_utf8 name) then Some EINVAL
    else if (at == 1) && is_own name then Some EACCES
    else if is_some (entry_named name directory.names) then Some EEXIST
    else if ends then Some EISDIR
    else if nat_lt 4095 (path_below directory.path name) then Some ENAMETOOLONG
    else if nat_lt 4096 count then Some ENOSPC
    else None

abbrev pub refused_in : ℕ → Bool → Body → List ℕ → Bool → ℕ → Option Errno
refused_in at linked (Bytes bytes) name ends count = Some ENOTDIR
refused_in at linked (Names directory) name ends count = name_refused at linked directory name ends count

abbrev pub refused_at : ℕ → Option Node → List ℕ → Bool → ℕ → Option Errno
refused_at at None name ends count = Some ENOENT
refused_at at (Some node) name ends count = refused_in at node.linked node.body name ends count

-- why an entry can't be made; `ends` where a file's path ends in a slash
unfoldable pub make_refused : List (ℕ × Node) → ℕ → List ℕ → Bool → Option Errno
make_refused nodes at name ends =
    if nat_lt 255 (length name) then Some ENAMETOOLONG else refused_at at (node_in nodes at) name ends (tree_count nodes)

-- a directory has one name more
abbrev pub with_name : List ℕ → ℕ → Body → Body
with_name name inode (Bytes bytes) = Bytes bytes
with_name name inode (Names directory) = Names (record { parent = directory.parent; path = directory.path; names = with_entry name inode directory.names })

abbrev pub node_with : List ℕ → ℕ → Node → Node
node_with name inode node = record { holds = node.holds; linked = node.linked; body = with_name name inode node.body }

abbrev pub named_by : ℕ → List ℕ → ℕ → Option Node → List (ℕ × Node) → List (ℕ × Node)
named_by at name inode None nodes = nodes
named_by at name inode (Some node) nodes = changed_node at (node_with name inode node) nodes

-- the tree's nodes with a new one, which has a name in a directory
unfoldable pub with_made : ℕ → List ℕ → ℕ → Node → List (ℕ × Node) → List (ℕ × Node)
with_made at name inode node nodes = named_by at name inode (node_in (with_node inode node nodes) at) (with_node inode node nodes)

abbrev pub new_node : Kind → Spot → List (ℕ × Node) → Node
new_node File spot nodes = new_file
new_node Dir spot nodes = new_directory spot.at (path_below (path_by (node_in nodes spot.at)) spot.name)

-- only a directory's path may end in a slash
abbrev pub slash_refused : Kind → List ℕ → Bool
slash_refused File path = ends_in_slash path
slash_refused Dir path = false

abbrev pub made_at : Kind → Bool → Tree → Spot → Result Tree Errno
made_at kind ends tree spot =
    unless (make_refused tree.nodes spot.at spot.name ends)
    (Ok (record { nodes = with_made spot.at spot.name tree.next (new_node kind spot tree.nodes) tree.nodes; next = tree.next + 1 }))

-- the tree after an entry is made, which has the next inode
unfoldable pub made : Kind → ℕ → List ℕ → Tree → Result Tree Errno
made kind from path tree = and_then (spot_of tree from path) (made_at kind (slash_refused kind path) tree)
