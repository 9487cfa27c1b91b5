-- The bytes of files in the tree, and what limits them.
-- Source: pread(2), pwrite(2), ftruncate(2). The limits are the project's own.
use Rattle.std.specs.Prelude.{ℕ, ◌+◌, ◌-◌, nat_lt, ◌==◌, max, Bool, true, false, if◌then◌else◌, List, [], ◌∷◌, ◌++◌, length, take, drop, replicate, Option, Some, None, Result, Ok, Err}
use Rattle.file_tree.specs.declared.errno.Errno.{Errno}
use Rattle.file_tree.specs.declared.errno.Errno.TheVariants.{EFBIG, ENOSPC}
use Rattle.file_tree.specs.declared.node.Node.{Node}
use Rattle.file_tree.specs.declared.node.Body.{Body}
use Rattle.file_tree.specs.declared.node.Body.TheVariants.{Bytes, Names}
use Rattle.file_tree.specs.Nodes.{Tree, node_in, changed_node, file_bytes, tree_bytes}
use Rattle.file_tree.specs.Walk.{unless}

-- cut, or filled up with zeros
abbrev pub resized : ℕ → List ℕ → List ℕ
resized size old = take size old ++ replicate (size - length old) 0

-- the bytes go over those from an offset on, behind zeros where they are written past the end; no bytes change nothing
abbrev pub overwritten : ℕ → List ℕ → List ℕ → List ℕ
overwritten offset [] old = old
overwritten offset (byte ∷ bytes) old = resized offset old ++ (byte ∷ bytes) ++ drop (offset + length (byte ∷ bytes)) old

-- what a read of at most `size` bytes gives
abbrev pub read_from : ℕ → ℕ → List ℕ → List ℕ
read_from offset size bytes = take size (drop offset bytes)

abbrev pub refilled_body : List ℕ → Body → Body
refilled_body bytes (Bytes old) = Bytes bytes
refilled_body bytes (Names directory) = Names directory

-- a file that has these bytes
abbrev pub refilled : List ℕ → Node → Node
refilled bytes node = record { holds = node.holds; linked = node.linked; body = refilled_body bytes node.body }

abbrev pub refilled_by : ℕ → List ℕ → Option Node → List (ℕ × Node) → List (ℕ × Node)
refilled_by inode bytes None nodes = nodes
refilled_by inode bytes (Some node) nodes = changed_node inode (refilled bytes node) nodes

-- a file of the tree has these bytes
unfoldable pub with_bytes : ℕ → List ℕ → List (ℕ × Node) → List (ℕ × Node)
with_bytes inode bytes nodes = refilled_by inode bytes (node_in nodes inode) nodes

-- why a file can't have these bytes: the limit of a file, then that of all linked files together
unfoldable pub too_many : ℕ → List ℕ → List (ℕ × Node) → Option Errno
too_many inode bytes nodes =
    if nat_lt 16777216 (length bytes) then Some EFBIG
    else if nat_lt 268435456 (tree_bytes (with_bytes inode bytes nodes)) then Some ENOSPC
    else None

-- the tree after a file has these bytes
unfoldable pub filled_with : ℕ → List ℕ → Tree → Result Tree Errno
filled_with inode bytes tree =
    unless (too_many inode bytes tree.nodes) (Ok (record { nodes = with_bytes inode bytes tree.nodes; next = tree.next }))

abbrev pub written : ℕ → ℕ → List ℕ → Tree → Result Tree Errno
written file offset bytes tree = filled_with file (overwritten offset bytes (file_bytes tree.nodes file)) tree

abbrev pub truncated : ℕ → ℕ → Tree → Result Tree Errno
truncated file size tree = filled_with file (resized size (file_bytes tree.nodes file)) tree

-- a size, if a file can have it
abbrev pub fitting : ℕ → Option ℕ
fitting size = if nat_lt 16777216 size then None else Some size

-- how many bytes a file has after a write
abbrev pub size_written : ℕ → ℕ → ℕ → ℕ
size_written size offset count = if count == 0 then size else max size (offset + count)

abbrev pub within_tree : ℕ → Result ℕ Errno
within_tree total = if nat_lt 268435456 total then Err ENOSPC else Ok total

-- how many bytes all linked files have after a file gets another size, by whether it is linked, and its old size
abbrev pub total_after : Bool → ℕ → ℕ → Option ℕ → Result ℕ Errno
total_after linked old total None = Err EFBIG
total_after false old total (Some size) = Ok total
total_after true old total (Some size) = within_tree (total - old + size)
