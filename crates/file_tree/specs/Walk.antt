-- The walk from a directory along a path.
-- Source: path_resolution(7). That every part but `.` of a directory that was unlinked isn't there, `..` too, is the
-- project's own.
use Rattle.std.specs.Prelude.{ℕ, nat_lt, Bool, not, if◌then◌else◌, List, [], ◌∷◌, length, Option, Some, None, Result, Ok, Err}
use Rattle.file_tree.specs.declared.errno.Errno.{Errno}
use Rattle.file_tree.specs.declared.errno.Errno.TheVariants.{ENOENT, ENOTDIR, ENAMETOOLONG}
use Rattle.file_tree.specs.declared.node.Node.{Node}
use Rattle.file_tree.specs.declared.node.Directory.{Directory}
use Rattle.file_tree.specs.declared.node.Body.{Body}
use Rattle.file_tree.specs.declared.node.Body.TheVariants.{Bytes, Names}
use Rattle.file_tree.specs.Entries.{entry_named}
use Rattle.file_tree.specs.Paths.{names, parts, is_dot, is_dots, is_absolute, path_refused}
use Rattle.file_tree.specs.Nodes.{Tree, node_in}

abbrev pub found : Option ℕ → Result ℕ Errno
found None = Err ENOENT
found (Some inode) = Ok inode

-- one part, looked for in a directory
abbrev pub looked_up : ℕ → Bool → Directory → List ℕ → Result ℕ Errno
looked_up at linked directory part =
    if is_dot part then Ok at
    else if not linked then Err ENOENT
    else if is_dots part then Ok directory.parent
    else found (entry_named part directory.names)

abbrev pub step_in : ℕ → Bool → Body → List ℕ → Result ℕ Errno
step_in at linked (Bytes bytes) part = Err ENOTDIR
step_in at linked (Names directory) part = looked_up at linked directory part

abbrev pub step_at : ℕ → Option Node → List ℕ → Result ℕ Errno
step_at at None part = Err ENOENT
step_at at (Some node) part = step_in at node.linked node.body part

-- one part of a path
unfoldable pub step : List (ℕ × Node) → ℕ → List ℕ → Result ℕ Errno
step nodes at part = if nat_lt 255 (length part) then Err ENAMETOOLONG else step_at at (node_in nodes at) part

abbrev pub and_then : {A B : Type 0} → Result A Errno → (A → Result B Errno) → Result B Errno
and_then (Err errno) go = Err errno
and_then (Ok value) go = go value

-- a refusal goes before the rest
abbrev pub unless : {A : Type 0} → Option Errno → Result A Errno → Result A Errno
unless None rest = rest
unless (Some errno) rest = Err errno

-- the parts one after another; the first refusal is the answer
unfoldable pub follow : List (ℕ × Node) → ℕ → List (List ℕ) → Result ℕ Errno
follow nodes at [] = Ok at
follow nodes at (part ∷ rest) = and_then (step nodes at part) (λ next. follow nodes next rest)

-- where a path begins
abbrev pub start_of : ℕ → List ℕ → ℕ
start_of from path = if is_absolute path then 1 else from

-- the inode that a path leads to
unfoldable pub walked : Tree → ℕ → List ℕ → Result ℕ Errno
walked tree from path = unless (path_refused path) (follow tree.nodes (start_of from path) (parts path))

-- a directory and a name in it, which is empty where the directory itself is meant
pub record Spot : Type 0 where
  pub at : ℕ
  pub name : List ℕ

-- all names but the last are walked
unfoldable pub spotted : List (ℕ × Node) → ℕ → List (List ℕ) → Result Spot Errno
spotted nodes at [] = Ok (record { at = at; name = [] })
spotted nodes at (name ∷ []) = Ok (record { at = at; name = name })
spotted nodes at (name ∷ next ∷ rest) = and_then (step nodes at name) (λ to. spotted nodes to (next ∷ rest))

-- where the last name of a path stands
unfoldable pub spot_of : Tree → ℕ → List ℕ → Result Spot Errno
spot_of tree from path = unless (path_refused path) (spotted tree.nodes (start_of from path) (names path))
