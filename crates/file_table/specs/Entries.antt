-- The entries of a directory.
-- Source: getdents64(2), `struct linux_dirent64`. That a directory which was unlinked has none, and that names rise, is the
-- project's own.
use Rattle.std.specs.Prelude.{◌≡◌, ℕ, ◌+◌, ◌-◌, ◌*◌, ◌/◌, ◌≤◌, ◌<◌, nat_lt, Bool, true, false, not, if◌then◌else◌, List, [], ◌∷◌, ◌++◌, length, get_or, drop, replicate, Option, Some, None, Result, Ok, Err}
use Rattle.byteorder.specs.Endian.{little_bytes}
use Rattle.file_tree.specs.declared.errno.Errno.{Errno}
use Rattle.file_tree.specs.declared.errno.Errno.TheVariants.{EBADF, EINVAL, ENOENT, ENOTDIR}
use Rattle.file_tree.specs.declared.node.Node.{Node}
use Rattle.file_tree.specs.declared.node.Body.{Body}
use Rattle.file_tree.specs.declared.node.Body.TheVariants.{Bytes, Names}
use Rattle.file_tree.specs.declared.kind.Kind.{Kind}
use Rattle.file_tree.specs.declared.kind.Kind.TheVariants.{File, Dir}
use Rattle.file_tree.specs.Entries.{Entries}
use Rattle.file_tree.specs.Nodes.{Tree, Has, kind_in, linked_in, names_in, node_in}
use Rattle.file_tree.specs.Whole.{IsSound as IsSoundTree}
use Rattle.std.specs.Map.{keys_of}
use Rattle.file_tree.specs.Paths.{dot}
use Rattle.file_table.specs.declared.state.Description.{Description}
use Rattle.file_table.specs.declared.state.Target.{Target}
use Rattle.file_table.specs.declared.state.Target.TheVariants as targets
use Rattle.file_table.specs.declared.fault.FileFault.{FileFault}
use Rattle.file_table.specs.declared.fault.FileFault.TheVariants as faults
use Rattle.file_table.specs.Due.{Done, done}
use Rattle.file_table.specs.Moving.{moved}
use Rattle.file_table.specs.State.{Files, with_open}

abbrev pub dots : List ℕ
dots = 46 ∷ 46 ∷ []

abbrev pub parent_in : Body → ℕ
parent_in (Bytes bytes) = 0
parent_in (Names directory) = directory.parent

abbrev pub parent_by : Option Node → ℕ
parent_by None = 0
parent_by (Some node) = parent_in node.body

-- the directory itself, the one above it, and its names
abbrev pub entries : ℕ → Tree → Entries
entries inode tree = (dot, inode) ∷ (dots, parent_by (node_in tree.nodes inode)) ∷ names_in tree.nodes inode

abbrev pub kind_byte : Option Kind → ℕ
kind_byte None = 0
kind_byte (Some Dir) = 4
kind_byte (Some File) = 8

-- 19 bytes in front of the name and a zero behind it, rounded up to 8
abbrev pub entry_size : List ℕ → ℕ
entry_size name = 8 * ((length name + 27) / 8)

-- inode, the index of the next entry, length, kind, name, zeros
abbrev pub entry_with : ℕ → List ℕ → ℕ → ℕ → List ℕ
entry_with next name inode kind =
    little_bytes 8 inode ++ little_bytes 8 next ++ little_bytes 2 (entry_size name)
    ++ kind ∷ name ++ replicate (entry_size name - 19 - length name) 0

abbrev pub entry_bytes : ℕ → List ℕ × ℕ → Tree → List ℕ
entry_bytes next (name, inode) tree = entry_with next name inode (kind_byte (kind_in tree inode))

-- what fits of the entries, and the index of the first that doesn't
pub record Listed : Type 0 where
  pub bytes : List ℕ
  pub next : ℕ

abbrev pub onto : List ℕ → Listed → Listed
onto bytes listed = record { bytes = bytes ++ listed.bytes; next = listed.next }

unfoldable pub fitted : ℕ → ℕ → Entries → Tree → Listed
fitted room index [] tree = record { bytes = []; next = index }
fitted room index ((name, inode) ∷ rest) tree =
    if nat_lt room (entry_size name) then record { bytes = []; next = index }
    else onto (entry_bytes (index + 1) (name, inode) tree) (fitted (room - entry_size name) (index + 1) rest tree)

-- some entry must fit, where there is one
abbrev pub lists : ℕ → ℕ → Entries → Tree → Result Listed Errno
lists room index [] tree = Ok (record { bytes = []; next = index })
lists room index ((name, inode) ∷ rest) tree =
    if nat_lt room (entry_size name) then Err EINVAL else Ok (fitted room index ((name, inode) ∷ rest) tree)

abbrev pub listed_by : ℕ → Option Kind → Bool → ℕ → ℕ → Tree → Result Listed Errno
listed_by inode None linked room index tree = Err ENOTDIR
listed_by inode (Some File) linked room index tree = Err ENOTDIR
listed_by inode (Some Dir) linked room index tree =
    if not linked then Err ENOENT else lists room index (drop index (entries inode tree)) tree

abbrev pub listed_in : Target → ℕ → ℕ → Tree → Result Listed Errno
listed_in (targets.Device device) room index tree = Err ENOTDIR
listed_in (targets.Pipe pipe writes) room index tree = Err ENOTDIR
listed_in (targets.Node inode) room index tree = listed_by inode (kind_in tree inode) (linked_in tree inode) room index tree

abbrev pub listed_on : ℕ → Description → Files → Result Listed Errno → Result (Done (List ℕ)) Errno
listed_on number it files (Err errno) = Err errno
listed_on number it files (Ok listed) = Ok (done (moved number listed.next it files) listed.bytes)

-- the entries from the description's offset on
unfoldable pub list : ℕ → ℕ → Files → Result (Done (List ℕ)) Errno
list fd room files =
    with_open fd files (Err EBADF) (λ number it. listed_on number it files (listed_in it.target room it.offset files.tree))

-- the names of a directory of the tree, and the directory above it
pub record IsDirectory (tree : Tree) (inode up : ℕ) (texts : List (List ℕ)) : Type 0 where
  pub names : texts ≡ keys_of (names_in tree.nodes inode)
  pub parent : up ≡ parent_by (node_in tree.nodes inode)
  pub here : Has tree inode
  pub above : Has tree up
  pub sound : IsSoundTree tree

-- the entry of an index
abbrev pub entry_at : ℕ → ℕ → Tree → List ℕ × ℕ
entry_at index inode tree = get_or (entries inode tree) index ([], 0)

-- why nothing is listed
abbrev pub IsListed : Result Listed Errno → FileFault → Type 0
IsListed due (faults.Errno errno) = due ≡ Err errno
IsListed due faults.Block = ⊥
IsListed due faults.Memory = Unit {0}

-- an entry was added, where there was room
abbrev pub Pushed : Bool → List ℕ × ℕ → ℕ → ℕ → Tree → List ℕ → List ℕ → Type 0
Pushed true entry index room tree old new = (entry_size entry.0 ≤ room) × (new ≡ old ++ entry_bytes (index + 1) entry tree)
Pushed false entry index room tree old new = (room < entry_size entry.0) × (new ≡ old)
