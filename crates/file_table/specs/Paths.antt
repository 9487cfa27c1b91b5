-- The directory from which a path is walked, and the calls on paths alone.
-- Source: openat(2), mkdirat(2), unlinkat(2). That a descriptor is looked at before the path is the project's own.
use Rattle.std.specs.Prelude.{ℕ, ◌==◌, Bool, if◌then◌else◌, List, ℤ, pos, negsuc, Option, Some, None, Result, Ok, Err}
use Rattle.file_tree.specs.declared.errno.Errno.{Errno}
use Rattle.file_tree.specs.declared.errno.Errno.TheVariants.{EBADF, ENOTDIR}
use Rattle.file_tree.specs.declared.kind.Kind.{Kind}
use Rattle.file_tree.specs.declared.kind.Kind.TheVariants.{File, Dir}
use Rattle.file_tree.specs.Nodes.{Tree, kind_in}
use Rattle.file_tree.specs.Making.{made}
use Rattle.file_tree.specs.Unlinking.{unlinked}
use Rattle.file_tree.specs.Paths.{is_absolute}
use Rattle.file_table.specs.declared.state.Target.{Target}
use Rattle.file_table.specs.declared.state.Target.TheVariants as targets
use Rattle.file_table.specs.Due.{and_then}
use Rattle.file_table.specs.State.{Files, with_open}

abbrev pub directory_by : ℕ → Option Kind → Result ℕ Errno
directory_by inode None = Err ENOTDIR
directory_by inode (Some File) = Err ENOTDIR
directory_by inode (Some Dir) = Ok inode

abbrev pub directory_in : Tree → Target → Result ℕ Errno
directory_in tree (targets.Node inode) = directory_by inode (kind_in tree inode)
directory_in tree (targets.Device device) = Err ENOTDIR
directory_in tree (targets.Pipe pipe writes) = Err ENOTDIR

-- the directory that a descriptor names; -100 is the root
unfoldable pub dir_of : ℤ → Files → Result ℕ Errno
dir_of (pos fd) files = with_open fd files (Err EBADF) (λ number it. directory_in files.tree it.target)
dir_of (negsuc n) files = if n == 99 then Ok 1 else Err EBADF

-- a number from 0 on
abbrev pub natural : ℤ → Option ℕ
natural (pos n) = Some n
natural (negsuc n) = None

-- where a path begins; an absolute one needs no directory
abbrev pub base : ℤ → List ℕ → Files → Result ℕ Errno
base dir path files = if is_absolute path then Ok 1 else dir_of dir files

abbrev pub with_tree : Tree → Files → Files
with_tree tree files = record { tree = tree; descriptors = files.descriptors; descriptions = files.descriptions; devices = files.devices; pipes = files.pipes }

abbrev pub put_tree : Result Tree Errno → Files → Result Files Errno
put_tree (Err errno) files = Err errno
put_tree (Ok tree) files = Ok (with_tree tree files)

-- a directory is made
unfoldable pub with_dir : ℤ → List ℕ → Files → Result Files Errno
with_dir dir path files = and_then (base dir path files) (λ from. put_tree (made Dir from path files.tree) files)

-- a name is taken away
unfoldable pub without : ℤ → List ℕ → Bool → Files → Result Files Errno
without dir path directory files = and_then (base dir path files) (λ from. put_tree (unlinked from path directory files.tree) files)
