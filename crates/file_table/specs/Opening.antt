-- The start, and the opening of files.
-- Source: open(2), openat(2). That device d is open as descriptor d at the start is the project's own.
use Rattle.std.specs.Prelude.{ℕ, zero, suc, ◌+◌, ◌-◌, true, false, ◌&&◌, is_some, if◌then◌else◌, List, [], ◌∷◌, set, replicate, ℤ, Option, Some, None, Result, Ok, Err}
use Rattle.file_tree.specs.declared.errno.Errno.{Errno}
use Rattle.file_tree.specs.declared.errno.Errno.TheVariants.{EBADF, EEXIST, EINVAL, EISDIR, EMFILE, ENOENT, ENOTDIR}
use Rattle.file_tree.specs.declared.kind.Kind.{Kind}
use Rattle.file_tree.specs.declared.kind.Kind.TheVariants.{File, Dir}
use Rattle.file_tree.specs.Nodes.{Tree, kind_in}
use Rattle.file_tree.specs.Files.{truncated}
use Rattle.file_tree.specs.Holds.{held}
use Rattle.file_tree.specs.Making.{made}
use Rattle.file_tree.specs.Walk.{walked}
use Rattle.file_table.specs.declared.state.Description.{Description}
use Rattle.file_table.specs.declared.state.Device.{Device}
use Rattle.file_table.specs.declared.state.Target.{Target}
use Rattle.file_table.specs.declared.state.Target.TheVariants as targets
use Rattle.file_table.specs.Descriptors.{free_place}
use Rattle.file_table.specs.Due.{Done, done, and_then}
use Rattle.file_table.specs.Flags.{are_wrong, changes, closes_on_exec, creates, is_exclusive, kept, truncates, wants_directory}
use Rattle.file_table.specs.Paths.{base, with_tree}
use Rattle.file_table.specs.State.{Files, put}

-- ---- the start

abbrev pub new_device : Device
new_device = record { output = []; input = []; ended = false; live = true }

-- no descriptor is open
unfoldable pub bare : Tree → ℕ → Files
bare tree devices = record { tree = tree; descriptors = replicate 256 None; descriptions = []; devices = replicate devices new_device; pipes = [] }

-- a descriptor and a description of the same number
abbrev pub standing : ℕ → Description → Files → Files
standing number description files = record {
  tree = files.tree;
  descriptors = set files.descriptors number (Some (record { description = number; close_on_exec = false }));
  descriptions = put number description files.descriptions;
  devices = files.devices;
  pipes = files.pipes;
}

-- a device for reading and writing
abbrev pub device_description : ℕ → Description
device_description device = record { target = targets.Device device; flags = 2; offset = 0 }

-- so many devices, from one on
unfoldable pub with_devices : ℕ → ℕ → Files → Files
with_devices device zero files = files
with_devices device (suc count) files = with_devices (device + 1) count (standing device (device_description device) files)

-- a file for reading alone
abbrev pub input_description : ℕ → Description
input_description inode = record { target = targets.Node inode; flags = 0; offset = 0 }

-- descriptor d names device d; or descriptor 0 a file, where one is given
unfoldable pub started : Tree → ℕ → Option ℕ → Files
started tree devices None = with_devices 0 devices (bare tree devices)
started tree devices (Some inode) =
    with_devices 1 (devices - 1) (standing 0 (input_description inode) (bare (held inode tree) devices))

-- ---- opening

-- the least number that nothing has
unfoldable pub vacant_from : {A : Type 0} → ℕ → List (Option A) → ℕ
vacant_from number [] = number
vacant_from number (place ∷ places) = if is_some place then vacant_from (number + 1) places else number

abbrev pub vacant : {A : Type 0} → List (Option A) → ℕ
vacant places = vacant_from 0 places

abbrev pub target_description : Target → ℕ → Description
target_description target flags = record { target = target; flags = kept flags; offset = 0 }

-- a descriptor with a description of its own
abbrev pub with_target : ℕ → Target → ℕ → Files → Files
with_target fd target flags files = record {
  tree = files.tree;
  descriptors = set files.descriptors fd (Some (record { description = vacant files.descriptions; close_on_exec = closes_on_exec flags }));
  descriptions = put (vacant files.descriptions) (target_description target flags) files.descriptions;
  devices = files.devices;
  pipes = files.pipes;
}

-- one that holds an entry
abbrev pub with_opened : ℕ → ℕ → ℕ → Files → Files
with_opened fd inode flags files = with_target fd (targets.Node inode) flags (with_tree (held inode files.tree) files)

abbrev pub opens : ℕ → ℕ → ℕ → Files → Result (Done ℕ) Errno
opens fd inode flags files = Ok (done (with_opened fd inode flags files) fd)

-- what is there is opened, by its kind
abbrev pub open_kind : Option Kind → ℕ → ℕ → ℕ → Files → Result (Done ℕ) Errno
open_kind None fd inode flags files = Err ENOENT
open_kind (Some Dir) fd inode flags files = if changes flags then Err EISDIR else opens fd inode flags files
open_kind (Some File) fd inode flags files =
    if wants_directory flags then Err ENOTDIR
    else if truncates flags then and_then (truncated inode 0 files.tree) (λ tree. opens fd inode flags (with_tree tree files))
    else opens fd inode flags files

abbrev pub open_there : ℕ → ℕ → ℕ → Files → Result (Done ℕ) Errno
open_there fd inode flags files =
    if creates flags && is_exclusive flags then Err EEXIST else open_kind (kind_in files.tree inode) fd inode flags files

-- a file is made and opened
abbrev pub open_made : ℕ → List ℕ → ℕ → ℕ → Files → Result (Done ℕ) Errno
open_made from path flags fd files =
    if wants_directory flags then Err ENOTDIR
    else and_then (made File from path files.tree) (λ tree. opens fd files.tree.next flags (with_tree tree files))

-- what a walk found is opened; where nothing is there a file is made, if it is asked for
abbrev pub open_found : Result ℕ Errno → ℕ → List ℕ → ℕ → ℕ → Files → Result (Done ℕ) Errno
open_found (Ok inode) from path flags fd files = open_there fd inode flags files
open_found (Err ENOENT) from path flags fd files = if creates flags then open_made from path flags fd files else Err ENOENT
open_found (Err errno) from path flags fd files = Err errno

abbrev pub open_from : ℕ → List ℕ → ℕ → ℕ → Files → Result (Done ℕ) Errno
open_from from path flags fd files = open_found (walked files.tree from path) from path flags fd files

abbrev pub open_free : Option ℕ → Result ℕ Errno → List ℕ → ℕ → Files → Result (Done ℕ) Errno
open_free None from path flags files = Err EMFILE
open_free (Some fd) from path flags files = and_then from (λ from. open_from from path flags fd files)

-- no descriptor goes before the path's errnos, and a wrong one before that
abbrev pub open_base : Result ℕ Errno → List ℕ → ℕ → Files → Result (Done ℕ) Errno
open_base (Err EBADF) path flags files = Err EBADF
open_base from path flags files = open_free (free_place 0 files.descriptors) from path flags files

-- the entry that a path leads to is opened, as the least free descriptor
unfoldable pub opened : ℤ → List ℕ → ℕ → Files → Result (Done ℕ) Errno
opened dir path flags files = if are_wrong flags then Err EINVAL else open_base (base dir path files) path flags files
