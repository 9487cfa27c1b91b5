-- Descriptors that are made, changed and closed.
-- Source: dup(2), fcntl(2), close(2), pipe(7). That there are 256 descriptors is the project's own.
use Rattle.std.specs.Prelude.{ℕ, ◌+◌, nat_le, nat_lt, ◌==◌, Bool, true, false, ◌&&◌, not, is_some, if◌then◌else◌, List, [], ◌∷◌, get_or, set, Option, Some, None, Result, Ok, Err}
use Rattle.std.specs.List.{list_any}
use Rattle.file_tree.specs.declared.errno.Errno.{Errno}
use Rattle.file_tree.specs.declared.errno.Errno.TheVariants.{EBADF, EINVAL, EMFILE}
use Rattle.file_tree.specs.Holds.{released}
use Rattle.file_table.specs.declared.state.Descriptor.{Descriptor}
use Rattle.file_table.specs.declared.state.Description.{Description}
use Rattle.file_table.specs.declared.state.Device.{Device}
use Rattle.file_table.specs.declared.state.Opened.{Opened}
use Rattle.file_table.specs.declared.state.Target.{Target}
use Rattle.file_table.specs.declared.state.Target.TheVariants as targets
use Rattle.file_table.specs.Due.{Done, done}
use Rattle.file_table.specs.Flags.{with_status}
use Rattle.file_table.specs.State.{Files, Pipe, at, with_open}

-- the first free place of these at or above the least; the first of them has this number
unfoldable pub free_from : {A : Type 0} → ℕ → ℕ → List (Option A) → Option ℕ
free_from least number [] = None
free_from least number (place ∷ places) =
    if nat_le least number && not (is_some place) then Some number else free_from least (number + 1) places

-- the least free place at or above one
abbrev pub free_place : {A : Type 0} → ℕ → List (Option A) → Option ℕ
free_place least places = free_from least 0 places

abbrev pub names : ℕ → Option Descriptor → Bool
names number None = false
names number (Some descriptor) = descriptor.description == number

-- a descriptor names the description
abbrev pub is_named : ℕ → List (Option Descriptor) → Bool
is_named number descriptors = list_any (names number) descriptors

abbrev pub with_descriptor : ℕ → Option Descriptor → Files → Files
with_descriptor fd descriptor files =
    record { tree = files.tree; descriptors = set files.descriptors fd descriptor; descriptions = files.descriptions; devices = files.devices; pipes = files.pipes }

abbrev pub no_device : Device
no_device = record { output = []; input = []; ended = false; live = false }

-- a device whose last description went
abbrev pub dead : Device → Device
dead device = record { output = device.output; input = device.input; ended = device.ended; live = false }

-- a pipe of which an end is closed, which goes with its last end
abbrev pub without_end : Bool → Pipe → Option Pipe
without_end true pipe = if pipe.reader then Some (record { bytes = pipe.bytes; reader = true; writer = false }) else None
without_end false pipe = if pipe.writer then Some (record { bytes = pipe.bytes; reader = false; writer = true }) else None

abbrev pub without_end_by : Bool → Option Pipe → Option Pipe
without_end_by writes None = None
without_end_by writes (Some pipe) = without_end writes pipe

-- what a description held is let go: an entry of the tree is held once less, a device lives no more, an end of a pipe is closed
abbrev pub let_go : Target → Files → Files
let_go (targets.Node inode) files =
    record { tree = released inode files.tree; descriptors = files.descriptors; descriptions = files.descriptions; devices = files.devices; pipes = files.pipes }
let_go (targets.Device device) files =
    record { tree = files.tree; descriptors = files.descriptors; descriptions = files.descriptions; devices = set files.devices device (dead (get_or files.devices device no_device)); pipes = files.pipes }
let_go (targets.Pipe pipe writes) files =
    record { tree = files.tree; descriptors = files.descriptors; descriptions = files.descriptions; devices = files.devices; pipes = set files.pipes pipe (without_end_by writes (at files.pipes pipe)) }

abbrev pub without_description : ℕ → Option Description → Files → Files
without_description number None files = files
without_description number (Some gone) files =
    let_go gone.target (record { tree = files.tree; descriptors = files.descriptors; descriptions = set files.descriptions number None; devices = files.devices; pipes = files.pipes })

-- a description goes where no descriptor names it
abbrev pub swept : ℕ → Files → Files
swept number files =
    if is_named number files.descriptors then files else without_description number (at files.descriptions number) files

abbrev pub closed_by : ℕ → Option Descriptor → Files → Files
closed_by fd None files = files
closed_by fd (Some descriptor) files = swept descriptor.description (with_descriptor fd None files)

-- a descriptor is closed, if it is open, and its description goes with its last descriptor
unfoldable pub closed : ℕ → Files → Files
closed fd files = closed_by fd (at files.descriptors fd) files

abbrev pub device_of : Option Description → Option ℕ
device_of None = None
device_of (Some description) = device_in description.target
  where
    device_in : Target → Option ℕ
    device_in (targets.Node inode) = None
    device_in (targets.Device device) = Some device
    device_in (targets.Pipe pipe writes) = None

-- a device, or an end of a pipe, which one description is open for alone
abbrev pub lone_of : Option Description → Option Target
lone_of None = None
lone_of (Some description) = lone_in description.target
  where
    lone_in : Target → Option Target
    lone_in (targets.Node inode) = None
    lone_in (targets.Device device) = Some (targets.Device device)
    lone_in (targets.Pipe pipe writes) = Some (targets.Pipe pipe writes)

abbrev pub pipe_of : Target → Option ℕ
pipe_of (targets.Node inode) = None
pipe_of (targets.Device device) = None
pipe_of (targets.Pipe pipe writes) = Some pipe

-- the device whose last description goes
abbrev pub lost : ℕ → Files → Option ℕ
lost number files = if is_named number files.descriptors then None else device_of (at files.descriptions number)

abbrev pub close_by : ℕ → Option Descriptor → Files → Result (Done (Option ℕ)) Errno
close_by fd None files = Err EBADF
close_by fd (Some descriptor) files =
    Ok (done (swept descriptor.description (with_descriptor fd None files)) (lost descriptor.description (with_descriptor fd None files)))

unfoldable pub close : ℕ → Files → Result (Done (Option ℕ)) Errno
close fd files = close_by fd (at files.descriptors fd) files

abbrev pub another : Descriptor → Bool → Descriptor
another descriptor closes = record { description = descriptor.description; close_on_exec = closes }

abbrev pub dup_at : Option ℕ → Descriptor → Bool → Files → Result (Done ℕ) Errno
dup_at None descriptor closes files = Err EMFILE
dup_at (Some to) descriptor closes files = Ok (done (with_descriptor to (Some (another descriptor closes)) files) to)

abbrev pub dup_by : Option Descriptor → ℕ → Bool → Files → Result (Done ℕ) Errno
dup_by None least closes files = Err EBADF
dup_by (Some descriptor) least closes files = dup_at (free_place least files.descriptors) descriptor closes files

-- the least free descriptor at or above one names what this one names
unfoldable pub dup : ℕ → ℕ → Bool → Files → Result (Done ℕ) Errno
dup fd least closes files = if nat_lt 255 least then Err EINVAL else dup_by (at files.descriptors fd) least closes files

abbrev pub dup_to_by : Option Descriptor → ℕ → Bool → Files → Result (Done ℕ) Errno
dup_to_by None to closes files = Err EBADF
dup_to_by (Some descriptor) to closes files =
    if nat_lt 255 to then Err EBADF else Ok (done (with_descriptor to (Some (another descriptor closes)) (closed to files)) to)

-- this descriptor names what that one names; it is closed before, if it is open
unfoldable pub dup_to : ℕ → ℕ → Bool → Files → Result (Done ℕ) Errno
dup_to fd to closes files = if fd == to then Err EINVAL else dup_to_by (at files.descriptors fd) to closes files

-- whether a descriptor is closed by execve
abbrev pub marked_by : Option Descriptor → ℕ → Bool → Files → Result Files Errno
marked_by None fd closes files = Err EBADF
marked_by (Some descriptor) fd closes files = Ok (with_descriptor fd (Some (another descriptor closes)) files)

unfoldable pub marked : ℕ → Bool → Files → Result Files Errno
marked fd closes files = marked_by (at files.descriptors fd) fd closes files

abbrev pub with_description : ℕ → Description → Files → Files
with_description number description files =
    record { tree = files.tree; descriptors = files.descriptors; descriptions = set files.descriptions number (Some description); devices = files.devices; pipes = files.pipes }

abbrev pub flagged : ℕ → Description → Description
flagged flags old = record { target = old.target; flags = with_status flags old.flags; offset = old.offset }

-- a description appends, or never waits, as it is told
unfoldable pub with_flags : ℕ → ℕ → Files → Result Files Errno
with_flags fd flags files = with_open fd files (Err EBADF) (λ number it. Ok (with_description number (flagged flags it) files))

abbrev pub node_of : Target → Option ℕ
node_of (targets.Node inode) = Some inode
node_of (targets.Device device) = None
node_of (targets.Pipe pipe writes) = None

abbrev pub what_in : Descriptor → Option Description → Option Opened
what_in descriptor None = None
what_in descriptor (Some it) =
    Some (record { node = node_of it.target; device = device_of (Some it); pipe = pipe_of it.target; flags = it.flags; close_on_exec = descriptor.close_on_exec })

abbrev pub what_by : Option Descriptor → Files → Option Opened
what_by None files = None
what_by (Some descriptor) files = what_in descriptor (at files.descriptions descriptor.description)

-- what a descriptor is open for, and how
unfoldable pub what : ℕ → Files → Option Opened
what fd files = what_by (at files.descriptors fd) files
