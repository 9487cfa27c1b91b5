-- Bytes that are moved, and offsets.
-- Source: read(2), write(2), pipe(7), pread(2), pwrite(2), lseek(2), ftruncate(2). That a device takes all bytes, and that a
-- directory has size 0, is the project's own; that a read or a write of no bytes is done at once is Linux's.
use Rattle.std.specs.Prelude.{ℕ, ◌+◌, ◌-◌, ◌^◌, ◌==◌, nat_le, nat_lt, Bool, ◌&&◌, ◌||◌, not, if◌then◌else◌, List, ◌++◌, length, take, drop, get_or, set, ℤ, pos, negsuc, ◌+ℤ◌, Option, Some, None, option_map, Result, Ok, Err}
use Rattle.file_tree.specs.declared.errno.Errno.{Errno}
use Rattle.file_tree.specs.declared.errno.Errno.TheVariants.{EAGAIN, EBADF, EINVAL, EISDIR, EPIPE, ESPIPE}
use Rattle.file_tree.specs.declared.kind.Kind.{Kind}
use Rattle.file_tree.specs.declared.kind.Kind.TheVariants.{File, Dir}
use Rattle.file_tree.specs.Nodes.{Tree, kind_in, file_bytes}
use Rattle.file_tree.specs.Files.{read_from, truncated, written as written_to}
use Rattle.file_table.specs.declared.fault.FileFault.{FileFault}
use Rattle.file_table.specs.declared.fault.FileFault.TheVariants as faults
use Rattle.file_table.specs.declared.state.Description.{Description}
use Rattle.file_table.specs.declared.state.Device.{Device}
use Rattle.file_table.specs.declared.state.Target.{Target}
use Rattle.file_table.specs.declared.state.Target.TheVariants as targets
use Rattle.file_table.specs.Descriptors.{no_device, with_description}
use Rattle.file_table.specs.Due.{Done, done, and_then}
use Rattle.file_table.specs.Flags.{appends, can_read, can_write, never_waits}
use Rattle.file_table.specs.Paths.{with_tree}
use Rattle.file_table.specs.State.{Files, Pipe, at, bytes_by, with_open}

abbrev pub offset_at : ℕ → Description → Description
offset_at offset it = record { target = it.target; flags = it.flags; offset = offset }

abbrev pub moved : ℕ → ℕ → Description → Files → Files
moved number offset it files = with_description number (offset_at offset it) files

-- ---- reading

-- the bytes of a file from an offset on, at most so many; a directory has none to be read
abbrev pub file_read : ℕ → ℕ → ℕ → Tree → Result (List ℕ) Errno
file_read inode offset size tree = by_kind (kind_in tree inode)
  where
    by_kind : Option Kind → Result (List ℕ) Errno
    by_kind None = Err EBADF
    by_kind (Some Dir) = Err EISDIR
    by_kind (Some File) = Ok (read_from offset size (file_bytes tree.nodes inode))

abbrev pub went_on : ℕ → Description → Files → Result (List ℕ) Errno → Result (Done (List ℕ)) FileFault
went_on number it files (Err errno) = Err (faults.Errno errno)
went_on number it files (Ok bytes) = Ok (done (moved number (it.offset + length bytes) it files) bytes)

abbrev pub stopped : {A : Type 0} → Errno → Result A FileFault
stopped errno = Err (faults.Errno errno)

abbrev pub faulted : {A : Type 0} → Result A Errno → Result A FileFault
faulted (Err errno) = Err (faults.Errno errno)
faulted (Ok value) = Ok value

-- a call that waits, or is refused where its description never waits
abbrev pub waits : {A : Type 0} → ℕ → Result A FileFault
waits flags = if never_waits flags then Err (faults.Errno EAGAIN) else Err faults.Block

-- what a read gives of bytes that come from elsewhere: those that are there, at most so many. It waits where none are there and
-- more may come; a read of no bytes never waits
abbrev pub given : Bool → List ℕ → ℕ → ℕ → Result (List ℕ) FileFault
given more bytes flags size =
    if (size == 0) || (not (length bytes == 0) || not more) then Ok (take size bytes) else waits flags

abbrev pub went_by : Result (List ℕ) FileFault → (ℕ → Files) → Result (Done (List ℕ)) FileFault
went_by (Err fault) left = Err fault
went_by (Ok bytes) left = Ok (done (left (length bytes)) bytes)

abbrev pub with_devices : List Device → Files → Files
with_devices devices files =
    record { tree = files.tree; descriptors = files.descriptors; descriptions = files.descriptions; devices = devices; pipes = files.pipes }

abbrev pub with_pipe : ℕ → Option Pipe → Files → Files
with_pipe number place files =
    record { tree = files.tree; descriptors = files.descriptors; descriptions = files.descriptions; devices = files.devices; pipes = set files.pipes number place }

-- so many bytes are gone
abbrev pub without_input : ℕ → Device → Device
without_input count device = record { output = device.output; input = drop count device.input; ended = device.ended; live = device.live }

abbrev pub without_bytes : ℕ → Pipe → Pipe
without_bytes count pipe = record { bytes = drop count pipe.bytes; reader = pipe.reader; writer = pipe.writer }

abbrev pub read_device : ℕ → Device → ℕ → ℕ → Files → Result (Done (List ℕ)) FileFault
read_device number device flags size files =
    went_by (given (not device.ended) device.input flags size)
    (λ count. with_devices (set files.devices number (without_input count device)) files)

-- a pipe that isn't there gives nothing
abbrev pub given_by : Option Pipe → ℕ → ℕ → Result (List ℕ) FileFault
given_by None flags size = stopped EBADF
given_by (Some pipe) flags size = given pipe.writer pipe.bytes flags size

abbrev pub read_pipe : ℕ → Option Pipe → ℕ → ℕ → Files → Result (Done (List ℕ)) FileFault
read_pipe number place flags size files =
    went_by (given_by place flags size) (λ count. with_pipe number (option_map (without_bytes count) place) files)

abbrev pub read_target : Target → ℕ → Description → ℕ → Files → Result (Done (List ℕ)) FileFault
read_target (targets.Node inode) number it size files = went_on number it files (file_read inode it.offset size files.tree)
read_target (targets.Device device) number it size files = read_device device (get_or files.devices device no_device) it.flags size files
read_target (targets.Pipe pipe writes) number it size files = read_pipe pipe (at files.pipes pipe) it.flags size files

-- the bytes of a file that a read would give, which moves nothing; a device and a pipe have none to be looked at
abbrev pub peek_target : Target → Description → ℕ → Files → Result (List ℕ) Errno
peek_target (targets.Node inode) it size files = file_read inode it.offset size files.tree
peek_target (targets.Device device) it size files = Err ESPIPE
peek_target (targets.Pipe pipe writes) it size files = Err ESPIPE

unfoldable pub peek : ℕ → ℕ → Files → Result (List ℕ) Errno
peek fd size files =
    with_open fd files (Err EBADF)
    (λ number it. if not (can_read it.flags) then Err EBADF else peek_target it.target it size files)

-- how many bytes stand ready at a device or in a pipe that a descriptor reads from
abbrev pub standing_in : Target → Files → Option ℕ
standing_in (targets.Node inode) files = None
standing_in (targets.Device device) files = Some (length (get_or files.devices device no_device).input)
standing_in (targets.Pipe pipe writes) files = Some (length (bytes_by (at files.pipes pipe)))

unfoldable pub standing : ℕ → Files → Option ℕ
standing fd files = with_open fd files None (λ number it. standing_in it.target files)

-- the offset goes on
unfoldable pub advanced : ℕ → ℕ → Files → Files
advanced fd count files = with_open fd files files (λ number it. moved number (it.offset + count) it files)

unfoldable pub read : ℕ → ℕ → Files → Result (Done (List ℕ)) FileFault
read fd size files =
    with_open fd files (stopped EBADF)
    (λ number it. if not (can_read it.flags) then stopped EBADF else read_target it.target number it size files)

-- the same at an offset that is given; the description's own stays
abbrev pub read_target_at : Target → ℕ → ℕ → Files → Result (List ℕ) Errno
read_target_at (targets.Node inode) offset size files = file_read inode offset size files.tree
read_target_at (targets.Device device) offset size files = Err ESPIPE
read_target_at (targets.Pipe pipe writes) offset size files = Err ESPIPE

unfoldable pub read_at : ℕ → ℕ → ℕ → Files → Result (List ℕ) Errno
read_at fd offset size files =
    with_open fd files (Err EBADF)
    (λ number it. if not (can_read it.flags) then Err EBADF else read_target_at it.target offset size files)

-- ---- writing

abbrev pub size_of : ℕ → Tree → ℕ
size_of inode tree = length (file_bytes tree.nodes inode)

-- where a write begins: at the end of a file that is appended to
abbrev pub place_of : ℕ → ℕ → ℕ → Tree → ℕ
place_of flags inode offset tree = if appends flags then size_of inode tree else offset

-- no bytes leave all as it is
abbrev pub past : ℕ → ℕ → ℕ → ℕ
past old place count = if count == 0 then old else place + count

abbrev pub more_output : List ℕ → Device → Device
more_output bytes device = record { output = device.output ++ bytes; input = device.input; ended = device.ended; live = device.live }

abbrev pub with_output : ℕ → List ℕ → List Device → List Device
with_output device bytes devices = set devices device (more_output bytes (get_or devices device no_device))

-- the most bytes that a pipe holds, and the most that are written to it whole or not at all
abbrev pub pipe_size : ℕ
pipe_size = 65536

abbrev pub whole_size : ℕ
whole_size = 4096

abbrev pub room_in : Pipe → ℕ
room_in pipe = pipe_size - length pipe.bytes

abbrev pub more_bytes : List ℕ → Pipe → Pipe
more_bytes bytes pipe = record { bytes = pipe.bytes ++ bytes; reader = pipe.reader; writer = pipe.writer }

-- how many of so many bytes a pipe takes. Up to 4,096 go whole or not at all; of more go those that fit, where the call never
-- waits. Where nobody reads they are refused, but no bytes never are
abbrev pub taken_by : Pipe → ℕ → ℕ → Result ℕ FileFault
taken_by pipe flags size =
    if not (size == 0) && not pipe.reader then stopped EPIPE
    else if nat_le size (room_in pipe) then Ok size
    else if nat_lt whole_size size && (never_waits flags && nat_lt 0 (room_in pipe)) then Ok (room_in pipe)
    else waits flags

-- and takes none
abbrev pub takes_by : Option Pipe → ℕ → ℕ → Result ℕ FileFault
takes_by None flags size = stopped EBADF
takes_by (Some pipe) flags size = taken_by pipe flags size

abbrev pub put_by : Result ℕ FileFault → ℕ → Option Pipe → List ℕ → Files → Result (Done ℕ) FileFault
put_by (Err fault) number place bytes files = Err fault
put_by (Ok count) number place bytes files = Ok (done (with_pipe number (option_map (more_bytes (take count bytes)) place) files) count)

-- bytes that are written to a pipe go behind those that are there
abbrev pub write_pipe : ℕ → Option Pipe → List ℕ → ℕ → Files → Result (Done ℕ) FileFault
write_pipe number place bytes flags files = put_by (takes_by place flags (length bytes)) number place bytes files

-- a file with these bytes at an offset; a directory isn't written
abbrev pub file_written : ℕ → ℕ → List ℕ → Tree → Result Tree Errno
file_written inode offset bytes tree = by_kind (kind_in tree inode)
  where
    by_kind : Option Kind → Result Tree Errno
    by_kind None = Err EBADF
    by_kind (Some Dir) = Err EBADF
    by_kind (Some File) = written_to inode offset bytes tree

abbrev pub write_node : ℕ → ℕ → Description → List ℕ → Files → Result (Done ℕ) Errno
write_node inode number it bytes files =
    and_then (file_written inode (place_of it.flags inode it.offset files.tree) bytes files.tree)
    (λ tree. Ok (done (moved number (past it.offset (place_of it.flags inode it.offset files.tree) (length bytes)) it (with_tree tree files)) (length bytes)))

abbrev pub write_target : Target → ℕ → Description → List ℕ → Files → Result (Done ℕ) FileFault
write_target (targets.Node inode) number it bytes files = faulted (write_node inode number it bytes files)
write_target (targets.Device device) number it bytes files =
    Ok (done (with_devices (with_output device bytes files.devices) files) (length bytes))
write_target (targets.Pipe pipe writes) number it bytes files = write_pipe pipe (at files.pipes pipe) bytes it.flags files

unfoldable pub write : ℕ → List ℕ → Files → Result (Done ℕ) FileFault
write fd bytes files =
    with_open fd files (stopped EBADF)
    (λ number it. if not (can_write it.flags) then stopped EBADF else write_target it.target number it bytes files)

abbrev pub write_target_at : Target → ℕ → ℕ → List ℕ → Files → Result (Done ℕ) Errno
write_target_at (targets.Node inode) flags offset bytes files =
    and_then (file_written inode (place_of flags inode offset files.tree) bytes files.tree) (λ tree. Ok (done (with_tree tree files) (length bytes)))
write_target_at (targets.Device device) flags offset bytes files = Err ESPIPE
write_target_at (targets.Pipe pipe writes) flags offset bytes files = Err ESPIPE

-- the same at an offset that is given; what appends goes to the end all the same
unfoldable pub write_at : ℕ → ℕ → List ℕ → Files → Result (Done ℕ) Errno
write_at fd offset bytes files =
    with_open fd files (Err EBADF)
    (λ number it. if not (can_write it.flags) then Err EBADF else write_target_at it.target it.flags offset bytes files)

-- ---- offsets and sizes

-- an offset from 0 on, up to 2^63 - 1
abbrev pub lawful : ℤ → Result ℕ Errno
lawful (pos offset) = if nat_lt offset (2 ^ 63) then Ok offset else Err EINVAL
lawful (negsuc n) = Err EINVAL

-- what an offset is counted from: the start, where it stands, or the end
abbrev pub counted_from : ℕ → ℕ → Description → Tree → Result ℕ Errno
counted_from whence inode it tree =
    if whence == 0 then Ok 0
    else if whence == 1 then Ok it.offset
    else if whence == 2 then Ok (size_of inode tree)
    else Err EINVAL

abbrev pub sought : Target → ℕ → Description → ℤ → ℕ → Files → Result (Done ℕ) Errno
sought (targets.Device device) number it offset whence files = Err ESPIPE
sought (targets.Pipe pipe writes) number it offset whence files = Err ESPIPE
sought (targets.Node inode) number it offset whence files =
    and_then (counted_from whence inode it files.tree)
    (λ from. and_then (lawful (pos from +ℤ offset)) (λ to. Ok (done (moved number to it files) to)))

unfoldable pub seek : ℕ → ℤ → ℕ → Files → Result (Done ℕ) Errno
seek fd offset whence files =
    if nat_lt 2 whence then Err EINVAL
    else with_open fd files (Err EBADF) (λ number it. sought it.target number it offset whence files)

abbrev pub cut_kind : Option Kind → ℕ → ℕ → ℕ → Files → Result Files Errno
cut_kind None inode flags size files = Err EINVAL
cut_kind (Some Dir) inode flags size files = Err EINVAL
cut_kind (Some File) inode flags size files =
    if not (can_write flags) then Err EINVAL
    else and_then (truncated inode size files.tree) (λ tree. Ok (with_tree tree files))

abbrev pub cut : Target → ℕ → ℕ → Files → Result Files Errno
cut (targets.Device device) flags size files = Err EINVAL
cut (targets.Pipe pipe writes) flags size files = Err EINVAL
cut (targets.Node inode) flags size files = cut_kind (kind_in files.tree inode) inode flags size files

-- a file that is open for writing is cut, or filled up with zeros
unfoldable pub truncate : ℕ → ℕ → Files → Result Files Errno
truncate fd size files = with_open fd files (Err EBADF) (λ number it. cut it.target it.flags size files)
