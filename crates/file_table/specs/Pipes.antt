-- Pipes that are made, what comes in at devices, and what is ready to be read or written.
-- Source: pipe(2), pipe(7), poll(2). That a device that has ended can be read is poll(2)'s end of file; that it can always be
-- written, and where its bytes come from, is the project's own.
use Rattle.std.specs.Prelude.{ℕ, ◌+◌, ◌==◌, nat_lt, Bool, true, false, not, ◌||◌, if◌then◌else◌, List, [], ◌++◌, length, get_or, set, bit_or, Option, Some, None, Result, Ok, Err}
use Rattle.file_tree.specs.declared.errno.Errno.{Errno}
use Rattle.file_tree.specs.declared.errno.Errno.TheVariants.{EINVAL, EMFILE}
use Rattle.file_table.specs.declared.state.Device.{Device}
use Rattle.file_table.specs.declared.state.Target.{Target}
use Rattle.file_table.specs.declared.state.Target.TheVariants as targets
use Rattle.file_table.specs.Descriptors.{free_place, no_device}
use Rattle.file_table.specs.Due.{Done, done}
use Rattle.file_table.specs.Moving.{room_in, with_devices}
use Rattle.file_table.specs.Opening.{vacant, with_target}
use Rattle.file_table.specs.State.{Files, Pipe, at, put, with_open}

-- ---- a pipe is made

-- flags other than those of a descriptor that execve closes, and of descriptions that never wait
abbrev pub are_foreign : ℕ → Bool
are_foreign flags = not (bit_or flags 0x80800 == 0x80800)

abbrev pub new_pipe : Pipe
new_pipe = record { bytes = []; reader = true; writer = true }

-- a pipe of the least number that none has
abbrev pub with_new_pipe : Files → Files
with_new_pipe files = record {
  tree = files.tree;
  descriptors = files.descriptors;
  descriptions = files.descriptions;
  devices = files.devices;
  pipes = put (vacant files.pipes) new_pipe files.pipes;
}

-- a descriptor for reading, and one for writing
abbrev pub with_ends : ℕ → ℕ → ℕ → ℕ → Files → Files
with_ends pipe reader writer flags files =
    with_target writer (targets.Pipe pipe true) (flags + 1) (with_target reader (targets.Pipe pipe false) flags files)

abbrev pub piped_at : Option ℕ → Option ℕ → ℕ → Files → Result (Done (ℕ × ℕ)) Errno
piped_at (Some reader) (Some writer) flags files = Ok (done (with_ends (vacant files.pipes) reader writer flags (with_new_pipe files)) (reader, writer))
piped_at reader writer flags files = Err EMFILE

abbrev pub next_free : Option ℕ → Files → Option ℕ
next_free None files = None
next_free (Some first) files = free_place (first + 1) files.descriptors

-- the two least free descriptors read from a new pipe, and write to it
unfoldable pub piped : ℕ → Files → Result (Done (ℕ × ℕ)) Errno
piped flags files =
    if are_foreign flags then Err EINVAL
    else piped_at (free_place 0 files.descriptors) (next_free (free_place 0 files.descriptors) files) flags files

-- ---- what comes in at a device

abbrev pub more_input : List ℕ → Device → Device
more_input bytes device =
    record { output = device.output; input = device.input ++ bytes; ended = device.ended || (length bytes == 0); live = device.live }

-- bytes that come in stand behind those that are there; no bytes are the end, behind which none come
abbrev pub fed_device : List ℕ → Device → Device
fed_device bytes device = if device.ended then device else more_input bytes device

unfoldable pub fed : ℕ → List ℕ → Files → Files
fed device bytes files = with_devices (set files.devices device (fed_device bytes (get_or files.devices device no_device))) files

abbrev pub ended_by : Option Device → Bool
ended_by None = false
ended_by (Some device) = device.ended

-- ---- what is ready

-- a bit where something is so
abbrev pub bit_if : ℕ → Bool → ℕ
bit_if bit yes_or_no = if yes_or_no then bit else 0

-- 1 can be read, 4 can be written, 8 nobody reads, 16 nobody writes
abbrev pub ready_pipe : Bool → Option Pipe → ℕ
ready_pipe writes None = 0
ready_pipe true (Some pipe) = bit_if 4 (nat_lt 0 (room_in pipe)) + bit_if 8 (not pipe.reader)
ready_pipe false (Some pipe) = bit_if 1 (not (length pipe.bytes == 0)) + bit_if 16 (not pipe.writer)

abbrev pub ready_device : Device → ℕ
ready_device device = 4 + bit_if 1 (not (length device.input == 0) || device.ended)

abbrev pub ready_target : Target → Files → ℕ
ready_target (targets.Node inode) files = 5
ready_target (targets.Device device) files = ready_device (get_or files.devices device no_device)
ready_target (targets.Pipe pipe writes) files = ready_pipe writes (at files.pipes pipe)

-- the bits of a descriptor; 32 where it isn't open
unfoldable pub readiness : ℕ → Files → ℕ
readiness fd files = with_open fd files 32 (λ number it. ready_target it.target files)

-- how many bytes fit into the pipe that a descriptor writes to
abbrev pub room_by : Option Pipe → ℕ
room_by None = 0
room_by (Some pipe) = room_in pipe

abbrev pub room_at : Target → Files → ℕ
room_at (targets.Node inode) files = 0
room_at (targets.Device device) files = 0
room_at (targets.Pipe pipe false) files = 0
room_at (targets.Pipe pipe true) files = room_by (at files.pipes pipe)

unfoldable pub room : ℕ → Files → ℕ
room fd files = with_open fd files 0 (λ number it. room_at it.target files)
