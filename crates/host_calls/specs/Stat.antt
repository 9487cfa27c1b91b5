-- What is told of a file.
-- Source: stat(2), and `struct stat` of Linux's generic ABI. The modes, that a device and a pipe have inode 0, and that a
-- directory has size 0, are the project's own.
use Rattle.std.specs.Prelude.{ℕ, ◌+◌, ◌/◌, ◌==◌, not, ◌&&◌, if◌then◌else◌, pos, ℤ, List, [], ◌∷◌, ◌++◌, length, replicate, is_some, bit_and, Result, Ok, Err, Option, Some, None}
use Rattle.std.specs.Int.{w64, cast_signed}
use Rattle.byteorder.specs.Endian.{little_bytes}
use Rattle.file_tree.specs.declared.errno.Errno.{Errno}
use Rattle.file_tree.specs.declared.errno.Errno.TheVariants.{EBADF, EFAULT, EINVAL}
use Rattle.file_tree.specs.declared.kind.Kind.{Kind}
use Rattle.file_tree.specs.declared.kind.Kind.TheVariants.{Dir, File}
use Rattle.file_tree.specs.Nodes.{Tree, file_bytes, kind_in}
use Rattle.file_table.specs.declared.state.Opened.{Opened}
use Rattle.file_table.specs.Descriptors.{what}
use Rattle.file_table.specs.Paths.{natural}
use Rattle.file_table.specs.State.{Files}
use Rattle.guest_pages.specs.Faults.{first_fault, writable}
use Rattle.host_calls.specs.declared.stat.Status.{Status}
use Rattle.host_calls.specs.Answers.{Answered, Refusal, refusal, refuses, stored, unless}
use Rattle.host_calls.specs.Paths.{PathText, led_to, path_at, path_refusals}
use Rattle.host_calls.specs.Shared.{Shared}

-- by offset: inode at 8, mode at 16, one link at 20, user and group 1000 at 24 and 28, size at 48, blocks of 4096 bytes at 56, and
-- how many of 512 bytes at 64
unfoldable pub status_bytes : Status → List ℕ
status_bytes status =
    replicate 8 0 ++ little_bytes 8 status.inode ++ little_bytes 4 status.mode ++ little_bytes 4 1 ++ little_bytes 4 1000
    ++ little_bytes 4 1000 ++ replicate 16 0 ++ little_bytes 8 status.size ++ little_bytes 8 4096
    ++ little_bytes 8 ((status.size + 511) / 512) ++ replicate 56 0

-- a file that its user writes and all read, and a directory
abbrev pub mode_of : Option Kind → ℕ
mode_of None = 0
mode_of (Some File) = 0x81A4
mode_of (Some Dir) = 0x41ED

abbrev pub status_in : ℕ → Tree → Status
status_in inode tree = record { inode = inode; mode = mode_of (kind_in tree inode); size = length (file_bytes tree.nodes inode) }

-- a device of characters
abbrev pub device_status : Status
device_status = record { inode = 0; mode = 0x2190; size = 0 }

-- a pipe that its user reads and writes
abbrev pub pipe_status : Status
pipe_status = record { inode = 0; mode = 0x1180; size = 0 }

-- of a file or a directory, else of a pipe, else of a device
abbrev pub status_by : Option ℕ → Option ℕ → Tree → Status
status_by (Some inode) pipe tree = status_in inode tree
status_by None (Some pipe) tree = pipe_status
status_by None None tree = device_status

-- of what a descriptor is open for
abbrev pub opened_status : Option Opened → Files → Result Status Errno
opened_status None files = Err EBADF
opened_status (Some opened) files = Ok (status_by opened.node opened.pipe files.tree)

abbrev pub told : ℕ → ℕ → Result Status Errno → Shared → Answered
told thread at (Err errno) shared = refuses errno shared
told thread at (Ok status) shared = stored thread at (status_bytes status) (pos 0) shared

-- fstat(2)
unfoldable pub fstat : ℕ → ℕ → ℕ → Shared → Answered
fstat thread fd at shared = told thread at (opened_status (what fd shared.files) shared.files) shared

-- ---- newfstatat(2)

-- AT_SYMLINK_NOFOLLOW 0x100, AT_NO_AUTOMOUNT 0x800, AT_EMPTY_PATH 0x1000
abbrev pub stat_refusals : ℕ → List Refusal
stat_refusals flags = refusal (not (bit_and flags 0x1900 == flags)) EINVAL ∷ []

abbrev pub numbered_status : Option ℕ → Files → Result Status Errno
numbered_status None files = Ok (status_in 1 files.tree)
numbered_status (Some fd) files = opened_status (what fd files) files

-- of what a path leads to
abbrev pub walked_status : Result ℕ Errno → Files → Result Status Errno
walked_status (Err errno) files = Err errno
walked_status (Ok inode) files = Ok (status_in inode files.tree)

-- an empty path means the descriptor itself, where that is asked for
abbrev pub path_status : ℤ → List ℕ → ℕ → Files → Result Status Errno
path_status dir path flags files =
    if (length path == 0) && (bit_and flags 0x1000 == 0x1000)
    then numbered_status (natural dir) files
    else walked_status (led_to dir path files) files

-- what is told has 128 bytes
abbrev pub room_refusals : ℕ → Shared → List Refusal
room_refusals into shared = refusal (is_some (first_fault writable shared.memory into 128)) EFAULT ∷ []

abbrev pub stat_by : ℕ → ℤ → PathText → ℕ → ℕ → Shared → Answered
stat_by thread dir path into flags shared =
    unless (path_refusals dir path shared.files) shared
    (unless (room_refusals into shared) shared
    (told thread into (path_status dir path.bytes flags shared.files) shared))

unfoldable pub newfstatat : ℕ → ℕ → ℕ → ℕ → ℕ → Shared → Answered
newfstatat thread dir at into flags shared =
    unless (stat_refusals flags) shared (stat_by thread (cast_signed w64 dir) (path_at shared.memory at) into flags shared)
