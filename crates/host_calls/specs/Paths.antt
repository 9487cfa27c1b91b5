-- Calls on paths.
-- Source: path_resolution(7), openat(2), mkdirat(2), unlinkat(2), readlinkat(2). That the descriptor of a relative path goes
-- before an address that can't be read, and both before the path, is the project's own.
use Rattle.std.specs.Prelude.{ℕ, zero, suc, ◌+◌, nat_lt, ◌==◌, Bool, true, false, not, ◌&&◌, ◌||◌, if◌then◌else◌, ℤ, List, [], ◌∷◌, length, take, is_some, Result, Ok, Err}
use Rattle.std.specs.Int.{w64, cast_signed}
use Rattle.std.specs.List.{position_or_len}
use Rattle.file_tree.specs.declared.errno.Errno.{Errno}
use Rattle.file_tree.specs.declared.errno.Errno.TheVariants.{EBADF, EFAULT, EINVAL}
use Rattle.file_tree.specs.Walk.{walked}
use Rattle.file_table.specs.Due.{and_then}
use Rattle.file_table.specs.Flags.{are_wrong}
use Rattle.file_table.specs.Opening.{opened}
use Rattle.file_table.specs.Paths.{base, with_dir, without}
use Rattle.file_table.specs.State.{Files}
use Rattle.guest_pages.specs.Faults.{fault_of, readable}
use Rattle.guest_pages.specs.Operations.{byte_of}
use Rattle.guest_pages.specs.Ranges.{Range, cell_at}
use Rattle.host_calls.specs.Answers.{Answered, Refusal, refusal, refuses, unless}
use Rattle.host_calls.specs.Files.{answered_by, left_by}
use Rattle.host_calls.specs.Shared.{Shared}

-- ---- a path in memory

-- the bytes from an address on, at most so many, up to the first that can't be read
unfoldable pub readable_from : ℕ → List Range → ℕ → List ℕ
readable_from zero memory at = []
readable_from (suc room) memory at =
    if is_some (fault_of readable at (cell_at memory at)) then []
    else byte_of (cell_at memory at) ∷ readable_from room memory (at + 1)

-- how many bytes stand in front of the first zero
abbrev pub before_zero : List ℕ → ℕ
before_zero bytes = position_or_len (λ byte. byte == 0) bytes

-- a path: its bytes, and whether one of them can't be read before its zero, or before it is too long
pub record PathText : Type 0 where
  pub bytes : List ℕ
  pub bad : Bool

-- with its zero a path has at most 4,096 bytes
abbrev pub path_in : List ℕ → PathText
path_in bytes = record {
  bytes = take (before_zero bytes) bytes;
  bad = nat_lt (length bytes) 4096 && (before_zero bytes == length bytes);
}

abbrev pub path_at : List Range → ℕ → PathText
path_at memory at = path_in (readable_from 4096 memory at)

-- ---- calls

abbrev pub is_closed : Result ℕ Errno → Bool
is_closed (Ok inode) = false
is_closed (Err EBADF) = true
is_closed (Err errno) = false

-- a directory that isn't open goes before an address that can't be read
abbrev pub path_refusals : ℤ → PathText → Files → List Refusal
path_refusals dir path files =
    refusal (is_closed (base dir path.bytes files)) EBADF ∷ refusal path.bad EFAULT ∷ []

-- mkdirat(2)
abbrev pub mkdir_by : ℤ → PathText → Shared → Answered
mkdir_by dir path shared = unless (path_refusals dir path shared.files) shared (left_by (with_dir dir path.bytes shared.files) shared)

unfoldable pub mkdirat : ℕ → ℕ → Shared → Answered
mkdirat dir at shared = mkdir_by (cast_signed w64 dir) (path_at shared.memory at) shared

-- unlinkat(2): of flags AT_REMOVEDIR alone
abbrev pub unlink_refusals : ℕ → List Refusal
unlink_refusals flags = refusal (not (flags == 0 || flags == 0x200)) EINVAL ∷ []

abbrev pub unlink_by : ℤ → PathText → ℕ → Shared → Answered
unlink_by dir path flags shared =
    unless (path_refusals dir path shared.files) shared (left_by (without dir path.bytes (flags == 0x200) shared.files) shared)

unfoldable pub unlinkat : ℕ → ℕ → ℕ → Shared → Answered
unlinkat dir at flags shared =
    unless (unlink_refusals flags) shared (unlink_by (cast_signed w64 dir) (path_at shared.memory at) flags shared)

-- openat(2)
abbrev pub open_refusals : ℕ → List Refusal
open_refusals flags = refusal (are_wrong flags) EINVAL ∷ []

abbrev pub open_by : ℤ → PathText → ℕ → Shared → Answered
open_by dir path flags shared =
    unless (path_refusals dir path shared.files) shared (answered_by (opened dir path.bytes flags shared.files) shared)

unfoldable pub openat : ℕ → ℕ → ℕ → Shared → Answered
openat dir at flags shared =
    unless (open_refusals flags) shared (open_by (cast_signed w64 dir) (path_at shared.memory at) flags shared)

-- what a path leads to
abbrev pub led_to : ℤ → List ℕ → Files → Result ℕ Errno
led_to dir path files = and_then (base dir path files) (λ from. walked files.tree from path)

-- readlinkat(2): what is there is no link
abbrev pub no_link : Result ℕ Errno → Errno
no_link (Ok inode) = EINVAL
no_link (Err errno) = errno

abbrev pub readlink_by : ℤ → PathText → Shared → Answered
readlink_by dir path shared =
    unless (path_refusals dir path shared.files) shared (refuses (no_link (led_to dir path.bytes shared.files)) shared)

unfoldable pub readlinkat : ℕ → ℕ → Shared → Answered
readlinkat dir at shared = readlink_by (cast_signed w64 dir) (path_at shared.memory at) shared
