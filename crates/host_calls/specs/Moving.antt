-- Calls that move bytes of files, and offsets.
-- Source: read(2), readv(2), pread(2), write(2), writev(2), pwrite(2), lseek(2), ftruncate(2), getdents64(2). That the
-- descriptor is looked at before the memory is the project's own.
use Rattle.std.specs.Prelude.{ℕ, ◌^◌, min, nat_le, Bool, false, not, pos, List, [], ◌∷◌, length, is_some, Result, Ok, Err, Option, Some, None}
use Rattle.std.specs.Int.{w64, cast_signed}
use Rattle.file_tree.specs.declared.errno.Errno.{Errno}
use Rattle.file_tree.specs.declared.errno.Errno.TheVariants.{EBADF, EFAULT, EINVAL}
use Rattle.file_table.specs.declared.fault.FileFault.{FileFault}
use Rattle.file_table.specs.declared.state.Opened.{Opened}
use Rattle.file_table.specs.Descriptors.{what}
use Rattle.file_table.specs.Due.{Done}
use Rattle.file_table.specs.Entries.{list as lists}
use Rattle.file_table.specs.Flags.{can_read, can_write}
use Rattle.file_table.specs.Moving.{read as reads, read_at as reads_at, seek as seeks, truncate as truncates, write as writes, write_at as writes_at}
use Rattle.file_table.specs.State.{Files}
use Rattle.guest_pages.specs.Faults.{first_fault, readable, writable}
use Rattle.host_calls.specs.declared.pieces.Piece.{Piece}
use Rattle.host_calls.specs.Answers.{Answered, Refusal, refusal, refuses, unless}
use Rattle.host_calls.specs.Files.{answered_by, errno_of, left_by, moved_by, with_files}
use Rattle.host_calls.specs.Pieces.{any_bad, gathered, most_bytes, one_piece, put_in, scattered, stored_of, total, with_stored}
use Rattle.host_calls.specs.Shared.{Shared}

abbrev pub allows_by : Option Opened → (ℕ → Bool) → Bool
allows_by None test = false
allows_by (Some opened) test = test opened.flags

-- the descriptor is open for reading, for writing
abbrev pub is_readable : ℕ → Files → Bool
is_readable fd files = allows_by (what fd files) can_read

abbrev pub is_writable : ℕ → Files → Bool
is_writable fd files = allows_by (what fd files) can_write

-- an offset that is negative as a number of 64 bits with a sign
abbrev pub is_negative : ℕ → Bool
is_negative offset = nat_le (2 ^ 63) offset

-- ---- reading

abbrev pub reading_refusals : ℕ → List Piece → Shared → List Refusal
reading_refusals fd pieces shared =
    refusal (not (is_readable fd shared.files)) EBADF ∷ refusal (any_bad writable shared.memory pieces) EFAULT ∷ []

-- the bytes that were read go into the pieces
abbrev pub taken : ℕ → List Piece → Result (Done (List ℕ)) FileFault → Shared → Answered
taken thread pieces (Err fault) shared = refuses (errno_of fault) shared
taken thread pieces (Ok done) shared =
    record {
      shared = with_stored (scattered thread pieces done.answer (stored_of shared)) (with_files done.files shared);
      answer = pos (length done.answer);
    }

-- a read into pieces, which are cut already
unfoldable pub read_into : ℕ → ℕ → List Piece → Shared → Answered
read_into thread fd pieces shared =
    unless (reading_refusals fd pieces shared) shared (taken thread pieces (reads fd (total pieces) shared.files) shared)

-- the same at an offset that is given
abbrev pub taken_at : ℕ → List Piece → Result (List ℕ) Errno → Shared → Answered
taken_at thread pieces (Err errno) shared = refuses errno shared
taken_at thread pieces (Ok bytes) shared =
    record { shared = with_stored (scattered thread pieces bytes (stored_of shared)) shared; answer = pos (length bytes) }

-- pread(2)
abbrev pub offset_refusals : ℕ → List Refusal
offset_refusals offset = refusal (is_negative offset) EINVAL ∷ []

unfoldable pub pread64 : ℕ → ℕ → ℕ → ℕ → ℕ → Shared → Answered
pread64 thread fd at wish offset shared =
    unless (offset_refusals offset) shared
    (unless (reading_refusals fd (one_piece at wish) shared) shared
    (taken_at thread (one_piece at wish) (reads_at fd offset (total (one_piece at wish)) shared.files) shared))

-- ---- writing

abbrev pub writing_refusals : ℕ → List Piece → Shared → List Refusal
writing_refusals fd pieces shared =
    refusal (not (is_writable fd shared.files)) EBADF ∷ refusal (any_bad readable shared.memory pieces) EFAULT ∷ []

-- a write of what stands in pieces, which are cut already
unfoldable pub write_from : ℕ → List Piece → Shared → Answered
write_from fd pieces shared =
    unless (writing_refusals fd pieces shared) shared (moved_by (writes fd (gathered shared.memory pieces) shared.files) shared)

-- pwrite(2)
unfoldable pub pwrite64 : ℕ → ℕ → ℕ → ℕ → Shared → Answered
pwrite64 fd at wish offset shared =
    unless (offset_refusals offset) shared
    (unless (writing_refusals fd (one_piece at wish) shared) shared
    (answered_by (writes_at fd offset (gathered shared.memory (one_piece at wish)) shared.files) shared))

-- ---- offsets and sizes

-- lseek(2)
unfoldable pub lseek : ℕ → ℕ → ℕ → Shared → Answered
lseek fd offset whence shared = answered_by (seeks fd (cast_signed w64 offset) whence shared.files) shared

-- ftruncate(2)
unfoldable pub ftruncate : ℕ → ℕ → Shared → Answered
ftruncate fd size shared = unless (offset_refusals size) shared (left_by (truncates fd size shared.files) shared)

-- ---- the entries of a directory

abbrev pub listing_refusals : ℕ → ℕ → ℕ → Shared → List Refusal
listing_refusals fd at room shared =
    refusal (not (is_some (what fd shared.files))) EBADF
    ∷ refusal (is_some (first_fault writable shared.memory at room)) EFAULT
    ∷ []

abbrev pub told_entries : ℕ → ℕ → Result (Done (List ℕ)) Errno → Shared → Answered
told_entries thread at (Err errno) shared = refuses errno shared
told_entries thread at (Ok done) shared =
    record {
      shared = with_stored (put_in thread at done.answer (stored_of shared)) (with_files done.files shared);
      answer = pos (length done.answer);
    }

-- getdents64(2)
unfoldable pub getdents64 : ℕ → ℕ → ℕ → ℕ → Shared → Answered
getdents64 thread fd at wish shared =
    let room = min wish most_bytes in
    unless (listing_refusals fd at room shared) shared (told_entries thread at (lists fd room shared.files) shared)
