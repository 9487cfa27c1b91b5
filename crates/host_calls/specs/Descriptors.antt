-- Calls that make, change and close descriptors.
-- Source: dup(2), fcntl(2), ioctl(2), close(2), pipe2(2). That other flags and commands are refused, and that no ioctl is there, is the
-- project's own.
use Rattle.std.specs.Prelude.{ℕ, ◌%◌, ◌==◌, false, true, not, ◌||◌, if◌then◌else◌, is_some, pos, List, [], ◌∷◌, ◌++◌, Result, Ok, Err}
use Rattle.byteorder.specs.Endian.{little_bytes}
use Rattle.file_tree.specs.declared.errno.Errno.{Errno}
use Rattle.file_tree.specs.declared.errno.Errno.TheVariants.{EBADF, EFAULT, EINVAL, ENOTTY}
use Rattle.file_table.specs.declared.state.Opened.{Opened}
use Rattle.file_table.specs.Descriptors.{close as closes, dup as dups, dup_to as dups_to, marked, what, with_flags}
use Rattle.file_table.specs.Due.{Done}
use Rattle.file_table.specs.Flags.{kept}
use Rattle.file_table.specs.Pipes.{are_foreign, piped}
use Rattle.guest_pages.specs.Faults.{first_fault, writable}
use Rattle.host_calls.specs.Answers.{Answered, Refusal, refusal, refuses, unless}
use Rattle.host_calls.specs.Files.{answered_by, done_by, left_by, told_of, with_files}
use Rattle.host_calls.specs.Pieces.{put_in, stored_of, with_stored}
use Rattle.host_calls.specs.Shared.{Shared}

-- dup(2)
unfoldable pub dup : ℕ → Shared → Answered
dup fd shared = answered_by (dups fd 0 false shared.files) shared

-- dup3(2): of flags O_CLOEXEC alone
abbrev pub dup3_refusals : ℕ → List Refusal
dup3_refusals flags = refusal (not (flags == 0 || flags == 0x80000)) EINVAL ∷ []

unfoldable pub dup3 : ℕ → ℕ → ℕ → Shared → Answered
dup3 fd to flags shared = unless (dup3_refusals flags) shared (answered_by (dups_to fd to (flags == 0x80000) shared.files) shared)

-- FD_CLOEXEC
abbrev pub mark : Opened → ℕ
mark opened = if opened.close_on_exec then 1 else 0

-- fcntl(2): F_DUPFD 0, F_GETFD 1, F_SETFD 2, F_GETFL 3, F_SETFL 4, F_DUPFD_CLOEXEC 1030
unfoldable pub fcntl : ℕ → ℕ → ℕ → Shared → Answered
fcntl fd command argument shared =
    if command == 0 then answered_by (dups fd argument false shared.files) shared
    else if command == 1030 then answered_by (dups fd argument true shared.files) shared
    else if command == 1 then told_of (what fd shared.files) mark shared
    else if command == 2 then left_by (marked fd (argument % 2 == 1) shared.files) shared
    else if command == 3 then told_of (what fd shared.files) (λ opened. kept opened.flags) shared
    else if command == 4 then left_by (with_flags fd argument shared.files) shared
    else refuses EINVAL shared

-- ioctl(2): no descriptor is a terminal
unfoldable pub ioctl : ℕ → Shared → Answered
ioctl fd shared = if is_some (what fd shared.files) then refuses ENOTTY shared else refuses EBADF shared

-- close(2)
unfoldable pub close : ℕ → Shared → Answered
close fd shared = done_by (closes fd shared.files) shared

-- ---- pipe2(2)

-- two words, that of the reading end first
unfoldable pub end_bytes : ℕ × ℕ → List ℕ
end_bytes (reader, writer) = little_bytes 4 reader ++ little_bytes 4 writer

abbrev pub pipe_refusals : ℕ → ℕ → Shared → List Refusal
pipe_refusals at flags shared =
    refusal (are_foreign flags) EINVAL ∷ refusal (is_some (first_fault writable shared.memory at 8)) EFAULT ∷ []

abbrev pub told_ends : ℕ → ℕ → Result (Done (ℕ × ℕ)) Errno → Shared → Answered
told_ends thread at (Err errno) shared = refuses errno shared
told_ends thread at (Ok done) shared =
    record { shared = with_stored (put_in thread at (end_bytes done.answer) (stored_of shared)) (with_files done.files shared); answer = pos 0 }

unfoldable pub pipe2 : ℕ → ℕ → ℕ → Shared → Answered
pipe2 thread at flags shared = unless (pipe_refusals at flags shared) shared (told_ends thread at (piped flags shared.files) shared)
