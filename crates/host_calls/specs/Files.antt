-- What calls on files come to: what the table of files answers and leaves is what the system answers and has.
-- Source: intro(2): a refusal is the negated number of its error.
use Rattle.std.specs.Prelude.{ℕ, pos, Result, Ok, Err, Option, Some, None}
use Rattle.file_tree.specs.declared.errno.Errno.{Errno}
use Rattle.file_tree.specs.declared.errno.Errno.TheVariants.{EAGAIN, EBADF, ENOMEM}
use Rattle.file_table.specs.declared.fault.FileFault.{FileFault}
use Rattle.file_table.specs.declared.fault.FileFault.TheVariants as faults
use Rattle.file_table.specs.declared.state.Opened.{Opened}
use Rattle.file_table.specs.Due.{Done}
use Rattle.file_table.specs.State.{Files}
use Rattle.host_calls.specs.Answers.{Answered, answers, refuses}
use Rattle.host_calls.specs.Shared.{Shared}

abbrev pub with_files : Files → Shared → Shared
with_files files shared = record shared { files = files }

-- the answer of the table is that of the call
abbrev pub answered_by : Result (Done ℕ) Errno → Shared → Answered
answered_by (Err errno) shared = refuses errno shared
answered_by (Ok done) shared = answers (pos done.answer) (with_files done.files shared)

-- the call answers 0, whatever the table tells
abbrev pub done_by : {A : Type 0} → Result (Done A) Errno → Shared → Answered
done_by (Err errno) shared = refuses errno shared
done_by (Ok done) shared = answers (pos 0) (with_files done.files shared)

abbrev pub left_by : Result Files Errno → Shared → Answered
left_by (Err errno) shared = refuses errno shared
left_by (Ok files) shared = answers (pos 0) (with_files files shared)

-- what is told of a descriptor that is open
abbrev pub told_of : Option Opened → (Opened → ℕ) → Shared → Answered
told_of None tell shared = refuses EBADF shared
told_of (Some opened) tell shared = answers (pos (tell opened)) shared

-- a call that would wait moves nothing now
abbrev pub errno_of : FileFault → Errno
errno_of (faults.Errno errno) = errno
errno_of faults.Block = EAGAIN
errno_of faults.Memory = ENOMEM

-- what the table answers to a call that may wait
abbrev pub moved_by : Result (Done ℕ) FileFault → Shared → Answered
moved_by (Err fault) shared = refuses (errno_of fault) shared
moved_by (Ok done) shared = answers (pos done.answer) (with_files done.files shared)
