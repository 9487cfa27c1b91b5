-- What a thread's system call does at once: a call that is answered, or the end of the process. Its number stands in a7
-- (x17), its arguments in a0 to a5 (x10 to x15).
-- Source: syscall(2), exit_group(2), _exit(2).
use Rattle.std.specs.Prelude.{ℕ, ◌%◌, ◌==◌, ◌||◌, Bool, true, false, ℤ, List, [], ◌∷◌, Option, Some, None}
use Rattle.std.specs.Int.{w64, cast_unsigned}
use Rattle.std.specs.Option.{option_map}
use Rattle.call_table.specs.declared.call.Call.{Call}
use Rattle.call_table.specs.declared.call.CallNo.{CallNo}
use Rattle.call_table.specs.declared.call.CallNo.TheVariants.{Exit, ExitGroup}
use Rattle.call_table.specs.Table.{call_of, number_of}
use Rattle.file_tree.specs.declared.errno.Errno.TheVariants.{ENOSYS}
use Rattle.isa_exec.specs.Registers.{Registers, behind, going_on_at, register, with_register}
use Rattle.futex_table.specs.Waiters.{left}
use Rattle.host_calls.specs.Answers.{Answered, answers, argument, ending, refuses, unreserved}
use Rattle.host_calls.specs.Shared.{Shared}
use Rattle.host_waits.specs.declared.beginning.Begun.{Begun}
use Rattle.host_waits.specs.declared.beginning.Begun.TheVariants.{Answer, Waits}
use Rattle.host_waits.specs.Calls.{entered}
use Rattle.host_waits.specs.Futexes.{with_futexes}
use Rattle.guest_core.specs.declared.calls.CallOutcome.{CallOutcome}
use Rattle.guest_core.specs.declared.calls.CallOutcome.TheVariants.{Answers, Ends}
use Rattle.guest_core.specs.declared.ends.End.TheVariants as ends

-- a call's outcome, and what the system has afterwards
pub record Called : Type 0 where
  pub shared : Shared
  pub outcome : CallOutcome

abbrev pub arguments : Registers → List ℕ
arguments regs =
    register regs 10 ∷ register regs 11 ∷ register regs 12 ∷ register regs 13 ∷ register regs 14 ∷ register regs 15 ∷ []

-- the call that the registers ask for, none where there is none of that number
unfoldable pub asked : Registers → Option Call
asked regs = option_map (λ call. record { no = call; args = arguments regs }) (call_of (register regs 17))

-- a call of the core's own, which ends the process: that of all threads, or of the one that there is
abbrev pub ends_process : CallNo → Bool
ends_process call = number_of call == number_of ExitGroup || number_of call == number_of Exit

abbrev pub answering : Answered → Called
answering answered = record { shared = answered.shared; outcome = Answers answered.answer }

-- exit_group(2), _exit(2)
abbrev pub exit_group : ℕ → ℕ → Shared → Called
exit_group thread code shared = record { shared = unreserved thread shared; outcome = Ends (ends.Exit (code % 256)) }

-- a call that would wait answers ENOSYS and waits nowhere, until threads wait
abbrev pub at_once_by : ℕ → Begun → Shared → Answered
at_once_by thread (Answer answer) shared = answers answer shared
at_once_by thread (Waits wait) shared = refuses ENOSYS (with_futexes (left thread shared.futexes) shared)

unfoldable pub at_once : ℕ → Call → Shared → Answered
at_once thread call shared = at_once_by thread (entered thread call shared).begun (entered thread call shared).shared

abbrev pub made_by : Bool → ℕ → Call → Shared → Called
made_by true thread call shared = exit_group thread (argument 0 call.args) shared
made_by false thread call shared = answering (at_once thread call shared)

abbrev pub called_as : Option Call → ℕ → Shared → Called
called_as None thread shared = answering (ending thread (refuses ENOSYS shared))
called_as (Some call) thread shared = made_by (ends_process call.no) thread call shared

-- the call of a thread with these registers
unfoldable pub called : ℕ → Registers → Shared → Called
called thread regs shared = called_as (asked regs) thread shared

-- an answer stands in a0, and pc behind the ecall
unfoldable pub answered : ℤ → Registers → Registers
answered answer regs = going_on_at (behind 4 regs) (with_register 10 (cast_unsigned w64 answer) regs)
