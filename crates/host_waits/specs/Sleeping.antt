-- Calls that sleep.
-- Source: nanosleep(2), clock_nanosleep(2). That the clocks 0 and 1 alone are there, and are the same, is the project's own.
use Rattle.std.specs.Prelude.{ℕ, ◌%◌, ◌==◌, not, ◌||◌, if◌then◌else◌, pos, List, [], ◌∷◌, Some}
use Rattle.call_table.specs.declared.call.Call.{Call}
use Rattle.file_tree.specs.declared.errno.Errno.TheVariants.{EFAULT, EINVAL}
use Rattle.host_calls.specs.Answers.{Refusal, answers, argument, refusal}
use Rattle.host_calls.specs.Shared.{Shared}
use Rattle.host_waits.specs.declared.wait.WaitKind.TheVariants.{Sleep}
use Rattle.host_waits.specs.Begun.{Entered, answering, entered_unless, waiting}
use Rattle.host_waits.specs.Times.{is_bad, is_wrong, time_after, time_at}
use Rattle.host_waits.specs.Waits.{for_time, is_past}

-- up to a deadline
abbrev pub sleeps_up_to : ℕ → Call → Shared → Entered
sleeps_up_to deadline call shared =
    if is_past shared.clock (Some deadline) then answering (answers (pos 0) shared)
    else waiting (for_time Sleep call (Some deadline) []) shared

abbrev pub sleep_refusals : ℕ → Shared → List Refusal
sleep_refusals at shared = refusal (is_bad at shared.memory) EFAULT ∷ refusal (is_wrong (time_at at shared.memory)) EINVAL ∷ []

-- for the time at an address, from a start on
abbrev pub sleeps : ℕ → ℕ → Call → Shared → Entered
sleeps start at call shared =
    entered_unless (sleep_refusals at shared) shared (sleeps_up_to (time_after start (time_at at shared.memory)) call shared)

-- nanosleep(2)
unfoldable pub nanosleep : Call → Shared → Entered
nanosleep call shared = sleeps shared.clock (argument 0 call.args) call shared

abbrev pub clock_refusals : ℕ → List Refusal
clock_refusals clock = refusal (not (clock == 0 || clock == 1)) EINVAL ∷ []

-- TIMER_ABSTIME: the time is one of the clock
abbrev pub start_by : ℕ → ℕ → ℕ
start_by flags clock = if flags % 2 == 1 then 0 else clock

-- clock_nanosleep(2)
unfoldable pub clock_nanosleep : Call → Shared → Entered
clock_nanosleep call shared =
    entered_unless (clock_refusals (argument 0 call.args)) shared
    (sleeps (start_by (argument 1 call.args) shared.clock) (argument 2 call.args) call shared)
