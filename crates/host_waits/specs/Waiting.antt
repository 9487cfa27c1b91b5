-- The table of waits: when each is ready, and what its call answers then.
-- Source: read(2), write(2), pipe(7), futex(2), nanosleep(2), poll(2).
use Rattle.std.specs.Prelude.{◌≡◌, ℕ, Bool, false, if◌then◌else◌, pos, Option, Some, None}
use Rattle.file_table.specs.Pipes.{room}
use Rattle.host_calls.specs.Answers.{Answered, answers, argument, ending}
use Rattle.host_calls.specs.Moving.{read_into, write_from}
use Rattle.host_calls.specs.Shared.{Shared}
use Rattle.host_waits.specs.declared.beginning.Begun.{Begun}
use Rattle.host_waits.specs.declared.beginning.Begun.TheVariants.{Answer, Waits}
use Rattle.host_waits.specs.declared.wait.WaitKind.{WaitKind}
use Rattle.host_waits.specs.declared.wait.WaitKind.TheVariants.{Read, Write, Futex, Sleep, Poll}
use Rattle.host_waits.specs.Begun.{Entered}
use Rattle.host_waits.specs.Futexes.{is_woken_now, wakes_up}
use Rattle.host_waits.specs.Moving.{can_read_now, can_write_now, goes_in_part, part_written, wait_past, with_moved}
use Rattle.host_waits.specs.Polling.{is_polled_now, tells}
use Rattle.host_waits.specs.Waits.{Wait, descriptor, is_past}

abbrev pub ready_by : WaitKind → ℕ → Wait → Shared → Bool
ready_by Read thread wait shared = can_read_now wait shared
ready_by Write thread wait shared = can_write_now wait shared
ready_by Futex thread wait shared = is_woken_now thread wait shared
ready_by Sleep thread wait shared = is_past shared.clock wait.deadline
ready_by Poll thread wait shared = is_polled_now wait shared

abbrev pub done_by : WaitKind → ℕ → Wait → Shared → Answered
done_by Read thread wait shared = read_into thread (descriptor wait) wait.pieces shared
done_by Write thread wait shared = with_moved wait.moved (write_from (descriptor wait) wait.pieces shared)
done_by Futex thread wait shared = wakes_up thread shared
done_by Sleep thread wait shared = answers (pos 0) shared
done_by Poll thread wait shared = tells thread (argument 0 wait.call.args) wait.polled shared

-- the wait of a thread is over
unfoldable pub is_ready : ℕ → Wait → Shared → Bool
is_ready thread wait shared = ready_by wait.kind thread wait shared

-- what its call comes to
unfoldable pub finished : ℕ → Wait → Shared → Answered
finished thread wait shared = ending thread (done_by wait.kind thread wait shared)

-- a call that waits isn't ready
abbrev pub UnreadyBy : Begun → ℕ → Shared → Type 0
UnreadyBy (Answer answer) thread shared = Unit {0}
UnreadyBy (Waits wait) thread shared = is_ready thread wait shared ≡ false

abbrev pub IsUnready : ℕ → Entered → Type 0
IsUnready thread entered = UnreadyBy entered.begun thread entered.shared

-- a write that isn't ready goes on in part
abbrev pub shifts_by : WaitKind → Wait → Shared → Bool
shifts_by Read wait shared = false
shifts_by Write wait shared = goes_in_part wait shared
shifts_by Futex wait shared = false
shifts_by Sleep wait shared = false
shifts_by Poll wait shared = false

-- what is there after a part went
pub record Shifted : Type 0 where
  pub shared : Shared
  pub wait : Wait

-- none where nothing goes
unfoldable pub shifted : ℕ → Wait → Shared → Option Shifted
shifted thread wait shared =
    if shifts_by wait.kind wait shared
    then Some (record { shared = (ending thread (part_written wait shared)).shared; wait = wait_past (room (descriptor wait) shared.files) wait })
    else None
