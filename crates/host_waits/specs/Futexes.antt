-- Threads that wait at words, and those that wake them.
-- Source: futex(2). That a requeue answers how many were woken and moved together is Linux's. That a count that is negative as a
-- number of 32 bits is refused, and that FUTEX_CLOCK_REALTIME goes with FUTEX_WAIT_BITSET alone, is the project's own.
use Rattle.std.specs.Prelude.{ℕ, ◌+◌, ◌-◌, ◌/◌, ◌%◌, ◌^◌, ◌==◌, nat_le, Bool, not, ◌||◌, if◌then◌else◌, is_some, pos, List, [], ◌∷◌, length}
use Rattle.byteorder.specs.Endian.{little_number}
use Rattle.call_table.specs.declared.call.Call.{Call}
use Rattle.file_tree.specs.declared.errno.Errno.TheVariants.{EAGAIN, EFAULT, EINVAL, ENOSYS, ETIMEDOUT}
use Rattle.futex_table.specs.declared.waiter.Waiter.{Waiter}
use Rattle.futex_table.specs.Waiters.{first, holds, is_at, joined, left, others, requeued, unwoken, woken}
use Rattle.guest_pages.specs.Faults.{first_fault, readable}
use Rattle.guest_pages.specs.Operations.{bytes_at}
use Rattle.host_calls.specs.Answers.{Answered, Refusal, answers, argument, refusal, refuses, unless}
use Rattle.host_calls.specs.Shared.{Shared}
use Rattle.host_waits.specs.declared.wait.WaitKind.TheVariants.{Futex}
use Rattle.host_waits.specs.Begun.{Entered, answering, entered_unless, waiting}
use Rattle.host_waits.specs.Times.{is_bad_limit, is_wrong_limit, limit_after}
use Rattle.host_waits.specs.Waits.{Wait, for_time, is_past}

-- values, counts and bits have 32 bits
abbrev pub low : ℕ → ℕ
low argument = argument % 2 ^ 32

abbrev pub is_negative : ℕ → Bool
is_negative count = nat_le (2 ^ 31) count

abbrev pub all_bits : ℕ
all_bits = 0xFFFFFFFF

abbrev pub with_futexes : List Waiter → Shared → Shared
with_futexes futexes shared = record shared { futexes = futexes }

abbrev pub is_misaligned : ℕ → Bool
is_misaligned at = not (at % 4 == 0)

-- the word can't be read, or isn't this
abbrev pub is_bad_word : ℕ → Shared → Bool
is_bad_word at shared = is_some (first_fault readable shared.memory at 4)

abbrev pub differs : ℕ → ℕ → Shared → Bool
differs at value shared = not (little_number 4 (bytes_at shared.memory at 4) == value)

-- ---- FUTEX_WAIT, FUTEX_WAIT_BITSET

abbrev pub wait_refusals : ℕ → ℕ → ℕ → ℕ → Shared → List Refusal
wait_refusals at value bits limit shared =
    refusal (is_misaligned at) EINVAL
    ∷ refusal (bits == 0) EINVAL
    ∷ refusal (is_bad_word at shared) EFAULT
    ∷ refusal (is_bad_limit limit shared.memory) EFAULT
    ∷ refusal (is_wrong_limit limit shared.memory) EINVAL
    ∷ refusal (differs at value shared) EAGAIN
    ∷ []

-- the thread waits there, behind all others
abbrev pub joined_by : ℕ → ℕ → ℕ → Shared → Shared
joined_by thread at bits shared = with_futexes (joined (record { thread = thread; at = at; bits = bits }) shared.futexes) shared

-- it comes to wait unless the deadline is there; one that waits already, which makes no call, doesn't come again
abbrev pub joins : ℕ → ℕ → ℕ → Wait → Shared → Entered
joins thread at bits wait shared =
    if is_past shared.clock wait.deadline then answering (refuses ETIMEDOUT shared)
    else if holds thread shared.futexes then answering (refuses EAGAIN shared)
    else waiting wait (joined_by thread at bits shared)

-- a limit is counted from a start
abbrev pub futex_wait : ℕ → ℕ → ℕ → Call → Shared → Entered
futex_wait thread start bits call shared =
    entered_unless (wait_refusals (argument 0 call.args) (low (argument 2 call.args)) bits (argument 3 call.args) shared) shared
    (joins thread (argument 0 call.args) bits (for_time Futex call (limit_after start (argument 3 call.args) shared.memory) []) shared)

-- a thread is ready that was woken, and one whose deadline is there
abbrev pub is_woken_now : ℕ → Wait → Shared → Bool
is_woken_now thread wait shared = not (holds thread shared.futexes) || is_past shared.clock wait.deadline

-- one that was woken answers 0, and it is looked at first
abbrev pub wakes_up : ℕ → Shared → Answered
wakes_up thread shared =
    if holds thread shared.futexes then refuses ETIMEDOUT (with_futexes (left thread shared.futexes) shared)
    else answers (pos 0) shared

-- ---- FUTEX_WAKE, FUTEX_WAKE_BITSET

abbrev pub wake_refusals : ℕ → ℕ → ℕ → List Refusal
wake_refusals at count bits =
    refusal (is_misaligned at) EINVAL ∷ refusal (bits == 0) EINVAL ∷ refusal (is_negative count) EINVAL ∷ []

abbrev pub wakes : ℕ → ℕ → ℕ → Shared → Answered
wakes at count bits shared =
    answers (pos (length (woken at count bits shared.futexes))) (with_futexes (unwoken at count bits shared.futexes) shared)

abbrev pub futex_wake : ℕ → ℕ → ℕ → Shared → Answered
futex_wake at count bits shared = unless (wake_refusals at count bits) shared (wakes at count bits shared)

-- ---- FUTEX_REQUEUE, FUTEX_CMP_REQUEUE

abbrev pub requeue_refusals : ℕ → ℕ → ℕ → ℕ → List Refusal
requeue_refusals from to wake limit =
    refusal (is_misaligned from) EINVAL
    ∷ refusal (is_misaligned to) EINVAL
    ∷ refusal (is_negative wake) EINVAL
    ∷ refusal (is_negative limit) EINVAL
    ∷ []

-- how many are woken, and how many are moved
abbrev pub woken_first : ℕ → ℕ → List Waiter → ℕ
woken_first from wake waiters = length (first (is_at from) wake waiters)

abbrev pub moved_next : ℕ → ℕ → ℕ → List Waiter → ℕ
moved_next from wake limit waiters = length (first (is_at from) limit (others (is_at from) wake waiters))

abbrev pub requeues : ℕ → ℕ → ℕ → ℕ → Shared → Answered
requeues from to wake limit shared =
    answers (pos (woken_first from wake shared.futexes + moved_next from wake limit shared.futexes))
    (with_futexes (requeued from to wake limit shared.futexes) shared)

abbrev pub futex_requeue : ℕ → ℕ → ℕ → ℕ → Shared → Answered
futex_requeue from to wake limit shared = unless (requeue_refusals from to wake limit) shared (requeues from to wake limit shared)

abbrev pub compare_refusals : ℕ → ℕ → Shared → List Refusal
compare_refusals at value shared = refusal (is_bad_word at shared) EFAULT ∷ refusal (differs at value shared) EAGAIN ∷ []

abbrev pub futex_cmp_requeue : ℕ → ℕ → ℕ → ℕ → ℕ → Shared → Answered
futex_cmp_requeue from to wake limit value shared =
    unless (requeue_refusals from to wake limit) shared
    (unless (compare_refusals from value shared) shared (requeues from to wake limit shared))

-- ---- the call

-- the operation; that the word is the process's own, 128, is passed over
abbrev pub operation : ℕ → ℕ
operation number = if (number / 128) % 2 == 1 then number - 128 else number

abbrev pub futex_as : ℕ → ℕ → Call → Shared → Entered
futex_as number thread call shared =
    if number == 0 then futex_wait thread shared.clock all_bits call shared
    else if number == 9 || number == 265 then futex_wait thread 0 (low (argument 5 call.args)) call shared
    else answering (
    if number == 1 then futex_wake (argument 0 call.args) (low (argument 2 call.args)) all_bits shared
    else if number == 10 then futex_wake (argument 0 call.args) (low (argument 2 call.args)) (low (argument 5 call.args)) shared
    else if number == 3 then futex_requeue (argument 0 call.args) (argument 4 call.args) (low (argument 2 call.args)) (low (argument 3 call.args)) shared
    else if number == 4 then futex_cmp_requeue (argument 0 call.args) (argument 4 call.args) (low (argument 2 call.args)) (low (argument 3 call.args)) (low (argument 5 call.args)) shared
    else refuses ENOSYS shared)

-- futex(2)
unfoldable pub futex : ℕ → Call → Shared → Entered
futex thread call shared = futex_as (operation (argument 1 call.args)) thread call shared
