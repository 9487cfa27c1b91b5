-- A call that waits isn't ready.
use Rattle.std.proofs.Common.{◌≡◌, ℕ, ◌==◌, ◌||◌, Bool, true, false, if◌then◌else◌, not, pos, List, [], ◌∷◌, Option, Some, None, Result, Ok, Err, IfOk, refl, sym, ap, subst, ◌∙◌}
use Rattle.call_table.specs.declared.call.Call.{Call}
use Rattle.file_tree.specs.declared.errno.Errno.TheVariants.{EAGAIN, ENOSYS, ETIMEDOUT}
use Rattle.futex_table.specs.declared.waiter.Waiter.{Waiter}
use Rattle.futex_table.specs.Waiters.{holds, is_of, joined}
use Rattle.host_calls.specs.declared.pieces.Piece.{Piece}
use Rattle.host_calls.specs.Answers.{Refusal, answers, argument, refuses, unreserved}
use Rattle.host_calls.specs.Moving.{is_readable, is_writable, read_into, reading_refusals, write_from, writing_refusals}
use Rattle.host_calls.specs.Pieces.{one_piece}
use Rattle.host_calls.specs.Shared.{Shared}
use Rattle.host_waits.specs.declared.beginning.Begun.{Begun}
use Rattle.host_waits.specs.declared.beginning.Begun.TheVariants.{Answer, Waits}
use Rattle.host_waits.specs.declared.beginning.MayWait.{MayWait}
use Rattle.host_waits.specs.declared.beginning.MayWait.TheVariants as may
use Rattle.host_waits.specs.declared.wait.WaitKind.{WaitKind}
use Rattle.host_waits.specs.declared.wait.WaitKind.TheVariants.{Read, Write, Futex, Sleep, Poll}
use Rattle.host_waits.specs.Begun.{Entered, answering, any_holds, entered_unless, let_go, waiting}
use Rattle.host_waits.specs.Calls.{entered, entered_as, entered_by, may_wait}
use Rattle.host_waits.specs.Futexes.{all_bits, futex, futex_as, futex_wait, joined_by, joins, low, operation, wait_refusals}
use Rattle.host_waits.specs.Moving.{can_read_now, can_write_now, read, reads_or_waits, readv, vector, vector_refusals, write, writes_or_waits, writev}
use Rattle.host_waits.specs.Polling.{entries_at, is_polled_now, poll_refusals, polls, polls_or_waits, ppoll, tells}
use Rattle.host_waits.specs.Sleeping.{clock_nanosleep, clock_refusals, nanosleep, sleep_refusals, sleeps, sleeps_up_to, start_by}
use Rattle.host_waits.specs.Times.{limit_after, time_after, time_at}
use Rattle.host_waits.specs.Waiting.{IsUnready, is_ready, ready_by}
use Rattle.host_waits.specs.Waits.{Wait, for_bytes, for_time, is_past}
use Rattle.std.proofs.lemmas.Bool.{eq-eqb}
use Rattle.std.proofs.lemmas.List.Folds.{list_any-append}

-- ---- by cases

by_test : (test : Bool) (thread : ℕ) (one other : Entered) → (test ≡ true → IsUnready thread one) → (test ≡ false → IsUnready thread other) → IsUnready thread (if test then one else other)
by_test true thread one other this that = this refl
by_test false thread one other this that = that refl

unless_so : (refusals : List Refusal) (thread : ℕ) (shared : Shared) (entered : Entered) → IsUnready thread entered → IsUnready thread (entered_unless refusals shared entered)
unless_so [] thread shared entered so = so
unless_so (first ∷ refusals) thread shared entered so =
    by_test first.holds thread (answering (refuses first.errno shared)) (entered_unless refusals shared entered) (λ holds. tt) (λ passed. unless_so refusals thread shared entered so)

right_of : (one other : Bool) → (one || other) ≡ false → other ≡ false
right_of true other none = cc
right_of false other none = none

-- ---- each call

reads_so : (thread : ℕ) (call : Call) (pieces : List Piece) (shared : Shared) → IsUnready thread (reads_or_waits thread call pieces shared)
unfolding is_ready
reads_so thread call pieces shared =
    by_test (any_holds (reading_refusals (argument 0 call.args) pieces shared) || can_read_now (for_bytes Read call pieces) shared) thread
    (answering (read_into thread (argument 0 call.args) pieces shared)) (waiting (for_bytes Read call pieces) shared) (λ holds. tt)
    (λ none. right_of (any_holds (reading_refusals (argument 0 call.args) pieces shared)) (can_read_now (for_bytes Read call pieces) shared) none)

writes_so : (thread : ℕ) (call : Call) (pieces : List Piece) (shared : Shared) → IsUnready thread (writes_or_waits call pieces shared)
unfolding is_ready
writes_so thread call pieces shared =
    by_test (any_holds (writing_refusals (argument 0 call.args) pieces shared) || can_write_now (for_bytes Write call pieces) shared) thread
    (answering (write_from (argument 0 call.args) pieces shared)) (waiting (for_bytes Write call pieces) shared) (λ holds. tt)
    (λ none. right_of (any_holds (writing_refusals (argument 0 call.args) pieces shared)) (can_write_now (for_bytes Write call pieces) shared) none)

read_so : (thread : ℕ) (call : Call) (shared : Shared) → IsUnready thread (read thread call shared)
unfolding read
read_so thread call shared = reads_so thread call (one_piece (argument 1 call.args) (argument 2 call.args)) shared

write_so : (thread : ℕ) (call : Call) (shared : Shared) → IsUnready thread (write call shared)
unfolding write
write_so thread call shared = writes_so thread call (one_piece (argument 1 call.args) (argument 2 call.args)) shared

readv_so : (thread : ℕ) (call : Call) (shared : Shared) → IsUnready thread (readv thread call shared)
unfolding readv
readv_so thread call shared =
    unless_so (vector_refusals (is_readable (argument 0 call.args) shared.files) (argument 1 call.args) (argument 2 call.args) shared) thread shared
    (reads_or_waits thread call (vector (argument 1 call.args) (argument 2 call.args) shared) shared) (reads_so thread call (vector (argument 1 call.args) (argument 2 call.args) shared) shared)

writev_so : (thread : ℕ) (call : Call) (shared : Shared) → IsUnready thread (writev call shared)
unfolding writev
writev_so thread call shared =
    unless_so (vector_refusals (is_writable (argument 0 call.args) shared.files) (argument 1 call.args) (argument 2 call.args) shared) thread shared
    (writes_or_waits call (vector (argument 1 call.args) (argument 2 call.args) shared) shared) (writes_so thread call (vector (argument 1 call.args) (argument 2 call.args) shared) shared)

sleeps_so : (thread start at : ℕ) (call : Call) (shared : Shared) → IsUnready thread (sleeps start at call shared)
unfolding is_ready
sleeps_so thread start at call shared =
    let deadline = time_after start (time_at at shared.memory) in
    unless_so (sleep_refusals at shared) thread shared (sleeps_up_to deadline call shared)
    (by_test (is_past shared.clock (Some deadline)) thread (answering (answers (pos 0) shared)) (waiting (for_time Sleep call (Some deadline) []) shared) (λ past. tt) (λ before. before))

nanosleep_so : (thread : ℕ) (call : Call) (shared : Shared) → IsUnready thread (nanosleep call shared)
unfolding nanosleep
nanosleep_so thread call shared = sleeps_so thread shared.clock (argument 0 call.args) call shared

clock_so : (thread : ℕ) (call : Call) (shared : Shared) → IsUnready thread (clock_nanosleep call shared)
unfolding clock_nanosleep
clock_so thread call shared =
    unless_so (clock_refusals (argument 0 call.args)) thread shared (sleeps (start_by (argument 1 call.args) shared.clock) (argument 2 call.args) call shared)
    (sleeps_so thread (start_by (argument 1 call.args) shared.clock) (argument 2 call.args) call shared)

-- a thread that has come stands in the list
comes_last : (all mine : Bool) → mine ≡ true → (all || (mine || false)) ≡ true
comes_last true mine is = refl
comes_last false mine is = ap (λ (b : Bool). b || false) is

stands : (thread at bits : ℕ) (waiters : List Waiter) → holds thread (joined (record { thread = thread; at = at; bits = bits }) waiters) ≡ true
stands thread at bits waiters =
    let waiter : Waiter = record { thread = thread; at = at; bits = bits } in
    list_any-append (is_of thread) waiters (waiter ∷ []) ∙ comes_last (holds thread waiters) (is_of thread waiter) (eq-eqb thread thread refl)

held_and_before : (held past : Bool) → held ≡ true → past ≡ false → (not held || past) ≡ false
held_and_before true past held before = before
held_and_before false past held before = cc

joins_so : (thread at bits : ℕ) (call : Call) (deadline : Option ℕ) (shared : Shared) → IsUnready thread (joins thread at bits (for_time Futex call deadline []) shared)
unfolding is_ready
joins_so thread at bits call deadline shared =
    let wait : Wait = for_time Futex call deadline [] in
    by_test (is_past shared.clock deadline) thread (answering (refuses ETIMEDOUT shared))
    (if holds thread shared.futexes then answering (refuses EAGAIN shared) else waiting wait (joined_by thread at bits shared)) (λ past. tt)
    (λ before. by_test (holds thread shared.futexes) thread (answering (refuses EAGAIN shared)) (waiting wait (joined_by thread at bits shared)) (λ held. tt)
    (λ free. held_and_before (holds thread (joined_by thread at bits shared).futexes) (is_past shared.clock deadline) (stands thread at bits shared.futexes) before))

wait_so : (thread start bits : ℕ) (call : Call) (shared : Shared) → IsUnready thread (futex_wait thread start bits call shared)
wait_so thread start bits call shared =
    let deadline = limit_after start (argument 3 call.args) shared.memory in
    unless_so (wait_refusals (argument 0 call.args) (low (argument 2 call.args)) bits (argument 3 call.args) shared) thread shared
    (joins thread (argument 0 call.args) bits (for_time Futex call deadline []) shared) (joins_so thread (argument 0 call.args) bits call deadline shared)

futexes_so : (number thread : ℕ) (call : Call) (shared : Shared) → IsUnready thread (futex_as number thread call shared)
futexes_so number thread call shared =
    by_test (number == 0) thread _ _ (λ is. wait_so thread shared.clock all_bits call shared)
    (λ isn't. by_test (number == 9 || number == 265) thread _ _ (λ is. wait_so thread 0 (low (argument 5 call.args)) call shared) (λ isn't. tt))

futex_so : (thread : ℕ) (call : Call) (shared : Shared) → IsUnready thread (futex thread call shared)
unfolding futex
futex_so thread call shared = futexes_so (operation (argument 1 call.args)) thread call shared

polls_so : (thread at count limit : ℕ) (call : Call) (shared : Shared) → IsUnready thread (polls thread at count limit call shared)
unfolding is_ready
polls_so thread at count limit call shared =
    let wait : Wait = for_time Poll call (limit_after shared.clock limit shared.memory) (entries_at at count shared) in
    unless_so (poll_refusals at count limit shared) thread shared (polls_or_waits thread wait shared)
    (by_test (is_polled_now wait shared) thread (answering (tells thread (argument 0 wait.call.args) wait.polled shared)) (waiting wait shared) (λ ready. tt) (λ none. none))

ppoll_so : (thread : ℕ) (call : Call) (shared : Shared) → IsUnready thread (ppoll thread call shared)
unfolding ppoll
ppoll_so thread call shared =
    by_test (argument 3 call.args == 0) thread (polls thread (argument 0 call.args) (argument 1 call.args) (argument 2 call.args) call shared) (answering (refuses ENOSYS shared))
    (λ none. polls_so thread (argument 0 call.args) (argument 1 call.args) (argument 2 call.args) call shared) (λ mask. tt)

as_so : (which : MayWait) (thread : ℕ) (call : Call) (shared : Shared) → IsUnready thread (entered_as which thread call shared)
as_so may.Read thread call shared = read_so thread call shared
as_so may.Readv thread call shared = readv_so thread call shared
as_so may.Write thread call shared = write_so thread call shared
as_so may.Writev thread call shared = writev_so thread call shared
as_so may.Futex thread call shared = futex_so thread call shared
as_so may.Nanosleep thread call shared = nanosleep_so thread call shared
as_so may.ClockNanosleep thread call shared = clock_so thread call shared
as_so may.Ppoll thread call shared = ppoll_so thread call shared

-- what ends a reservation makes nothing ready
kind_by : (kind : WaitKind) (thread : ℕ) (wait : Wait) (shared : Shared) → ready_by kind thread wait shared ≡ false → ready_by kind thread wait (unreserved thread shared) ≡ false
kind_by Read thread wait shared so = so
kind_by Write thread wait shared so = so
kind_by Futex thread wait shared so = so
kind_by Sleep thread wait shared so = so
kind_by Poll thread wait shared so = so

let_go_by : (begun : Begun) (thread : ℕ) (shared : Shared) → IsUnready thread (record { shared = shared; begun = begun }) → IsUnready thread (let_go thread (record { shared = shared; begun = begun }))
unfolding is_ready
let_go_by (Answer answer) thread shared so = tt
let_go_by (Waits wait) thread shared so = kind_by wait.kind thread wait shared so

by_so : (o : Option MayWait) (thread : ℕ) (call : Call) (shared : Shared) → IsUnready thread (entered_by o thread call shared)
by_so None thread call shared = tt
by_so (Some which) thread call shared =
    let made = entered_as which thread call shared in
    let_go_by made.begun thread made.shared (as_so which thread call shared)

pub entered_unready : (thread : ℕ) (call : Call) (shared : Shared) → IsUnready thread (entered thread call shared)
unfolding entered
entered_unready thread call shared = by_so (may_wait call.no) thread call shared

pub unready_if : {E : Type 0} (result : Result Begun E) (thread : ℕ) (call : Call) (old new : Shared) → IfOk result (λ begun. record { shared = new; begun = begun } ≡ entered thread call old) → IfOk result (λ begun. IsUnready thread (record { shared = new; begun = begun }))
unready_if (Ok begun) thread call old new is = subst (IsUnready thread) (sym is) (entered_unready thread call old)
unready_if (Err error) thread call old new is = is
