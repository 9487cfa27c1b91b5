-- What a call owes whose wait begins, and one whose wait is over.
use Rattle.std.proofs.Common.{◌≡◌, ℕ, ◌==◌, ◌||◌, Bool, true, false, if◌then◌else◌, ℤ, pos, List, [], ◌∷◌, Option, Some, None, Result, Ok, Err, IfOk, MatchBool, refl, sym, ap, subst}
use Rattle.call_table.specs.declared.call.Call.{Call}
use Rattle.file_tree.specs.declared.errno.Errno.TheVariants.{EAGAIN, EFAULT, ENOSYS, ETIMEDOUT}
use Rattle.file_table.specs.Pipes.{room}
use Rattle.guest_pages.specs.Faults.{writable}
use Rattle.host_calls.specs.declared.pieces.Piece.{Piece}
use Rattle.host_calls.specs.Answers.{Answered, Refusal, answers, argument, ending, refuses, unless, unreserved}
use Rattle.host_calls.specs.Moving.{is_readable, is_writable, reading_refusals, writing_refusals}
use Rattle.host_calls.specs.Owes.{Owes}
use Rattle.host_calls.specs.Pieces.{any_bad, one_piece, scattered, stored_of, with_stored}
use Rattle.host_calls.specs.Shared.{Shared}
use Rattle.host_calls.proofs.CallsOwe.{immediate_owes}
use Rattle.host_calls.proofs.FileShapes.{reads_into, writes_from}
use Rattle.host_calls.proofs.PieceFacts.{scattered_eased, scattered_stays}
use Rattle.host_calls.proofs.Shapes.{answers_alone, changes_futexes, stores_all, unless_owes}
use Rattle.host_waits.specs.declared.beginning.Begun.{Begun}
use Rattle.host_waits.specs.declared.beginning.MayWait.{MayWait}
use Rattle.host_waits.specs.declared.beginning.MayWait.TheVariants as may
use Rattle.host_waits.specs.declared.wait.Polled.{Polled}
use Rattle.host_waits.specs.declared.wait.WaitKind.{WaitKind}
use Rattle.host_waits.specs.declared.wait.WaitKind.TheVariants.{Read, Write, Futex, Sleep, Poll}
use Rattle.host_waits.specs.Begun.{Entered, answering, any_holds, entered_unless, waiting}
use Rattle.host_waits.specs.Calls.{entered, entered_as, entered_by, may_wait}
use Rattle.host_waits.specs.Futexes.{all_bits, compare_refusals, futex, futex_as, futex_cmp_requeue, futex_requeue, futex_wait, futex_wake, joined_by, joins, low, operation, requeue_refusals, requeues, wait_refusals, wake_refusals, wakes, with_futexes}
use Rattle.host_waits.specs.Moving.{can_read_now, can_write_now, part_written, read, reads_or_waits, readv, vector, vector_refusals, wait_past, write, writes_or_waits, writev}
use Rattle.host_waits.specs.Polling.{answer_bytes, answer_places, count_ready, entries_at, is_polled_now, poll_refusals, polls, ppoll, tells}
use Rattle.host_waits.specs.Sleeping.{clock_nanosleep, clock_refusals, nanosleep, sleep_refusals, sleeps}
use Rattle.host_waits.specs.Times.{limit_after}
use Rattle.host_waits.specs.Waiting.{Shifted, done_by, finished, shifted, shifts_by}
use Rattle.host_waits.specs.Waits.{Wait, descriptor, for_bytes, for_time, is_past}
use Rattle.host_waits.proofs.FutexFacts.{leave_joins, own_joins, requeue_joins, wake_joins}
use Rattle.futex_table.specs.Waiters.{holds, joined, left, requeued, unwoken}

-- ---- by cases

abbrev Owing : ℕ → Shared → Shared → Type 0
Owing thread old new = Owes thread old (unreserved thread new)

either_way : (test : Bool) (thread : ℕ) (shared : Shared) (one other : Entered) → Owing thread shared one.shared → Owing thread shared other.shared → Owing thread shared (if test then one else other).shared
either_way true thread shared one other this that = this
either_way false thread shared one other this that = that

either_answer : (test : Bool) (thread : ℕ) (shared : Shared) (one other : Answered) → Owing thread shared one.shared → Owing thread shared other.shared → Owing thread shared (if test then one else other).shared
either_answer true thread shared one other this that = this
either_answer false thread shared one other this that = that

unless_way : (refusals : List Refusal) (thread : ℕ) (shared : Shared) (entered : Entered) → Owing thread shared entered.shared → Owing thread shared (entered_unless refusals shared entered).shared
unless_way [] thread shared entered made = made
unless_way (first ∷ refusals) thread shared entered made =
    either_way first.holds thread shared (answering (refuses first.errno shared)) (entered_unless refusals shared entered) (answers_alone thread shared)
    (unless_way refusals thread shared entered made)

unless_answer : (refusals : List Refusal) (thread : ℕ) (shared : Shared) (answered : Answered) → Owing thread shared answered.shared → Owing thread shared (unless refusals shared answered).shared
unless_answer refusals thread shared answered made = unless_owes refusals thread shared answered (λ passes. made)

-- ---- reading and writing

reads_or : (thread : ℕ) (call : Call) (pieces : List Piece) (shared : Shared) → Owing thread shared (reads_or_waits thread call pieces shared).shared
reads_or thread call pieces shared =
    either_way (any_holds (reading_refusals (argument 0 call.args) pieces shared) || can_read_now (for_bytes Read call pieces) shared) thread shared _ _
    (reads_into thread (argument 0 call.args) pieces shared) (answers_alone thread shared)

writes_or : (thread : ℕ) (call : Call) (pieces : List Piece) (shared : Shared) → Owing thread shared (writes_or_waits call pieces shared).shared
writes_or thread call pieces shared =
    either_way (any_holds (writing_refusals (argument 0 call.args) pieces shared) || can_write_now (for_bytes Write call pieces) shared) thread shared _ _
    (writes_from thread (argument 0 call.args) pieces shared) (answers_alone thread shared)

reads_one : (thread : ℕ) (call : Call) (shared : Shared) → Owing thread shared (read thread call shared).shared
unfolding read
reads_one thread call shared = reads_or thread call (one_piece (argument 1 call.args) (argument 2 call.args)) shared

writes_one : (thread : ℕ) (call : Call) (shared : Shared) → Owing thread shared (write call shared).shared
unfolding write
writes_one thread call shared = writes_or thread call (one_piece (argument 1 call.args) (argument 2 call.args)) shared

reads_many : (thread : ℕ) (call : Call) (shared : Shared) → Owing thread shared (readv thread call shared).shared
unfolding readv
reads_many thread call shared =
    unless_way (vector_refusals (is_readable (argument 0 call.args) shared.files) (argument 1 call.args) (argument 2 call.args) shared) thread shared _
    (reads_or thread call (vector (argument 1 call.args) (argument 2 call.args) shared) shared)

writes_many : (thread : ℕ) (call : Call) (shared : Shared) → Owing thread shared (writev call shared).shared
unfolding writev
writes_many thread call shared =
    unless_way (vector_refusals (is_writable (argument 0 call.args) shared.files) (argument 1 call.args) (argument 2 call.args) shared) thread shared _
    (writes_or thread call (vector (argument 1 call.args) (argument 2 call.args) shared) shared)

-- ---- sleeping

sleeps_so : (thread start at : ℕ) (call : Call) (shared : Shared) → Owing thread shared (sleeps start at call shared).shared
sleeps_so thread start at call shared =
    unless_way (sleep_refusals at shared) thread shared _
    (either_way _ thread shared _ _ (answers_alone thread shared) (answers_alone thread shared))

naps : (thread : ℕ) (call : Call) (shared : Shared) → Owing thread shared (nanosleep call shared).shared
unfolding nanosleep
naps thread call shared = sleeps_so thread shared.clock (argument 0 call.args) call shared

naps_by_clock : (thread : ℕ) (call : Call) (shared : Shared) → Owing thread shared (clock_nanosleep call shared).shared
unfolding clock_nanosleep
naps_by_clock thread call shared = unless_way (clock_refusals (argument 0 call.args)) thread shared _ (sleeps_so thread _ _ call shared)

-- ---- words

joins_so : (thread at bits : ℕ) (wait : Wait) (shared : Shared) → Owing thread shared (joins thread at bits wait shared).shared
joins_so thread at bits wait shared =
    either_way (is_past shared.clock wait.deadline) thread shared (answering (refuses ETIMEDOUT shared))
    (if holds thread shared.futexes then answering (refuses EAGAIN shared) else waiting wait (joined_by thread at bits shared)) (answers_alone thread shared)
    (either_way (holds thread shared.futexes) thread shared (answering (refuses EAGAIN shared)) (waiting wait (joined_by thread at bits shared))
    (answers_alone thread shared) (changes_futexes thread (joined (record { thread = thread; at = at; bits = bits }) shared.futexes) shared (own_joins thread at bits shared.futexes)))

waits_at_word : (thread start bits : ℕ) (call : Call) (shared : Shared) → Owing thread shared (futex_wait thread start bits call shared).shared
waits_at_word thread start bits call shared =
    let wait : Wait = for_time Futex call (limit_after start (argument 3 call.args) shared.memory) [] in
    unless_way (wait_refusals (argument 0 call.args) (low (argument 2 call.args)) bits (argument 3 call.args) shared) thread shared
    (joins thread (argument 0 call.args) bits wait shared) (joins_so thread (argument 0 call.args) bits wait shared)

wakes_some : (thread at count bits : ℕ) (shared : Shared) → Owing thread shared (futex_wake at count bits shared).shared
wakes_some thread at count bits shared =
    unless_answer (wake_refusals at count bits) thread shared (wakes at count bits shared)
    (changes_futexes thread (unwoken at count bits shared.futexes) shared (wake_joins thread at count bits shared.futexes))

moves_some : (thread from to wake limit : ℕ) (shared : Shared) → Owing thread shared (requeues from to wake limit shared).shared
moves_some thread from to wake limit shared =
    changes_futexes thread (requeued from to wake limit shared.futexes) shared (requeue_joins thread from to wake limit shared.futexes)

moves_of : (thread from to wake limit : ℕ) (shared : Shared) → Owing thread shared (futex_requeue from to wake limit shared).shared
moves_of thread from to wake limit shared =
    unless_answer (requeue_refusals from to wake limit) thread shared (requeues from to wake limit shared) (moves_some thread from to wake limit shared)

compares_and_moves : (thread from to wake limit value : ℕ) (shared : Shared) → Owing thread shared (futex_cmp_requeue from to wake limit value shared).shared
compares_and_moves thread from to wake limit value shared =
    unless_answer (requeue_refusals from to wake limit) thread shared (unless (compare_refusals from value shared) shared (requeues from to wake limit shared))
    (unless_answer (compare_refusals from value shared) thread shared (requeues from to wake limit shared) (moves_some thread from to wake limit shared))

futexes_owe : (number thread : ℕ) (call : Call) (shared : Shared) → Owing thread shared (futex_as number thread call shared).shared
futexes_owe number thread call shared =
    either_way (number == 0) thread shared _ _ (waits_at_word thread shared.clock all_bits call shared)
    (either_way (number == 9 || number == 265) thread shared _ _ (waits_at_word thread 0 (low (argument 5 call.args)) call shared)
    (either_answer (number == 1) thread shared _ _ (wakes_some thread (argument 0 call.args) (low (argument 2 call.args)) all_bits shared)
    (either_answer (number == 10) thread shared _ _ (wakes_some thread (argument 0 call.args) (low (argument 2 call.args)) (low (argument 5 call.args)) shared)
    (either_answer (number == 3) thread shared _ _ (moves_of thread (argument 0 call.args) (argument 4 call.args) (low (argument 2 call.args)) (low (argument 3 call.args)) shared)
    (either_answer (number == 4) thread shared _ _ (compares_and_moves thread (argument 0 call.args) (argument 4 call.args) (low (argument 2 call.args)) (low (argument 3 call.args)) (low (argument 5 call.args)) shared)
    (answers_alone thread shared))))))

uses_word : (thread : ℕ) (call : Call) (shared : Shared) → Owing thread shared (futex thread call shared).shared
unfolding futex
uses_word thread call shared = futexes_owe (operation (argument 1 call.args)) thread call shared

-- ---- polling

bits_owe : (bad : Bool) (thread : ℕ) (places : List Piece) (bytes : List ℕ) (answer : ℤ) (shared : Shared) → any_bad writable shared.memory places ≡ bad → Owing thread shared (if bad then refuses EFAULT shared else record { shared = with_stored (scattered thread places bytes (stored_of shared)) shared; answer = answer }).shared
bits_owe true thread places bytes answer shared is = answers_alone thread shared
bits_owe false thread places bytes answer shared good =
    stores_all thread shared (with_stored (scattered thread places bytes (stored_of shared)) shared)
    (scattered_stays thread places bytes (stored_of shared) good) (scattered_eased thread places bytes (stored_of shared)) (refl, λ device lives. lives) refl refl refl

tells_bits : (thread at : ℕ) (entries : List Polled) (shared : Shared) → Owing thread shared (tells thread at entries shared).shared
tells_bits thread at entries shared =
    bits_owe (any_bad writable shared.memory (answer_places at entries)) thread (answer_places at entries) (answer_bytes shared.files entries) (pos (count_ready shared.files entries)) shared refl

polls_owe : (thread at count limit : ℕ) (call : Call) (shared : Shared) → Owing thread shared (polls thread at count limit call shared).shared
polls_owe thread at count limit call shared =
    unless_way (poll_refusals at count limit shared) thread shared _
    (either_way (is_polled_now (for_time Poll call (limit_after shared.clock limit shared.memory) (entries_at at count shared)) shared) thread shared _ _
    (tells_bits thread (argument 0 call.args) (entries_at at count shared) shared) (answers_alone thread shared))

polls_all : (thread : ℕ) (call : Call) (shared : Shared) → Owing thread shared (ppoll thread call shared).shared
unfolding ppoll
polls_all thread call shared =
    either_way (argument 3 call.args == 0) thread shared
    (polls thread (argument 0 call.args) (argument 1 call.args) (argument 2 call.args) call shared) (answering (refuses ENOSYS shared))
    (polls_owe thread (argument 0 call.args) (argument 1 call.args) (argument 2 call.args) call shared) (answers_alone thread shared)

-- ---- all calls

as_owes : (which : MayWait) (thread : ℕ) (call : Call) (shared : Shared) → Owing thread shared (entered_as which thread call shared).shared
as_owes may.Read thread call shared = reads_one thread call shared
as_owes may.Readv thread call shared = reads_many thread call shared
as_owes may.Write thread call shared = writes_one thread call shared
as_owes may.Writev thread call shared = writes_many thread call shared
as_owes may.Futex thread call shared = uses_word thread call shared
as_owes may.Nanosleep thread call shared = naps thread call shared
as_owes may.ClockNanosleep thread call shared = naps_by_clock thread call shared
as_owes may.Ppoll thread call shared = polls_all thread call shared

by_owes : (o : Option MayWait) (thread : ℕ) (call : Call) (shared : Shared) → Owes thread shared (entered_by o thread call shared).shared
by_owes None thread call shared = immediate_owes thread call shared
by_owes (Some which) thread call shared = as_owes which thread call shared

pub entered_owes : (thread : ℕ) (call : Call) (shared : Shared) → Owes thread shared (entered thread call shared).shared
unfolding entered
entered_owes thread call shared = by_owes (may_wait call.no) thread call shared

-- ---- a wait that is over

wakes_owe : (held : Bool) (thread : ℕ) (shared : Shared) → Owing thread shared (if held then refuses ETIMEDOUT (with_futexes (left thread shared.futexes) shared) else answers (pos 0) shared).shared
wakes_owe true thread shared = changes_futexes thread (left thread shared.futexes) shared (leave_joins thread shared.futexes)
wakes_owe false thread shared = answers_alone thread shared

done_owes : (kind : WaitKind) (thread : ℕ) (wait : Wait) (shared : Shared) → Owing thread shared (done_by kind thread wait shared).shared
done_owes Read thread wait shared = reads_into thread (descriptor wait) wait.pieces shared
done_owes Write thread wait shared = writes_from thread (descriptor wait) wait.pieces shared
done_owes Futex thread wait shared = wakes_owe (holds thread shared.futexes) thread shared
done_owes Sleep thread wait shared = answers_alone thread shared
done_owes Poll thread wait shared = tells_bits thread (argument 0 wait.call.args) wait.polled shared

pub finished_owes : (thread : ℕ) (wait : Wait) (shared : Shared) → Owes thread shared (finished thread wait shared).shared
unfolding finished
finished_owes thread wait shared = done_owes wait.kind thread wait shared

-- a part that is written
pub part_owes : (thread : ℕ) (wait : Wait) (shared : Shared) → Owes thread shared (ending thread (part_written wait shared)).shared
part_owes thread wait shared = writes_from thread (descriptor wait) _ shared

-- ---- of what a call came to

pub begun_owe_if : {E : Type 0} (result : Result Begun E) (thread : ℕ) (call : Call) (old new : Shared) → IfOk result (λ begun. record { shared = new; begun = begun } ≡ entered thread call old) → IfOk result (λ begun. Owes thread old new)
begun_owe_if (Ok begun) thread call old new is = subst (Owes thread old) (sym (ap (λ (e : Entered). e.shared) is)) (entered_owes thread call old)
begun_owe_if (Err error) thread call old new is = is

pub finished_owe_if : {E : Type 0} (result : Result ℤ E) (thread : ℕ) (wait : Wait) (old new : Shared) → IfOk result (λ answer. record { shared = new; answer = answer } ≡ finished thread wait old) → IfOk result (λ answer. Owes thread old new)
finished_owe_if (Ok answer) thread wait old new is = subst (Owes thread old) (sym (ap (λ (answered : Answered). answered.shared) is)) (finished_owes thread wait old)
finished_owe_if (Err error) thread wait old new is = is

went_by : (shifts : Bool) (thread : ℕ) (wait : Wait) (old : Shared) (shifted-to : Shifted) → (if shifts then Some (record { shared = (ending thread (part_written wait old)).shared; wait = wait_past (room (descriptor wait) old.files) wait }) else None) ≡ Some shifted-to → Owes thread old shifted-to.shared
went_by false thread wait old shifted-to is = absurd (let f : ⊥ = cc in f)
went_by true thread wait old shifted-to is =
    let same : (ending thread (part_written wait old)).shared ≡ shifted-to.shared = cc in
    subst (Owes thread old) same (part_owes thread wait old)

shifted_owes : (thread : ℕ) (wait : Wait) (old : Shared) (shifted-to : Shifted) → shifted thread wait old ≡ Some shifted-to → Owes thread old shifted-to.shared
unfolding shifted
shifted_owes thread wait old shifted-to is = went_by (shifts_by wait.kind wait old) thread wait old shifted-to is

went_owe_by : (went : Bool) (thread : ℕ) (wait : Wait) (old new : Shared) (new-wait : Wait) (other : Type 0) → MatchBool went (shifted thread wait old ≡ Some (record { shared = new; wait = new-wait })) other → went ≡ true → Owes thread old new
went_owe_by true thread wait old new new-wait other is so = shifted_owes thread wait old (record { shared = new; wait = new-wait }) is
went_owe_by false thread wait old new new-wait other is so = cc

pub shifted_owe_if : {E : Type 0} (result : Result Bool E) (thread : ℕ) (wait : Wait) (old new : Shared) (new-wait : Wait) (other : Type 0) → IfOk result (λ went. MatchBool went (shifted thread wait old ≡ Some (record { shared = new; wait = new-wait })) other) → IfOk result (λ went. went ≡ true → Owes thread old new)
shifted_owe_if (Ok went) thread wait old new new-wait other is = went_owe_by went thread wait old new new-wait other is
shifted_owe_if (Err error) thread wait old new new-wait other is = is
