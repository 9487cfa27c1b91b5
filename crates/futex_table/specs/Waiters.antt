-- Threads that wait at addresses, in the order in which they came, and what is done with them.
-- Source: futex(2), `FUTEX_WAIT_BITSET`, `FUTEX_WAKE_BITSET` and `FUTEX_CMP_REQUEUE`. That those that came first are woken
-- first, and that those that are moved come behind those that wait there, are the project's own.
use Rattle.std.specs.Prelude.{ℕ, ◌-◌, ◌==◌, nat_lt, bit_and, Bool, not, ◌&&◌, if◌then◌else◌, List, [], ◌∷◌, ◌++◌, map, filter}
use Rattle.std.specs.List.{list_any}
use Rattle.futex_table.specs.declared.waiter.Waiter.{Waiter}
use Rattle.futex_table.specs.declared.waiter.Test.{Test}
use Rattle.futex_table.specs.declared.waiter.Test.TheVariants as tests

-- the waiter is the thread's
abbrev pub is_of : ℕ → Waiter → Bool
is_of thread waiter = waiter.thread == thread

-- it waits at the address
abbrev pub is_at : ℕ → Waiter → Bool
is_at at waiter = waiter.at == at

-- it waits at the address, and its bits meet these
abbrev pub meets : ℕ → ℕ → Waiter → Bool
meets at bits waiter = waiter.at == at && not (bit_and waiter.bits bits == 0)

-- it is one that is meant
abbrev pub passes : Test → Waiter → Bool
passes (tests.At at) waiter = is_at at waiter
passes (tests.Meeting at bits) waiter = meets at bits waiter

-- some waiter is the thread's
abbrev pub holds : ℕ → List Waiter → Bool
holds thread waiters = list_any (is_of thread) waiters

-- the first so many that pass a test
abbrev pub first : (Waiter → Bool) → ℕ → List Waiter → List Waiter
first test count [] = []
first test count (waiter ∷ waiters) =
    if nat_lt 0 count && test waiter then waiter ∷ first test (count - 1) waiters else first test count waiters

-- all others, in their order
abbrev pub others : (Waiter → Bool) → ℕ → List Waiter → List Waiter
others test count [] = []
others test count (waiter ∷ waiters) =
    if nat_lt 0 count && test waiter then others test (count - 1) waiters else waiter ∷ others test count waiters

-- a waiter comes, behind all others
abbrev pub joined : Waiter → List Waiter → List Waiter
joined waiter waiters = waiters ++ waiter ∷ []

-- the same thread waits for the same bits, but at this address
abbrev pub moved_to : ℕ → Waiter → Waiter
moved_to to waiter = record { thread = waiter.thread; at = to; bits = waiter.bits }

-- those that a wake wakes: the first so many at the address whose bits meet these
abbrev pub woken : ℕ → ℕ → ℕ → List Waiter → List Waiter
woken at count bits waiters = first (meets at bits) count waiters

-- those that it leaves
abbrev pub unwoken : ℕ → ℕ → ℕ → List Waiter → List Waiter
unwoken at count bits waiters = others (meets at bits) count waiters

-- the first so many at one address wait at another, behind all others
abbrev pub moved : ℕ → ℕ → ℕ → List Waiter → List Waiter
moved from to limit waiters = others (is_at from) limit waiters ++ map (moved_to to) (first (is_at from) limit waiters)

-- the first so many at one address are woken, and the next of them, up to the limit, wait at another, behind all others
abbrev pub requeued : ℕ → ℕ → ℕ → ℕ → List Waiter → List Waiter
requeued from to wake limit waiters = moved from to limit (others (is_at from) wake waiters)

-- the thread waits no longer
abbrev pub left : ℕ → List Waiter → List Waiter
left thread waiters = filter (λ waiter. not (is_of thread waiter)) waiters
