-- What every call owes, over what the system has before and after it.
-- The project's own.
use Rattle.std.specs.Prelude.{◌≡◌, ◌⊎◌, ℕ, ◌==◌, true, false, List, [], ◌∷◌, None}
use Rattle.file_table.specs.State.{OnlyDie, outputs_of}
use Rattle.futex_table.specs.declared.waiter.Waiter.{Waiter}
use Rattle.futex_table.specs.Waiters.{holds}
use Rattle.guest_pages.specs.Apart.{IsApart, Stays}
use Rattle.word_memory.specs.declared.reservations.Held.{Held}
use Rattle.host_calls.specs.Queue.{OnlySends}
use Rattle.host_calls.specs.Shared.{Shared, with_output}

-- at most one output goes on
pub record Grows (old new : List (List ℕ)) : Type 0 where
  pub device : ℕ
  pub more : List ℕ
  pub grown : new ≡ with_output device more old

-- what became of a reservation: the thread's own has ended, and another stands as it was or has ended
abbrev pub Ended : ℕ → Held → Held → Type 0
Ended thread old new =
    (new.thread ≡ old.thread) × (new.reserved ≡ None ⊎ ((new.reserved ≡ old.reserved) × ((old.thread == thread) ≡ false)))

abbrev pub OnlyEnd : ℕ → List Held → List Held → Type 0
OnlyEnd thread [] [] = Unit {0}
OnlyEnd thread (old ∷ olds) (new ∷ news) = Ended thread old new × OnlyEnd thread olds news
OnlyEnd thread [] (new ∷ news) = ⊥
OnlyEnd thread (old ∷ olds) [] = ⊥

-- no other thread comes to wait at an address
abbrev pub NoneJoins : ℕ → List Waiter → List Waiter → Type 0
NoneJoins thread old new = (other : ℕ) → (other == thread) ≡ false → holds other new ≡ true → holds other old ≡ true

pub record Owes (thread : ℕ) (old new : Shared) : Type 0 where
  -- where nothing can be both written and executed, that stays so, and the code stays
  pub memory : IsApart old.memory → Stays old.memory new.memory
  -- outputs only grow, and at most one does
  pub outputs : Grows (outputs_of old.files) (outputs_of new.files)
  -- a device that lives lived before
  pub lives : OnlyDie old.files.devices new.files.devices
  -- reservations only end, and its own does
  pub held : OnlyEnd thread old.held new.held
  -- of those that wait at addresses it wakes and moves some, and no other comes
  pub futexes : NoneJoins thread old.futexes new.futexes
  -- of pending signals it only sends more
  pub queue : OnlySends old.queue new.queue
  -- no time passes
  pub clock : new.clock ≡ old.clock
