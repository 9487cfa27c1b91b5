-- Pending signals: sending and taking.
-- Source: signal(7). All signals today are forced, and those of faults: none is blocked or ignored.
use Rattle.std.specs.Prelude.{◌≡◌, ◌≤◌, ℕ, ◌+◌, ◌==◌, Bool, true, false, not, List, [], ◌∷◌, ◌++◌, filter, Option, Some, None}
use Rattle.isa_step.specs.declared.fault.Fault.{Fault}
use Rattle.host_calls.specs.declared.queue.Instance.{Instance}

-- the pending instances in the order of their ids, and the id that the next one gets
pub record Queue : Type 0 where
  pub pending : List Instance
  pub next_id : ℕ

abbrev pub empty_queue : Queue
empty_queue = record { pending = []; next_id = 0 }

abbrev pub is_empty : {X : Type 0} → List X → Bool
is_empty [] = true
is_empty (x ∷ xs) = false

abbrev pub first_of : List Instance → Option Instance
first_of [] = None
first_of (instance ∷ instances) = Some instance

-- the instances that act on the thread next, in order: those that were sent to it. All are forced, so that none is blocked
abbrev pub due : ℕ → Queue → List Instance
due thread queue = filter (λ instance. instance.thread == thread) queue.pending

-- a forced instance is added without a test, under the next id
abbrev pub sent_forced : ℕ → Fault → Queue → Queue
sent_forced thread fault queue = record {
  pending = queue.pending ++ record { id = queue.next_id; thread = thread; fault = fault } ∷ [];
  next_id = queue.next_id + 1;
}

-- an instance that is taken leaves the pending ones
abbrev pub taken_out : Instance → Queue → Queue
taken_out instance queue = record queue { pending = filter (λ other. not (other.id == instance.id)) queue.pending }

-- their ids rise, from a bound on, and stay below the next
abbrev pub AreRising : ℕ → List Instance → ℕ → Type 0
AreRising low [] next = low ≤ next
AreRising low (instance ∷ instances) next = (low ≤ instance.id) × AreRising (instance.id + 1) instances next

-- these have the ids from the first on, up to the next
abbrev pub HaveIds : ℕ → List Instance → ℕ → Type 0
HaveIds first [] next = next ≡ first
HaveIds first (instance ∷ instances) next = (instance.id ≡ first) × HaveIds (first + 1) instances next

-- nothing happened to the pending instances but that others were sent, under the next ids
pub record OnlySends (old new : Queue) : Type 0 where
  pub sent : List Instance
  pub pending : new.pending ≡ old.pending ++ sent
  pub ids : HaveIds old.next_id sent new.next_id
