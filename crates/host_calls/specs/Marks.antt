-- Marks on pending signals: a thread notes an instance that is due to it before it takes it.
-- The project's own.
use Rattle.std.specs.Prelude.{◌≡◌, ◌≢◌, ℕ, ◌==◌, ◌&&◌, Bool, not, if◌then◌else◌, List, [], ◌∷◌, ◌++◌, map, filter, Option, Some}
use Rattle.std.specs.List.{list_any, find}
use Rattle.host_calls.specs.declared.queue.Instance.{Instance}
use Rattle.host_calls.specs.Queue.{Queue, due, first_of, taken_out}

-- the queue, and of each pending instance whether its thread has noted it
pub record Marked : Type 0 where
  pub queue : Queue
  pub marks : List Bool

-- the ids that a thread has noted
abbrev pub noted_among : ℕ → List Instance → List Bool → List ℕ
noted_among thread [] marks = []
noted_among thread (instance ∷ instances) [] = []
noted_among thread (instance ∷ instances) (mark ∷ marks) =
    if mark && (instance.thread == thread) then instance.id ∷ noted_among thread instances marks else noted_among thread instances marks

abbrev pub noted_of : ℕ → Marked → List ℕ
noted_of thread marked = noted_among thread marked.queue.pending marked.marks

abbrev pub is_noted : List ℕ → Instance → Bool
is_noted noted instance = list_any (λ id. instance.id == id) noted

-- the first of the due instances that isn't noted
abbrev pub first_new : List Instance → List ℕ → Option Instance
first_new due noted = find (λ instance. not (is_noted noted instance)) due

-- the due instances that are noted: what isn't due any more is noted no more
abbrev pub still_noted : List ℕ → List Instance → List ℕ
still_noted noted due = map (λ instance. instance.id) (filter (is_noted noted) due)

-- what a thread has noted is what it had, as far as it is still due
abbrev pub IsSettled : ℕ → Marked → Marked → Type 0
IsSettled thread old new = noted_of thread new ≡ still_noted (noted_of thread old) (due thread new.queue)

abbrev pub OthersSettled : ℕ → Marked → Marked → Type 0
OthersSettled thread old new = (other : ℕ) → other ≢ thread → IsSettled other old new

-- the thread notes the first due instance that it hasn't noted, and nothing else happens
pub record NotesFirst (thread : ℕ) (old new : Marked) : Type 0 where
  pub instance : Instance
  pub is_first : first_new (due thread old.queue) (noted_of thread old) ≡ Some instance
  pub queue : new.queue ≡ old.queue
  pub own : noted_of thread new ≡ still_noted (noted_of thread old ++ instance.id ∷ []) (due thread new.queue)
  pub others : OthersSettled thread old new

-- the instance, the thread's first, is taken out
pub record TakesFirst (thread : ℕ) (instance : Instance) (old new : Marked) : Type 0 where
  pub is_first : first_of (due thread old.queue) ≡ Some instance
  pub queue : new.queue ≡ taken_out instance old.queue
  pub settled : (of : ℕ) → IsSettled of old new
