-- The schedule of `solo`: which thread makes the next step.
-- The project's own.
use Rattle.std.specs.Prelude.{ℕ, zero, suc, if◌then◌else◌, List, [], ◌∷◌, Option, Some, None}
use Rattle.guest_core.specs.declared.events.Event.{Event}
use Rattle.guest_core.specs.declared.events.Event.TheVariants.{Step}
use Rattle.guest_core.specs.Event.{event_after, is_enabled}
use Rattle.guest_core.specs.Machine.{Machine}
use Rattle.guest_core.specs.System.{live_ids}

-- a thread that makes a step, and the ids that are left of the round behind it
pub record Turn : Type 0 where
  pub thread : ℕ
  pub left : List ℕ

-- the first of these whose step is enabled
abbrev pub turn_among : Machine → List ℕ → Option Turn
turn_among machine [] = None
turn_among machine (id ∷ left) =
    if is_enabled machine (Step id) then Some (record { thread = id; left = left }) else turn_among machine left

abbrev pub or_new : Option Turn → Option Turn → Option Turn
or_new (Some turn) other = Some turn
or_new None other = other

-- The next turn: of the ids that are left of the round, or else of a new round. A round goes through the ids that live at
-- its start, in rising order. None comes where no step of a round is enabled.
unfoldable pub next_turn : List ℕ → Machine → Option Turn
next_turn left machine = or_new (turn_among machine left) (turn_among machine (live_ids machine))

abbrev pub from_turn : Option Turn → (Turn → List Event) → List Event
from_turn None rest = []
from_turn (Some turn) rest = Step turn.thread ∷ rest turn

-- The events of the schedule under a budget, from a state and the ids that are left of its round.
abbrev pub scheduled : ℕ → List ℕ → Option Machine → List Event
scheduled zero left state = []
scheduled (suc budget) left None = []
scheduled (suc budget) left (Some machine) =
    from_turn (next_turn left machine) (λ turn. scheduled budget turn.left (event_after machine (Step turn.thread)))
