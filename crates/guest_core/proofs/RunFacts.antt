-- Runs of events, one after another.
use Rattle.std.proofs.Common.{◌≡◌, ℕ, zero, suc, ◌+◌, ◌<◌, List, [], ◌∷◌, ◌++◌, Option, length, take, get_or, refl, ap, ◌∙◌, arith}
use Rattle.std.proofs.lemmas.List.{take_more}
use Rattle.guest_core.specs.declared.events.Event.{Event}
use Rattle.guest_core.specs.Machine.{Machine}
use Rattle.guest_core.specs.Event.{happens, run}

-- the last event happens after those before it
pub run_append : (state : Option Machine) (events more : List Event) → run state (events ++ more) ≡ run (run state events) more
run_append state [] more = refl
run_append state (event ∷ events) more = run_append (happens state event) events more

-- one more event of a list
pub run_take_more : (state : Option Machine) (events : List Event) (i : ℕ) (d : Event) → i < length events → run state (take (i + 1) events) ≡ happens (run state (take i events)) (get_or events i d)
run_take_more state events i d within =
    ap (run state) (take_more events i d within) ∙ run_append state (take i events) (get_or events i d ∷ [])

-- what stands at an index of a list is the same whatever would stand past its end
pub same_event : (events : List Event) (i : ℕ) (d e : Event) → i < length events → get_or events i d ≡ get_or events i e
same_event [] i d e within = absurd (omega arith)
same_event (event ∷ events) zero d e within = refl
same_event (event ∷ events) (suc i) d e within = same_event events i d e (omega arith)
