use Rattle.std.proofs.Common.{◌≡◌, ◌<◌, ℕ, List, Some, ap, get_or, length, map, replicate, subst, sym, ◌∙◌}
use Rattle.guest_core.specs.declared.events.Event.TheVariants.{Step}
use Rattle.guest_core.specs.declared.thread.Thread as code
use Rattle.guest_core.specs.Ahead.{AllGoOn, GoesOn}
use Rattle.guest_core.specs.Event.{run}
use Rattle.guest_core.specs.Kept.{IdsRise}
use Rattle.guest_core.specs.Machine.{Machine}
use Rattle.guest_core.specs.State.{machine, member_of}
use Rattle.guest_core.proofs.EventsKeep.{run_keeps}
use Rattle.guest_core.proofs.PlaceFacts.{rise_any}
use Rattle.guest_core.proofs.StateFacts.{any_of}
use Rattle.guest_core.proofs.machine.Core.run_on.Goals as goal

pub place_of-requires : goal.place_of-requires
place_of-requires c = λ pending.
    subst (λ (threads : List code.Thread). IdsRise 0 (map (member_of pending) threads)) (sym c.deref.ensures.value)
    (rise_any c.self.inside.state.threads.items c.self.inside.state.host.pending pending 0 c.self.invariant.keeps.ids_rise)

within : (c : goal.After-run_on) → c.in-Some.place < length c.self.inside.state.threads.items
within c = subst (λ (threads : List code.Thread). c.in-Some.place < length threads) c.deref.ensures.value c.in-Some.ensures.there

its_id : (c : goal.After-run_on) (d : code.Thread) → (get_or c.self.inside.state.threads.items c.in-Some.place d).id ≡ c.args.thread
its_id c d = subst (λ (threads : List code.Thread). (get_or threads c.in-Some.place d).id ≡ c.args.thread) c.deref.ensures.value (c.in-Some.ensures.id d)

some : (c : goal.After-run_on) → code.Thread
some c = any_of c.self.inside.state.threads.items c.in-Some.place (within c)

ran : (c : goal.After-run_on) → run (Some (machine c.self.inside.state)) (replicate c.run_on.result (Step c.args.thread)) ≡ Some (machine c.run_on.new.self)
ran c =
    ap (λ (n : ℕ). run (Some (machine c.self.inside.state)) (replicate c.run_on.result (Step n))) (sym (its_id c (some c))) ∙ c.run_on.ensures.ran (some c)

pub invariant_of-self : goal.invariant_of-self
invariant_of-self c = record {
  keeps = run_keeps (replicate c.run_on.result (Step c.args.thread)) (machine c.self.inside.state) (machine c.run_on.new.self) c.self.invariant.keeps (ran c);
  apart = c.run_on.ensures.apart;
  right = c.run_on.ensures.known;
}

pub returns-in-Some-clause-ran : goal.returns-in-Some-clause-ran
returns-in-Some-clause-ran c =
    ap (λ (m : Machine). run (Some m) (replicate c.run_on.result (Step c.args.thread))) (sym c.self.view_is) ∙ ran c

pub returns-in-Some-clause-plain : goal.returns-in-Some-clause-plain
returns-in-Some-clause-plain c =
    subst (λ (m : Machine). AllGoOn c.args.thread m c.run_on.result) c.self.view_is
    (subst (λ (n : ℕ). AllGoOn n (machine c.self.inside.state) c.run_on.result) (its_id c (some c)) (c.run_on.ensures.plain (some c)))

pub returns-in-Some-clause-stops : goal.returns-in-Some-clause-stops
returns-in-Some-clause-stops c = λ less goes.
    c.run_on.ensures.stops (some c) less (subst (λ (n : ℕ). GoesOn n (machine c.run_on.new.self)) (sym (its_id c (some c))) goes)
