use Rattle.std.proofs.Common.{◌≡◌, None, Some, List, ap, subst, sym, ◌∙◌}
use Rattle.std.specs.List.{remove}
use Rattle.std.specs.Prelude.{position}
use Rattle.host_calls.specs.declared.queue.Sent.{Sent}
use Rattle.host_calls.specs.Marks.{Marked, TakesFirst}
use Rattle.host_calls.specs.Queue.{AreRising, due, first_of}
use Rattle.host_calls.proofs.MarkFacts.{due_none, instances_of, marked, own, placed, taken_rising, takes_first}
use Rattle.host_calls.proofs.queue.Pending.take_first.Goals as goal

at : (c : goal.After-remove-instance) → position (own c.args.thread) c.self.inside.sent.items ≡ Some c.in-Some.place
at c =
    placed (own c.args.thread) c.deref.result.now c.self.inside.sent.items c.place_of_due.result (Some c.in-Some.place) c.place_of_due.ensures.place c.deref.ensures.value c.in-Some.is

pub invariant_of-self : goal.invariant_of-self
invariant_of-self c = (
  subst (λ (items : List Sent). AreRising 0 (instances_of items) c.self.inside.next_id) (sym c.remove-instance.ensures.items)
      (taken_rising c.self.inside.sent.items c.args.thread c.in-Some.place c.self.inside.next_id c.self.invariant.0 (at c)),
  rw c.remove-instance.ensures.capacity c.self.invariant.1,
)

pub returns-in-Some-clause-taken : goal.returns-in-Some-clause-taken
returns-in-Some-clause-taken c =
    subst (λ (items : List Sent). TakesFirst c.args.thread c.remove-instance.result.instance c.args.self.now (marked items c.self.inside.next_id)) (sym c.remove-instance.ensures.items)
    (subst (λ (m : Marked). TakesFirst c.args.thread c.remove-instance.result.instance m (marked (remove c.self.inside.sent.items c.in-Some.place) c.self.inside.next_id)) c.self.view_is
    (subst (λ (one : Sent). TakesFirst c.args.thread one.instance (marked c.self.inside.sent.items c.self.inside.next_id) (marked (remove c.self.inside.sent.items c.in-Some.place) c.self.inside.next_id)) (sym c.remove-instance.ensures.value)
    (takes_first c.self.inside.sent.items c.args.thread c.in-Some.place c.self.inside.next_id c.remove-instance.result c.self.invariant.0 (at c))))

pub returns-in-None-clause-none : goal.returns-in-None-clause-none
returns-in-None-clause-none c = λ same.
    ap (λ (m : Marked). first_of (due c.args.thread m.queue)) (sym c.self.view_is)
    ∙ due_none c.args.thread c.self.inside.sent.items (placed (own c.args.thread) c.deref.result.now c.self.inside.sent.items c.place_of_due.result None c.place_of_due.ensures.place c.deref.ensures.value c.in-None.is)
