use Rattle.std.proofs.Common.{None, Some, ap, subst, sym, ◌∙◌}
use Rattle.host_calls.specs.declared.queue.Sent.{Sent}
use Rattle.host_calls.specs.Marks.{IsSettled, Marked, first_new, noted_of}
use Rattle.host_calls.specs.Queue.{due}
use Rattle.host_calls.proofs.MarkFacts.{all_settled, fresh, new_none, new_there, placed}
use Rattle.host_calls.proofs.queue.Pending.first_new.Goals as goal

pub returns-in-Some-clause-first : goal.returns-in-Some-clause-first
returns-in-Some-clause-first c =
    ap (λ (one : Sent). Some one.instance) c.index.ensures
    ∙ sym (new_there c.args.thread c.self.inside.sent.items c.self.inside.next_id c.in-Some.place c.index.result.now c.self.invariant.0 (placed (fresh c.args.thread) c.deref.result.now c.self.inside.sent.items c.place_of_new.result (Some c.in-Some.place) c.place_of_new.ensures.place c.deref.ensures.value c.in-Some.is))
    ∙ ap (λ (m : Marked). first_new (due c.args.thread m.queue) (noted_of c.args.thread m)) c.self.view_is

pub returns-in-None-clause-first : goal.returns-in-None-clause-first
returns-in-None-clause-first c =
    sym (new_none c.args.thread c.self.inside.sent.items c.self.inside.next_id c.self.invariant.0 (placed (fresh c.args.thread) c.deref.result.now c.self.inside.sent.items c.place_of_new.result None c.place_of_new.ensures.place c.deref.ensures.value c.in-None.is))
    ∙ ap (λ (m : Marked). first_new (due c.args.thread m.queue) (noted_of c.args.thread m)) c.self.view_is

pub returns-in-Some-clause-settled : goal.returns-in-Some-clause-settled
returns-in-Some-clause-settled c = λ of.
    subst (λ (m : Marked). IsSettled of m m) c.self.view_is (all_settled c.self.inside.sent.items c.self.inside.next_id c.self.invariant.0 of)

pub returns-in-None-clause-settled : goal.returns-in-None-clause-settled
returns-in-None-clause-settled c = λ of.
    subst (λ (m : Marked). IsSettled of m m) c.self.view_is (all_settled c.self.inside.sent.items c.self.inside.next_id c.self.invariant.0 of)
