use Rattle.std.proofs.Common.{None, Some, ap, sym, ◌∙◌}
use Rattle.host_calls.specs.declared.queue.Sent.{Sent}
use Rattle.host_calls.specs.Marks.{Marked}
use Rattle.host_calls.specs.Queue.{due, first_of}
use Rattle.host_calls.proofs.MarkFacts.{due_none, due_there, own, placed}
use Rattle.host_calls.proofs.queue.Pending.first.Goals as goal

pub returns-in-Some : goal.returns-in-Some
returns-in-Some c =
    ap (λ (one : Sent). Some one.instance) c.index.ensures
    ∙ sym (due_there c.args.thread c.self.inside.sent.items c.in-Some.place c.index.result.now (placed (own c.args.thread) c.deref.result.now c.self.inside.sent.items c.place_of_due.result (Some c.in-Some.place) c.place_of_due.ensures.place c.deref.ensures.value c.in-Some.is))
    ∙ ap (λ (m : Marked). first_of (due c.args.thread m.queue)) c.self.view_is

pub returns-in-None : goal.returns-in-None
returns-in-None c =
    sym (due_none c.args.thread c.self.inside.sent.items (placed (own c.args.thread) c.deref.result.now c.self.inside.sent.items c.place_of_due.result None c.place_of_due.ensures.place c.deref.ensures.value c.in-None.is))
    ∙ ap (λ (m : Marked). first_of (due c.args.thread m.queue)) c.self.view_is
