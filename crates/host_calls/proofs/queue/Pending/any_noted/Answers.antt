use Rattle.std.proofs.Common.{None, Some, ap, not, sym, ◌∙◌}
use Rattle.host_calls.specs.Marks.{Marked, noted_of}
use Rattle.host_calls.specs.Queue.{is_empty}
use Rattle.host_calls.proofs.MarkFacts.{mine, none_noted, placed, some_noted}
use Rattle.host_calls.proofs.queue.Pending.any_noted.Goals as goal

pub returns-in-Some : goal.returns-in-Some
returns-in-Some c =
    sym (ap not (some_noted c.args.thread c.self.inside.sent.items _ (placed (mine c.args.thread) c.deref.result.now c.self.inside.sent.items c.place_of_noted.result (Some _) c.place_of_noted.ensures.place c.deref.ensures.value c.in-Some.is)))
    ∙ ap (λ (m : Marked). not (is_empty (noted_of c.args.thread m))) c.self.view_is

pub returns-in-None : goal.returns-in-None
returns-in-None c =
    sym (ap not (none_noted c.args.thread c.self.inside.sent.items (placed (mine c.args.thread) c.deref.result.now c.self.inside.sent.items c.place_of_noted.result None c.place_of_noted.ensures.place c.deref.ensures.value c.in-None.is)))
    ∙ ap (λ (m : Marked). not (is_empty (noted_of c.args.thread m))) c.self.view_is
