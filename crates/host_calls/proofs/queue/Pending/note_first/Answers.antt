use Rattle.std.proofs.Common.{◌≡◌, None, Some, List, false, true, ap, get_or, set, subst, sym, ◌∙◌}
use Rattle.std.specs.Prelude.{position}
use Rattle.host_calls.specs.declared.queue.Sent.{Sent}
use Rattle.host_calls.specs.Marks.{IsSettled, Marked, NotesFirst, first_new, noted_of}
use Rattle.host_calls.specs.Queue.{AreRising, due}
use Rattle.host_calls.proofs.MarkFacts.{all_settled, fresh, instances_of, marked, new_none, noted_rising, notes_first, placed}
use Rattle.host_calls.proofs.queue.Pending.note_first.Goals as goal

at : (c : goal.After-mark) → position (fresh c.args.thread) c.self.inside.sent.items ≡ Some c.in-Some.place
at c =
    placed (fresh c.args.thread) c.deref.result.now c.self.inside.sent.items c.place_of_new.result (Some c.in-Some.place) c.place_of_new.ensures.place c.deref.ensures.value c.in-Some.is

-- what would be read past an end
past : goal.After-mark → Sent
past c = record { instance = record { id = 0; thread = 0; fault = record { signal = 0; code = 0; address = 0 } }; noted = false }

pub invariant_of-self : goal.invariant_of-self
invariant_of-self c = (
  subst (λ (items : List Sent). AreRising 0 (instances_of items) c.self.inside.next_id) (sym (c.mark.ensures.items (past c)))
      (noted_rising c.self.inside.sent.items c.args.thread c.in-Some.place c.self.inside.next_id (past c) c.self.invariant.0 (at c)),
  rw c.mark.ensures.room c.self.invariant.1,
)

pub returns-in-Some-clause-noted : goal.returns-in-Some-clause-noted
returns-in-Some-clause-noted c = λ same.
    subst (λ (items : List Sent). NotesFirst c.args.thread c.args.self.now (marked items c.self.inside.next_id)) (sym (c.mark.ensures.items (past c)))
    (subst (λ (m : Marked). NotesFirst c.args.thread m (marked (set c.self.inside.sent.items c.in-Some.place (record { instance = (get_or c.self.inside.sent.items c.in-Some.place (past c)).instance; noted = true })) c.self.inside.next_id)) c.self.view_is
    (notes_first c.self.inside.sent.items c.args.thread c.in-Some.place c.self.inside.next_id (past c) c.self.invariant.0 (at c)))

pub returns-in-None-clause-none : goal.returns-in-None-clause-none
returns-in-None-clause-none c = λ same.
    ap (λ (m : Marked). first_new (due c.args.thread m.queue) (noted_of c.args.thread m)) (sym c.self.view_is)
    ∙ new_none c.args.thread c.self.inside.sent.items c.self.inside.next_id c.self.invariant.0 (placed (fresh c.args.thread) c.deref.result.now c.self.inside.sent.items c.place_of_new.result None c.place_of_new.ensures.place c.deref.ensures.value c.in-None.is)

pub returns-in-None-clause-settled : goal.returns-in-None-clause-settled
returns-in-None-clause-settled c = λ same of.
    subst (λ (m : Marked). IsSettled of m m) c.self.view_is (all_settled c.self.inside.sent.items c.self.inside.next_id c.self.invariant.0 of)
