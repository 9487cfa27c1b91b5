use Rattle.std.proofs.Common.{length, sym, ◌∙◌}
use Rattle.std.proofs.lemmas.Bool.{eqb-false, eqb-true}
use Rattle.host_calls.proofs.VectorFacts.{ok_map}
use Rattle.host_waits.proofs.PartFacts.{pushed_none, pushed_on}
use Rattle.host_waits.proofs.PollFacts.{places_none, places_step}
use Rattle.host_waits.proofs.polling.+push_places.Goals as goal

pub returns-then-is_empty : goal.returns-then-is_empty
returns-then-is_empty t c = pushed_none _ _ (places_none c.args.at c.args.entries.now (eqb-true (length c.args.entries.now) 0 (sym c.is_empty.ensures ∙ c.if-is_empty.true)))

pub returns-in-Ok : goal.returns-in-Ok
returns-in-Ok t c = ok_map c.push_places.result _ _ (λ rest.
    pushed_on _ _ _ _ _ _ c.in-Ok.ensures.items rest (places_step c.args.at c.args.entries.now (eqb-false (length c.args.entries.now) 0 (sym c.is_empty.ensures ∙ c.if-is_empty.false)))) c.push_places.ensures
