use Rattle.std.proofs.Common.{length, sym, ◌∙◌}
use Rattle.std.proofs.lemmas.Bool.{eqb-false, eqb-true}
use Rattle.host_calls.proofs.VectorFacts.{ok_map}
use Rattle.host_waits.proofs.PartFacts.{past_none, pushed_none, pushed_on, rest_step}
use Rattle.host_waits.proofs.moving.+push_rest.Goals as goal

pub returns-then-is_empty : goal.returns-then-is_empty
returns-then-is_empty t c = pushed_none _ _ (past_none c.args.count c.args.pieces.now (eqb-true (length c.args.pieces.now) 0 (sym c.is_empty.ensures ∙ c.if-is_empty.true)))

pub returns-in-Ok : goal.returns-in-Ok
returns-in-Ok t c = ok_map c.push_rest.result _ _ (λ rest.
    pushed_on _ _ _ _ _ _ c.in-Ok.ensures.items rest (rest_step c.args.count c.min-gone.result c.args.pieces.now (eqb-false (length c.args.pieces.now) 0 (sym c.is_empty.ensures ∙ c.if-is_empty.false)) c.min-gone.ensures)) c.push_rest.ensures
