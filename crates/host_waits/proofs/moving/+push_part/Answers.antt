use Rattle.std.proofs.Common.{length, sym, ◌∙◌}
use Rattle.std.proofs.lemmas.Bool.{eqb-false, eqb-true}
use Rattle.host_calls.proofs.VectorFacts.{ok_map}
use Rattle.host_waits.proofs.PartFacts.{cut_none, part_step, pushed_none, pushed_on}
use Rattle.host_waits.proofs.moving.+push_part.Goals as goal

pub returns-then-is_empty : goal.returns-then-is_empty
returns-then-is_empty t c = pushed_none _ _ (cut_none c.args.room c.args.pieces.now (eqb-true (length c.args.pieces.now) 0 (sym c.is_empty.ensures ∙ c.if-is_empty.true)))

pub returns-in-Ok : goal.returns-in-Ok
returns-in-Ok t c = ok_map c.push_part.result _ _ (λ rest.
    pushed_on _ _ _ _ _ _ c.in-Ok.ensures.items rest (part_step c.args.room c.min-size.result c.args.pieces.now (eqb-false (length c.args.pieces.now) 0 (sym c.is_empty.ensures ∙ c.if-is_empty.false)) c.min-size.ensures)) c.push_part.ensures
