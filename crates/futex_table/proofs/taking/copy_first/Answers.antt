use Rattle.std.proofs.Common.{◌<◌, length, sym, ◌∙◌, arith}
use Rattle.futex_table.specs.Waiters.{passes}
use Rattle.futex_table.proofs.LoopFacts.{copies_next, copies_past}
use Rattle.futex_table.proofs.taking.copy_first.Goals.{then-is_next, else-is_next}
use Rattle.futex_table.proofs.taking.copy_first.Goals as goal

pub copying-preserved : goal.copying-preserved
copying-preserved c =
    let within : c.copying.place < length c.args.waiters.now.items = omega arith in
    elim c.if-is_next.branch [
      | then-is_next w ↦ rw (w.waiters-is, w.left-is)
          (rw (w.add.ensures.items, w.moved_to.ensures) (copies_next (passes c.args.test) c.args.to c.args.count _ _ _ _ _ c.copying.invariant.0 within c.index.ensures (sym c.is_next.ensures ∙ w.if-is_next.true)), omega arith)
      | else-is_next w ↦ rw (w.waiters-is, w.left-is)
          (copies_past (passes c.args.test) c.args.to c.args.count _ _ _ _ _ c.copying.invariant.0 within c.index.ensures (sym c.is_next.ensures ∙ w.if-is_next.false), c.copying.invariant.1)
    ]
