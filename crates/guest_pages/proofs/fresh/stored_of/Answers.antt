use Rattle.std.proofs.Common.{◌+◌, ◌*◌, sym, ◌∙◌, arith}
use Rattle.guest_pages.specs.Counting.{some_right, rights_of}
use Rattle.guest_pages.specs.Tables.{cells}
use Rattle.guest_pages.proofs.MapFacts.{count_next, count_none, count_passed, one_if_true, one_if_false}
use Rattle.guest_pages.proofs.fresh.stored_of.Goals as goal
use Rattle.guest_pages.proofs.fresh.stored_of.Goals.{then-has_right, else-has_right}

pub pages-init : goal.pages-init
pages-init c = record { within = omega arith; below = omega arith; counted = sym (count_none (cells c.args.tables.now) c.args.first) }

pub pages-preserved-then-passed-gt0 : goal.pages-preserved-then-passed-gt0
pages-preserved-then-passed-gt0 c =
    let few = c.without_pages-passed.ensures.few in
    record {
      within = omega arith;
      below = omega arith;
      counted = c.pages.invariant.counted ∙ sym (count_passed c.args.tables.now c.args.first c.pages.done c.without_pages-passed.result c.without_pages-passed.ensures.none);
    }

pub pages-preserved : goal.pages-preserved
pages-preserved c =
    let next = count_next (cells c.args.tables.now) c.args.first c.pages.done in
    elim c.if-has_right.branch [
      | then-has_right w ↦
          let one = one_if_true (some_right (rights_of (cells c.args.tables.now (4096 * (c.args.first + c.pages.done))))) (sym c.has_right.ensures ∙ w.if-has_right.true) in
          record { within = omega arith; below = omega arith; counted = omega arith }
      | else-has_right w ↦
          let one = one_if_false (some_right (rights_of (cells c.args.tables.now (4096 * (c.args.first + c.pages.done))))) (sym c.has_right.ensures ∙ w.if-has_right.false) in
          record { within = omega arith; below = omega arith; counted = omega arith }
    ]
