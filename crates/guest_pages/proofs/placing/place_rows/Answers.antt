use Rattle.std.proofs.Common.{◌*◌, refl, sym, ◌∙◌, arith}
use Rattle.guest_pages.specs.Tables.{cells}
use Rattle.guest_pages.proofs.MapFacts.{room_same}
use Rattle.guest_pages.proofs.RangeFacts.{zeros_more, zeros_none}
use Rattle.guest_pages.proofs.placing.place_rows.Goals as goal

pub loop-i-init : goal.loop-i-init
loop-i-init c = record {
  cells = λ a. sym (zeros_none (4096 * c.args.first) c.args.rights (cells c.args.tables.now.items) a);
  marks = λ n. refl;
  size = refl;
  room = c.requires.room;
  zero = c.requires.zero;
  enough = λ some. let e = c.requires.enough some in omega arith;
}

pub loop-i-preserved : goal.loop-i-preserved
loop-i-preserved c = record {
  cells = zeros_more (cells c.args.tables.now.items) c.args.rights c.loop-i.tables.items c.put_page.new.tables.items c.args.first c.loop-i.i c.blank-page.result
      c.loop-i.invariant.cells c.put_page.ensures.same c.put_page.ensures.others c.blank-page.ensures.zeros;
  marks = λ n. c.put_page.ensures.marks n ∙ c.loop-i.invariant.marks n;
  size = c.put_page.ensures.size ∙ c.loop-i.invariant.size;
  room = λ n low high. room_same c.loop-i.tables.items c.put_page.new.tables.items n c.put_page.ensures.rooms (c.loop-i.invariant.room n low high);
  zero = c.blank-page.ensures.zero;
  enough = λ some. let e = c.loop-i.invariant.enough some in let l = c.blank-page.ensures.left in omega arith;
}
