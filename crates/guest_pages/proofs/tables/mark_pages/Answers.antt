use Rattle.std.proofs.Common.{◌+◌, refl, ◌∙◌, arith}
use Rattle.guest_pages.specs.Tables.{mark_at}
use Rattle.guest_pages.proofs.BitFacts.{bits_all, bits_more, bits_nowhere}
use Rattle.guest_pages.proofs.MapFacts.{mark_same, room_same}
use Rattle.guest_pages.proofs.tables.mark_pages.Goals as goal

pub marking-init : goal.marking-init
marking-init c = record {
  few = omega arith;
  marks = bits_nowhere (mark_at c.args.tables.now.items) c.args.first c.args.on;
  pages = λ n room. refl;
  rooms = λ k. refl;
  words = λ k. refl;
  size = refl;
}

pub mark_some-done-requires-clause-marks : goal.mark_some-done-requires-clause-marks
mark_some-done-requires-clause-marks c = λ on.
    mark_same c.args.tables.now.items c.marking.tables.items (c.args.first + c.marking.done) c.marking.invariant.words
    (c.requires.marks on (c.args.first + c.marking.done) (omega arith) (omega arith))

pub marking-preserved : goal.marking-preserved
marking-preserved c =
    let few = c.mark_some-done.ensures.few in
    record {
      few = omega arith;
      marks = bits_more (mark_at c.args.tables.now.items) (mark_at c.marking.tables.items) (mark_at c.mark_some-done.new.tables.items) c.args.first c.marking.done c.mark_some-done.result c.args.on
          c.marking.invariant.marks c.mark_some-done.ensures.marks;
      pages = λ n room.
          c.mark_some-done.ensures.pages n (room_same c.args.tables.now.items c.marking.tables.items n c.marking.invariant.rooms room) ∙ c.marking.invariant.pages n room;
      rooms = λ k. c.mark_some-done.ensures.rooms k ∙ c.marking.invariant.rooms k;
      words = λ k. c.mark_some-done.ensures.words k ∙ c.marking.invariant.words k;
      size = c.mark_some-done.ensures.size ∙ c.marking.invariant.size;
    }

pub returns-clause-marks : goal.returns-clause-marks
returns-clause-marks c = λ n. bits_all (mark_at c.args.tables.now.items) (mark_at c.marking.tables.items) c.args.first c.marking.done c.args.count c.args.on (omega arith) c.marking.invariant.marks n
