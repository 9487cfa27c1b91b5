use Rattle.std.proofs.Common.{◌<◌, ◌/◌, ◌%◌, length, ◌∙◌, arith, length-set}
use Rattle.guest_pages.proofs.MapFacts.{has_mark, has_room, room_filled, words_filled}
use Rattle.guest_pages.proofs.PageFacts.{mark_through, page_through}
use Rattle.guest_pages.proofs.tables.fill_tables.Goals as goal

pub returns-in_err-fill_one-clause-pages : goal.returns-in_err-fill_one-clause-pages
returns-in_err-fill_one-clause-pages c = λ n.
    let enough = c.in_ok-add_tables.ensures.enough in
    let low : c.loop-i.i < length c.loop-i.tables.items = omega arith in
    page_through c.loop-i.tables.items c.loop-i.i n c.index_mut.result.now c.fill_one.new.table low c.index_mut.ensures.value (c.fill_one.ensures.pages (n % 8192))
    ∙ c.loop-i.invariant.pages n

pub returns-in_err-fill_one-clause-marks : goal.returns-in_err-fill_one-clause-marks
returns-in_err-fill_one-clause-marks c = λ n.
    let enough = c.in_ok-add_tables.ensures.enough in
    let low : c.loop-i.i < length c.loop-i.tables.items = omega arith in
    mark_through c.loop-i.tables.items c.loop-i.i n c.index_mut.result.now c.fill_one.new.table low c.index_mut.ensures.value (c.fill_one.ensures.marks (n % 8192))
    ∙ c.loop-i.invariant.marks n

pub loop-i-preserved : goal.loop-i-preserved
loop-i-preserved c =
    let enough = c.in_ok-add_tables.ensures.enough in
    let low : c.loop-i.i < length c.loop-i.tables.items = omega arith in
    record {
      pages = λ n.
          page_through c.loop-i.tables.items c.loop-i.i n c.index_mut.result.now c.fill_one.new.table low c.index_mut.ensures.value (c.fill_one.ensures.pages (n % 8192))
          ∙ c.loop-i.invariant.pages n;
      marks = λ n.
          mark_through c.loop-i.tables.items c.loop-i.i n c.index_mut.result.now c.fill_one.new.table low c.index_mut.ensures.value (c.fill_one.ensures.marks (n % 8192))
          ∙ c.loop-i.invariant.marks n;
      size = length-set c.loop-i.tables.items c.loop-i.i c.fill_one.new.table ∙ c.loop-i.invariant.size;
      words = λ k from below.
          words_filled c.loop-i.tables.items c.loop-i.i k c.fill_one.new.table low c.in_ok-fill_one.ensures.words
          (λ apart. c.loop-i.invariant.words k from (omega arith));
      room = λ held k from below.
          room_filled c.loop-i.tables.items c.loop-i.i k c.fill_one.new.table low (c.in_ok-fill_one.ensures.room held)
          (λ apart. c.loop-i.invariant.room held k from (omega arith));
    }

pub returns-clause-words : goal.returns-clause-words
returns-clause-words c = λ n from below.
    has_mark c.loop-i.tables.items n (c.loop-i.invariant.words (n / 8192) (omega arith) (omega arith))

pub returns-clause-room : goal.returns-clause-room
returns-clause-room c = λ held n from below.
    has_room c.loop-i.tables.items n (c.loop-i.invariant.room held (n / 8192) (omega arith) (omega arith))
