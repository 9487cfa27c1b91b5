use Rattle.std.proofs.Common.{◌∙◌}
use Rattle.guest_pages.specs.Tables.{mark_at}
use Rattle.guest_pages.proofs.BitFacts.{chosen_in, chosen_out}
use Rattle.guest_pages.proofs.MapFacts.{page_marked, page_unmarked, room_same}
use Rattle.guest_pages.proofs.tables.empty_rows.Goals as goal

pub returns-clause-inside : goal.returns-clause-inside
returns-clause-inside c = λ n low high.
    page_marked c.args.tables.now.items c.empty_held.new.tables.items n c.args.mapped
    (λ k. c.empty_held.ensures.rooms k ∙ c.mark_pages.ensures.rooms k)
    (λ room. c.empty_held.ensures.inside n low high (room_same c.args.tables.now.items c.mark_pages.new.tables.items n c.mark_pages.ensures.rooms room))
    (c.empty_held.ensures.marks n ∙ (c.mark_pages.ensures.marks n ∙ chosen_in c.args.first c.args.count n c.args.mapped (mark_at c.args.tables.now.items n) low high))

pub returns-clause-others : goal.returns-clause-others
returns-clause-others c = λ n out.
    c.empty_held.ensures.others n out
    ∙ page_unmarked c.args.tables.now.items c.mark_pages.new.tables.items n c.mark_pages.ensures.rooms (c.mark_pages.ensures.pages n)
    (c.mark_pages.ensures.marks n ∙ chosen_out c.args.first c.args.count n c.args.mapped (mark_at c.args.tables.now.items n) out)
