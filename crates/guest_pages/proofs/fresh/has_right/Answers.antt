use Rattle.std.proofs.Common.{sym, ◌∙◌}
use Rattle.guest_pages.specs.Tables.{mark_at, page_at}
use Rattle.guest_pages.proofs.MapFacts.{right_first}
use Rattle.guest_pages.proofs.PageFacts.{right_found}
use Rattle.guest_pages.proofs.fresh.has_right.Goals as goal

pub returns : goal.returns
returns c =
    c.page_right.ensures
    ∙ (right_found c.page_of.result (page_at c.args.tables.now c.args.number) (mark_at c.args.tables.now c.args.number) c.page_of.ensures
    ∙ sym (right_first c.args.tables.now c.args.number))
