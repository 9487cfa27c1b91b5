use Rattle.std.proofs.Common.{sym, ◌∙◌}
use Rattle.guest_pages.proofs.RangeFacts.{zeros_by_page}
use Rattle.guest_pages.proofs.placing.fill_rows.Goals as goal

pub returns-then-has_none-clause-cells : goal.returns-then-has_none-clause-cells
returns-then-has_none-clause-cells c =
    zeros_by_page c.args.rights c.args.tables.now.items c.empty_rows.new.tables.items c.args.first c.args.count (sym c.has_none.ensures ∙ c.if-has_none.true) c.empty_rows.ensures.inside c.empty_rows.ensures.others
