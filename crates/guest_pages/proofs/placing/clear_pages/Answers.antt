use Rattle.std.proofs.Common.{◌≡◌, ◌*◌, if◌then◌else◌, false, sym, ap, subst, ◌∙◌}
use Rattle.guest_pages.specs.Mapping.{with_nothing}
use Rattle.guest_pages.specs.Ranges.{within}
use Rattle.guest_pages.specs.Tables.{cells, mark_at, rows_of}
use Rattle.guest_pages.proofs.RangeFacts.{nothing_by_page, nothing_empty, unmarked_empty}
use Rattle.guest_pages.proofs.placing.clear_pages.Goals as goal

pub returns-in-Some-clause-cells : goal.returns-in-Some-clause-cells
returns-in-Some-clause-cells c = λ a.
    nothing_by_page c.in-Some.rows.items c.empty_rows.new.tables.items c.args.first c.args.count c.empty_rows.ensures.inside c.empty_rows.ensures.others a
    ∙ ap (λ tables. with_nothing (4096 * c.args.first) (4096 * c.args.count) (cells (rows_of tables)) a) (sym c.in-Some.is)

pub returns-in-None-clause-cells : goal.returns-in-None-clause-cells
returns-in-None-clause-cells c = λ a.
    subst (λ tables. cells (rows_of tables) a ≡ with_nothing (4096 * c.args.first) (4096 * c.args.count) (cells (rows_of tables)) a)
    (sym c.in-None.is) (nothing_empty (4096 * c.args.first) (4096 * c.args.count) a)

pub returns-in-None-clause-marks : goal.returns-in-None-clause-marks
returns-in-None-clause-marks c = λ n.
    subst (λ tables. mark_at (rows_of tables) n ≡ (if within c.args.first c.args.count n then false else mark_at (rows_of tables) n))
    (sym c.in-None.is) (unmarked_empty c.args.first c.args.count n)
