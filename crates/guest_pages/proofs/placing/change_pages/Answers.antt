use Rattle.std.proofs.Common.{◌≡◌, ◌*◌, sym, subst}
use Rattle.guest_pages.specs.Mapping.{with_new_rights}
use Rattle.guest_pages.specs.Tables.{cells, rows_of}
use Rattle.guest_pages.proofs.RangeFacts.{rights_empty}
use Rattle.guest_pages.proofs.placing.change_pages.Goals as goal

pub returns-in-None-clause-cells : goal.returns-in-None-clause-cells
returns-in-None-clause-cells c = λ a.
    subst (λ tables. cells (rows_of tables) a ≡ with_new_rights (4096 * c.args.first) (4096 * c.args.count) c.args.rights (cells (rows_of tables)) a)
    (sym c.in-None.is) (rights_empty (4096 * c.args.first) (4096 * c.args.count) c.args.rights a)
