use Rattle.std.proofs.Common.{◌*◌, ◌/◌, ◌∙◌}
use Rattle.guest_pages.specs.Tables.{cells, rows_of}
use Rattle.guest_pages.proofs.PageFacts.{cells_by_page}
use Rattle.guest_pages.proofs.RangeFacts.{zeros_over}
use Rattle.guest_pages.proofs.placing.map_pages.Goals as goal

pub returns-in-Err-make_room-clause-err : goal.returns-in-Err-make_room-clause-err
returns-in-Err-make_room-clause-err c = λ a.
    cells_by_page (rows_of c.make_room.new.tables) (rows_of c.args.tables.now) a (c.make_room.ensures.pages (a / 4096))

pub returns-clause-ok : goal.returns-clause-ok
returns-clause-ok c = λ a.
    c.fill_pages.ensures.cells a
    ∙ zeros_over (4096 * c.args.first) (4096 * c.args.count) c.args.rights (cells (rows_of c.make_room.new.tables)) (cells (rows_of c.args.tables.now))
    (λ b. cells_by_page (rows_of c.make_room.new.tables) (rows_of c.args.tables.now) b (c.make_room.ensures.pages (b / 4096))) a
