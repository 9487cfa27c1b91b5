use Rattle.std.proofs.Common.{◌-◌, ◌*◌, ◌/◌, Bool, not, if◌then◌else◌, ap, ◌∙◌, arith}
use Rattle.guest_pages.specs.Counting.{count_pages}
use Rattle.guest_pages.specs.Tables.{cells, rows_of}
use Rattle.guest_pages.proofs.PageFacts.{cells_by_page}
use Rattle.guest_pages.proofs.RangeFacts.{count_over, rights_over}
use Rattle.guest_pages.proofs.Counting.{count_at_most}
use Rattle.guest_pages.proofs.placing.protect_pages.Goals as goal

pub overflow_sub-bare : goal.overflow_sub-bare
overflow_sub-bare c =
    let most = count_at_most (cells c.rows.result.now) c.args.first c.args.count in
    let is = c.stored_of.ensures in
    omega arith

pub returns-in-Err-room_for-clause-err : goal.returns-in-Err-room_for-clause-err
returns-in-Err-room_for-clause-err c = λ a.
    cells_by_page (rows_of c.room_for.new.tables) (rows_of c.args.tables.now) a (c.room_for.ensures.pages (a / 4096))

pub change_pages-requires-clause-enough : goal.change_pages-requires-clause-enough
change_pages-requires-clause-enough c = λ some.
    let over = count_over (cells (rows_of c.room_for.new.tables)) (cells (rows_of c.args.tables.now)) c.args.first c.args.count
    (λ b. cells_by_page (rows_of c.room_for.new.tables) (rows_of c.args.tables.now) b (c.room_for.ensures.pages (b / 4096))) in
    let rows = ap (λ t. count_pages (cells t) c.args.first c.args.count) c.rows.ensures in
    let stored = c.stored_of.ensures in
    let needed = c.needed_for.ensures ∙ ap (λ (b : Bool). if not b then c.args.count - c.stored_of.result else 0) some in
    let fresh = c.in-Ok.ensures.0 in
    omega arith

pub returns-clause-ok : goal.returns-clause-ok
returns-clause-ok c = λ a.
    c.change_pages.ensures.cells a
    ∙ rights_over (4096 * c.args.first) (4096 * c.args.count) c.args.rights (cells (rows_of c.room_for.new.tables)) (cells (rows_of c.args.tables.now))
    (λ b. cells_by_page (rows_of c.room_for.new.tables) (rows_of c.args.tables.now) b (c.room_for.ensures.pages (b / 4096))) a
