use Rattle.std.proofs.Common.{◌/◌, ap, arith}
use Rattle.guest_pages.specs.Counting.{count_pages}
use Rattle.guest_pages.specs.Tables.{cells, rows_of}
use Rattle.guest_pages.proofs.RangeFacts.{count_part, unmap_ok, unmap_sound}
use Rattle.guest_pages.proofs.pages.Pages.unmap.Goals as goal

pub overflow_sub-self : goal.overflow_sub-self
overflow_sub-self c =
    let part = count_part (rows_of c.self.inside.tables) (c.args.at / 4096) c.args.count (omega arith) in
    let few = part.0 in
    let counted = c.self.invariant.counted in
    let same = ap (λ t. count_pages (cells t) (c.args.at / 4096) c.args.count) c.rows.ensures in
    omega arith

pub invariant_of-self : goal.invariant_of-self
invariant_of-self c =
    let same = ap (λ t. count_pages (cells t) (c.args.at / 4096) c.args.count) c.rows.ensures in
    unmap_sound (rows_of c.self.inside.tables) (rows_of c.clear_pages.new.tables) c.self.inside.stored _ (c.args.at / 4096) c.args.count
    c.self.invariant c.clear_pages.ensures.size (omega arith) (omega arith) c.clear_pages.ensures.marks c.clear_pages.ensures.cells

pub returns : goal.returns
returns c =
    unmap_ok (rows_of c.self.inside.tables) (rows_of c.clear_pages.new.tables) c.self.inside.stored c.args.at c.args.count c.args.self.now
    c.self.invariant c.self.view_is c.requires.aligned c.clear_pages.ensures.cells
