use Rattle.std.proofs.Common.{◌/◌, ◌%◌, ◌<◌, length, is_some, refl, sym, ap, ◌∙◌, arith}
use Rattle.guest_pages.specs.declared.page.Page.{Page}
use Rattle.guest_pages.specs.Tables.{cell_in, held_in}
use Rattle.guest_pages.specs.Writes.{with_bytes}
use Rattle.guest_pages.proofs.TableFacts.{page_past}
use Rattle.guest_pages.proofs.PageFacts.{bare_held, mark_through, none_held, page_here, page_past_inner, changed_same, changed_other, cells_written, cells_by_page, unchanged}
use Rattle.guest_pages.proofs.writing.write_row.Goals as goal

pub returns-then-outer-len-clause-answer : goal.returns-then-outer-len-clause-answer
returns-then-outer-len-clause-answer c =
    none_held c.args.needed _ (page_past c.args.tables.now.items (c.args.at / 4096) (omega arith))

pub returns-then-inner-len-clause-answer : goal.returns-then-inner-len-clause-answer
returns-then-inner-len-clause-answer c =
    bare_held c.args.needed _ _ (page_past_inner c.args.tables.now.items (c.args.at / 4096) c.index_mut-table.result.now (omega arith) c.index_mut-table.ensures.value (omega arith))

pub returns-clause-answer : goal.returns-clause-answer
returns-clause-answer c =
    let here = page_here c.args.tables.now.items (c.args.at / 4096) c.index_mut-table.result.now c.index_mut.result.now (omega arith) c.index_mut-table.ensures.value (omega arith) c.index_mut.ensures.value in
    c.write_in.ensures.answer ∙ ap (λ (p : Page). is_some (held_in c.args.needed p)) (sym here)

pub returns-clause-done : goal.returns-clause-done
returns-clause-done c = λ yes.
    let low : c.args.at / 4096 / 8192 < length c.args.tables.now.items = omega arith in
    let low-2 : c.args.at / 4096 % 8192 < length c.index_mut-table.result.now.pages.items = omega arith in
    let here = page_here c.args.tables.now.items (c.args.at / 4096) c.index_mut-table.result.now c.index_mut.result.now low c.index_mut-table.ensures.value low-2 c.index_mut.ensures.value in
    cells_written c.args.tables.now.items _ c.args.at c.args.bytes.now c.write_in.new.page
    (changed_same c.args.tables.now.items (c.args.at / 4096) c.index_mut-table.result.now _ c.write_in.new.page low low-2 refl)
    (λ n other. changed_other c.args.tables.now.items (c.args.at / 4096) n c.index_mut-table.result.now _ c.write_in.new.page low c.index_mut-table.ensures.value refl refl other)
    (λ k. c.write_in.ensures.done yes k ∙ ap (λ (p : Page). with_bytes (c.args.at % 4096) c.args.bytes.now (cell_in p) k) (sym here))
    c.requires

pub returns-clause-undone : goal.returns-clause-undone
returns-clause-undone c = λ no a.
    let low : c.args.at / 4096 / 8192 < length c.args.tables.now.items = omega arith in
    let low-2 : c.args.at / 4096 % 8192 < length c.index_mut-table.result.now.pages.items = omega arith in
    let here = page_here c.args.tables.now.items (c.args.at / 4096) c.index_mut-table.result.now c.index_mut.result.now low c.index_mut-table.ensures.value low-2 c.index_mut.ensures.value in
    cells_by_page _ c.args.tables.now.items a
    (unchanged c.args.tables.now.items (c.args.at / 4096) (a / 4096) c.index_mut-table.result.now _ c.write_in.new.page low c.index_mut-table.ensures.value low-2 refl refl (here ∙ sym (c.write_in.ensures.undone no)))

pub returns-clause-marks : goal.returns-clause-marks
returns-clause-marks c = λ n.
    mark_through c.args.tables.now.items (c.args.at / 4096 / 8192) n c.index_mut-table.result.now _ (omega arith) c.index_mut-table.ensures.value refl
