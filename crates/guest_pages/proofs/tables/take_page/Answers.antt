use Rattle.std.proofs.Common.{refl, sym, ◌∙◌, arith, length-set}
use Rattle.guest_pages.proofs.MapFacts.{room_outer, room_inner}
use Rattle.guest_pages.proofs.PageFacts.{changed_other, mark_through, page_here, room_through}
use Rattle.guest_pages.proofs.tables.take_page.Goals as goal

pub index_mut-table-requires : goal.index_mut-table-requires
index_mut-table-requires c = let low = room_outer c.args.tables.now.items c.args.number c.requires in omega arith

pub index_mut-requires : goal.index_mut-requires
index_mut-requires c = let low = room_inner c.args.tables.now.items c.args.number c.index_mut-table.result.now c.requires c.index_mut-table.ensures.value in omega arith

pub returns-clause-page : goal.returns-clause-page
returns-clause-page c =
    c.replace.ensures.value
    ∙ sym (page_here c.args.tables.now.items c.args.number c.index_mut-table.result.now c.index_mut.result.now
    (room_outer c.args.tables.now.items c.args.number c.requires) c.index_mut-table.ensures.value
    (room_inner c.args.tables.now.items c.args.number c.index_mut-table.result.now c.requires c.index_mut-table.ensures.value) c.index_mut.ensures.value)

pub returns-clause-others : goal.returns-clause-others
returns-clause-others c = λ n other.
    changed_other c.args.tables.now.items c.args.number n c.index_mut-table.result.now _ c.replace.new.dest
    (room_outer c.args.tables.now.items c.args.number c.requires) c.index_mut-table.ensures.value refl refl other

pub returns-clause-marks : goal.returns-clause-marks
returns-clause-marks c = λ n.
    mark_through c.args.tables.now.items _ n c.index_mut-table.result.now _ (room_outer c.args.tables.now.items c.args.number c.requires) c.index_mut-table.ensures.value refl

pub returns-clause-rooms : goal.returns-clause-rooms
returns-clause-rooms c = λ k.
    room_through c.args.tables.now.items _ k c.index_mut-table.result.now _ (room_outer c.args.tables.now.items c.args.number c.requires) c.index_mut-table.ensures.value
    (length-set c.index_mut-table.result.now.pages.items _ c.replace.new.dest)
