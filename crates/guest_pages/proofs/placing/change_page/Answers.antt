use Rattle.std.proofs.Common.{◌≤◌, ◌/◌, ◌%◌, List, slice_get, subst}
use Rattle.guest_pages.specs.declared.page.Table.{Table}
use Rattle.guest_pages.specs.Cells.{has_none}
use Rattle.guest_pages.specs.Mapping.{HasRoom, room_of}
use Rattle.guest_pages.specs.Tables.{mark_at, page_at}
use Rattle.guest_pages.proofs.BitFacts.{unless_false}
use Rattle.guest_pages.proofs.MapFacts.{no_room_same, room_same}
use Rattle.guest_pages.proofs.PageFacts.{page_without_room}
use Rattle.guest_pages.proofs.RangeFacts.{bare_still}
use Rattle.guest_pages.proofs.placing.change_page.Goals as goal

pub take_page-old-requires : goal.take_page-old-requires
take_page-old-requires c =
    subst (λ (tables : List Table). HasRoom tables c.args.number) c.as_slice.ensures.value (c.has_room.ensures.some c.if-has_room.true)

pub put_page-requires : goal.put_page-requires
put_page-requires c =
    room_same c.args.tables.now.items c.take_page-old.new.tables.items c.args.number c.take_page-old.ensures.rooms
    (subst (λ (tables : List Table). HasRoom tables c.args.number) c.as_slice.ensures.value (c.has_room.ensures.some c.if-has_room.true))

pub returns-else-has_room-clause-same : goal.returns-else-has_room-clause-same
returns-else-has_room-clause-same c = λ k.
    let past = subst (λ (tables : List Table). room_of (slice_get tables (c.args.number / 8192)) ≤ c.args.number % 8192) c.as_slice.ensures.value (c.has_room.ensures.none c.if-has_room.false) in
    bare_still c.args.rights (page_at c.args.tables.now.items c.args.number) (mark_at c.args.tables.now.items c.args.number) k
    (unless_false (has_none c.args.rights) (λ some. no_room_same c.args.tables.now.items c.args.number past (c.requires.room some)))
    (page_without_room c.args.tables.now.items c.args.number past)
