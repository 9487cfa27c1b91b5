use Rattle.std.proofs.Common.{◌≤◌, ◌/◌, ◌%◌, List, slice_get, subst}
use Rattle.guest_pages.specs.declared.page.Table.{Table}
use Rattle.guest_pages.specs.Mapping.{room_of}
use Rattle.guest_pages.proofs.MapFacts.{no_room_same}
use Rattle.guest_pages.proofs.tables.empty_page.Goals as goal

pub returns-else-has_room-clause-same : goal.returns-else-has_room-clause-same
returns-else-has_room-clause-same c = λ room.
    absurd (no_room_same c.args.tables.now.items c.args.number
    (subst (λ (tables : List Table). room_of (slice_get tables (c.args.number / 8192)) ≤ c.args.number % 8192) c.as_slice.ensures.value (c.has_room.ensures.none c.if-has_room.false)) room)
