use Rattle.std.proofs.Common.{◌≡◌, ℕ, List, [], ◌∷◌, Option, None, Ok, ap, arith, ◌∙◌}
use Rattle.guest_pages.specs.declared.fault.PageFault.{PageFault}
use Rattle.guest_pages.specs.Faults.{answer_or, first_fault, writable}
use Rattle.guest_pages.specs.Limits.{trampoline}
use Rattle.guest_pages.specs.Operations.{written}
use Rattle.guest_core.proofs.RoomFacts.{can_fill, close_want, map_want}
use Rattle.guest_core.proofs.starting.add_trampoline.Goals as goal

bytes : List ℕ
bytes = 0x93 ∷ 0x08 ∷ 0xB0 ∷ 0x08 ∷ 0x73 ∷ 0 ∷ 0 ∷ 0 ∷ []

pub want_of-requires : goal.want_of-requires
want_of-requires c =
    map_want c.map.result c.in-Err.fault c.args.memory.now c.in-Err.is c.map.ensures.full c.map.ensures.mapped c.requires

pub unreachable-requires : goal.unreachable-requires
unfolding bytes
unreachable-requires c =
    let none : first_fault writable c.map.new.self trampoline 8 ≡ None = can_fill c.args.memory.now c.map.new.self bytes c.in-Ok.ensures.ok (omega arith) c.requires in
    let ok : c.copy_in.result ≡ Ok tt = c.copy_in.ensures.answer ∙ ap (λ (o : Option PageFault). answer_or o (tt {0})) none in
    let is = c.in-Err-copy_in.is in
    cc

pub want_of-requires-in-Err-protect : goal.want_of-requires-in-Err-protect
unfolding bytes
want_of-requires-in-Err-protect c =
    close_want c.protect.result c.in-Err-protect.fault c.args.memory.now c.copy_in.new.self bytes c.in-Err-protect.is
    (c.in-Ok-copy_in.ensures.ok ∙ ap (written trampoline bytes) c.in-Ok.ensures.ok)
    c.protect.ensures.full c.protect.ensures.mapped c.requires
