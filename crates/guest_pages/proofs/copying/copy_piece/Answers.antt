use Rattle.std.proofs.Common.{◌≡◌, ◌+◌, ◌-◌, ◌%◌, ℕ, take, drop, length, sym, ap, ◌∙◌, arith}
use Rattle.guest_pages.proofs.ByteFacts.{page_bytes, good_page, good_held}
use Rattle.guest_pages.proofs.copying.copy_piece.Goals as goal

pub unreachable-requires : goal.unreachable-requires
unreachable-requires c =
    good_held c.args.needed _ c.args.at c.requires.needed
    (good_page c.args.needed c.args.tables.now c.args.at (length c.args.into.now) c.requires.small c.requires.some c.requires.allowed)
    c.in-None.ensures.bytes

pub returns : goal.returns
returns c =
    let k : c.args.at % 4096 + length c.args.into.now - c.args.at % 4096 ≡ length c.args.into.now = omega arith in
    c.copy_from_slice.ensures.after
    ∙ (ap (λ (m : ℕ). take m (drop (c.args.at % 4096) c.in-Some.bytes.now)) k
    ∙ sym (page_bytes c.args.needed c.args.tables.now c.args.at (length c.args.into.now) c.in-Some.bytes.now c.requires.small c.requires.needed c.in-Some.ensures.bytes c.in-Some.ensures.size c.requires.room))
