use Rattle.std.proofs.Common.{length, sym, ◌∙◌}
use Rattle.guest_pages.specs.Faults.{first_fault, writable}
use Rattle.host_calls.proofs.PathFacts.{never_bad}
use Rattle.host_calls.proofs.PieceFacts.{part_good}
use Rattle.host_calls.proofs.pieces.put_piece.Goals as goal

pub unreachable-requires : goal.unreachable-requires
unreachable-requires c =
    never_bad (first_fault writable c.args.pages.now c.args.piece.at (length c.args.bytes.now)) c.in-Err.field-0 tt
    (part_good writable c.args.pages.now c.args.piece.at (length c.args.bytes.now) c.args.piece.size c.requires.good c.requires.room)
    (sym c.copy_in.ensures.answer ∙ c.in-Err.is)
