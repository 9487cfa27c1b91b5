use Rattle.std.proofs.Common.{map}
use Rattle.isa_asm.specs.Seen.{piece_seen}
use Rattle.isa_asm.proofs.SourceFacts.{IsAt}
use Rattle.isa_asm.proofs.source.split.Given as goal

abbrev pub invariant-loop-place : goal.invariant-loop-place
invariant-loop-place l = IsAt l.source l.place (map piece_seen l.pieces.items) l.scan
