use Rattle.std.proofs.Common.{◌≡◌, true, false, drop, map}
use Rattle.isa_asm.specs.Places.{fault_from, items_from, start}
use Rattle.isa_asm.specs.Seen.{piece_seen, places_seen}
use Rattle.isa_asm.proofs.StepFacts.{Extends}
use Rattle.isa_asm.proofs.assembling.assemble_pieces.Given as goal

abbrev pub invariant-loop-index : goal.invariant-loop-index
invariant-loop-index l = record {
  fault : fault_from (places_seen l.labels) l.index l.layout (map piece_seen (drop l.index l.pieces)) ≡ fault_from (places_seen l.labels) 0 start (map piece_seen l.pieces);
  text : Extends l.sections.text.items (items_from false (places_seen l.labels) l.index l.layout (map piece_seen (drop l.index l.pieces))) (items_from false (places_seen l.labels) 0 start (map piece_seen l.pieces));
  data_bytes : Extends l.sections.data_bytes.items (items_from true (places_seen l.labels) l.index l.layout (map piece_seen (drop l.index l.pieces))) (items_from true (places_seen l.labels) 0 start (map piece_seen l.pieces));
}
