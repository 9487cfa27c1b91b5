use Rattle.std.proofs.Common.{◌≡◌, ℕ, List, drop, map}
use Rattle.isa_asm.specs.Places.{end_from, spot_from, start}
use Rattle.isa_asm.specs.Seen.{piece_seen, spot_in}
use Rattle.isa_asm.proofs.PlaceFacts.{or_else}
use Rattle.isa_asm.proofs.labels.place_labels.Given as goal

abbrev pub invariant-loop-index : goal.invariant-loop-index
invariant-loop-index l = record {
  spots : (name : List ℕ) → or_else (spot_in l.spots name) (spot_from name l.index l.layout (map piece_seen (drop l.index l.pieces))) ≡ spot_from name 0 start (map piece_seen l.pieces);
  ends : end_from l.layout (map piece_seen (drop l.index l.pieces)) ≡ end_from start (map piece_seen l.pieces);
}
