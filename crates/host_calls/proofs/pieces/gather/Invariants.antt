use Rattle.std.proofs.Common.{◌≡◌, ◌≤◌, ◌+◌, ◌-◌, ◌++◌, false, length, drop}
use Rattle.guest_pages.specs.Faults.{readable}
use Rattle.host_calls.specs.Pieces.{any_bad, gathered, total}
use Rattle.host_calls.proofs.pieces.gather.Given as goal

abbrev pub invariant-pieces : goal.invariant-pieces
invariant-pieces l = record {
  low : l.k ≤ length l.pieces;
  good : any_bad readable l.pages (drop l.k l.pieces) ≡ false;
  few : length l.bytes.items + total (drop l.k l.pieces) ≡ total l.pieces;
  same : l.bytes.items ++ gathered l.pages (drop l.k l.pieces) ≡ gathered l.pages l.pieces;
}

abbrev pub decreases-pieces : goal.decreases-pieces
decreases-pieces l = length l.pieces - l.k
