use Rattle.std.proofs.Common.{◌≡◌, ◌≤◌, ◌-◌, false, length, drop}
use Rattle.guest_pages.specs.Faults.{writable}
use Rattle.host_calls.specs.Pieces.{any_bad, scattered}
use Rattle.host_calls.proofs.pieces.scatter.Given as goal

abbrev pub invariant-pieces : goal.invariant-pieces
invariant-pieces l = record {
  low : l.k ≤ length l.pieces;
  within : l.done ≤ length l.bytes;
  good : any_bad writable l.pages (drop l.k l.pieces) ≡ false;
  same : scattered l.thread (drop l.k l.pieces) (drop l.done l.bytes) (record { memory = l.pages; held = l.held })
      ≡ scattered l.thread l.pieces l.bytes (record { memory = l.initial.pages; held = l.initial.held });
}

abbrev pub decreases-pieces : goal.decreases-pieces
decreases-pieces l = length l.pieces - l.k
