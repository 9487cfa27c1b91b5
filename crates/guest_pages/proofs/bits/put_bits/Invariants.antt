use Rattle.std.proofs.Common.{◌≡◌, ◌≤◌, ◌-◌, ℕ, if◌then◌else◌, length}
use Rattle.guest_pages.specs.Bits.{bit_of}
use Rattle.guest_pages.specs.Ranges.{within}
use Rattle.guest_pages.proofs.bits.put_bits.Given as goal

abbrev pub invariant-putting : goal.invariant-putting
invariant-putting l = record {
  few : l.done ≤ l.count;
  bits : (k : ℕ) → bit_of l.words k ≡ (if within l.first l.done k then l.on else bit_of l.initial.words k);
  size : length l.words ≡ length l.initial.words;
}

abbrev pub decreases-putting : goal.decreases-putting
decreases-putting l = l.count - l.done
