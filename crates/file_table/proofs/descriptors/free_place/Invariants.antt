use Rattle.std.proofs.Common.{◌≡◌, ◌≤◌, ◌-◌, length, drop}
use Rattle.file_table.specs.Descriptors.{free_from, free_place}
use Rattle.file_table.proofs.descriptors.free_place.Given as goal

abbrev pub invariant-looking : goal.invariant-looking
invariant-looking g l = record {
  low : l.number ≤ length l.places;
  same : free_from l.least l.number (drop l.number l.places) ≡ free_place l.least l.places;
}

abbrev pub decreases-looking : goal.decreases-looking
decreases-looking g l = length l.places - l.number
