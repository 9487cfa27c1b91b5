use Rattle.std.proofs.Common.{◌≡◌, ◌≤◌, drop, length, map}
use Rattle.elf_file.specs.Views.{segment_image}
use Rattle.segment_load.specs.Wanted.{is_stored_by}
use Rattle.segment_load.proofs.pairs.is_stored_by.Given as goal

abbrev pub decreases-segments : goal.decreases-segments
decreases-segments l = l.left

abbrev pub invariant-segments : goal.invariant-segments
invariant-segments l = record {
  few : l.left ≤ length l.segments;
  stored : l.stored ≡ is_stored_by (drop l.left (map segment_image l.segments)) l.page;
}
