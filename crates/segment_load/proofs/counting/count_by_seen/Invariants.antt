use Rattle.std.proofs.Common.{◌≡◌, ◌≤◌, ◌-◌, ◌^◌, drop, length, map, min}
use Rattle.elf_file.specs.Views.{segment_image}
use Rattle.segment_load.specs.Seen.{HasSeen}
use Rattle.segment_load.specs.Wanted.{pages_of}
use Rattle.segment_load.proofs.counting.count_by_seen.Given as goal

abbrev pub decreases-segments : goal.decreases-segments
decreases-segments l = l.left

abbrev pub invariant-segments : goal.invariant-segments
invariant-segments l = record {
  few : l.left ≤ length l.segments;
  wanted : l.wanted ≡ min (pages_of (drop l.left (map segment_image l.segments))) (2 ^ 64 - 1);
  seen : HasSeen (drop l.left (map segment_image l.segments)) l.seen;
}
