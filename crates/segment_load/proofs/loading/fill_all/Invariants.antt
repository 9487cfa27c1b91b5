use Rattle.std.proofs.Common.{◌≤◌, drop, length, map}
use Rattle.elf_file.specs.Views.{segment_image}
use Rattle.segment_load.specs.Loading.{byte_at, is_touched, page_rights}
use Rattle.segment_load.specs.Steps.{HasPages}
use Rattle.segment_load.proofs.loading.fill_all.Given as goal

abbrev pub decreases-segments : goal.decreases-segments
decreases-segments l = l.left

abbrev pub invariant-segments : goal.invariant-segments
invariant-segments l = record {
  few : l.left ≤ length l.segments;
  filled : HasPages (is_touched (map segment_image l.segments)) (page_rights (map segment_image l.segments)) (byte_at (drop l.left (map segment_image l.segments))) l.memory;
}
