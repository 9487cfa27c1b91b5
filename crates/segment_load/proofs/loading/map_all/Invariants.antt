use Rattle.std.proofs.Common.{◌≤◌, drop, length, map}
use Rattle.elf_file.specs.Views.{segment_image}
use Rattle.segment_load.specs.Loading.{is_touched}
use Rattle.segment_load.specs.Steps.{HasPages, no_rights, zeros}
use Rattle.segment_load.proofs.loading.map_all.Given as goal

abbrev pub decreases-segments : goal.decreases-segments
decreases-segments l = l.left

abbrev pub invariant-segments : goal.invariant-segments
invariant-segments l = record {
  few : l.left ≤ length l.segments;
  mapped : HasPages (is_touched (drop l.left (map segment_image l.segments))) no_rights zeros l.memory;
}
