use Rattle.std.proofs.Common.{◌≡◌, map, take}
use Rattle.elf_file.specs.Segments.{top_of}
use Rattle.elf_file.specs.Views.{segment_image}
use Rattle.elf_file.proofs.loading.top_of.Given as goal

abbrev pub invariant-loop-segment : goal.invariant-loop-segment
invariant-loop-segment l = l.top ≡ top_of (map segment_image (take l.segment-index l.segments))
