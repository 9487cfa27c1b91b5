use Rattle.std.proofs.Common.{◌≡◌, map}
use Rattle.elf_file.specs.Headers.{segments_below}
use Rattle.elf_file.specs.Views.{segment_image}
use Rattle.elf_file.proofs.loading.load_segments.Given as goal

abbrev pub invariant-loop-index : goal.invariant-loop-index
invariant-loop-index l = map segment_image l.segments.items ≡ segments_below l.bytes l.index
