use Rattle.elf_file.specs.Headers.{ArePlaced}
use Rattle.elf_file.proofs.segment_checks.placed_count.Given as goal

abbrev pub invariant-loop-index : goal.invariant-loop-index
invariant-loop-index l = ArePlaced l.bytes l.index
