use Rattle.std.proofs.Common.{◌≡◌, None}
use Rattle.elf_file.specs.Below.{below}
use Rattle.elf_file.specs.Checks.{first_fault, segment_checks}
use Rattle.elf_file.specs.Headers.{ArePlaced}
use Rattle.elf_file.proofs.segment_checks.check_segments.Given as goal

abbrev pub invariant-loop-index : goal.invariant-loop-index
invariant-loop-index l = record {
  passed : first_fault (below (segment_checks l.bytes) l.index) ≡ None;
  placed : ArePlaced l.bytes l.index;
}
