use Rattle.std.proofs.Common.{◌≡◌, None}
use Rattle.elf_file.specs.Below.{below}
use Rattle.elf_file.specs.Checks.{first_fault, overlap_checks}
use Rattle.elf_file.proofs.pair_checks.check_overlaps.Given as goal

abbrev pub invariant-loop-index : goal.invariant-loop-index
invariant-loop-index l = first_fault (below (overlap_checks l.bytes) l.index) ≡ None
