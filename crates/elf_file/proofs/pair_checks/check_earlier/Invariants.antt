use Rattle.std.proofs.Common.{◌≡◌, None}
use Rattle.elf_file.specs.Below.{below}
use Rattle.elf_file.specs.Checks.{first_fault, pair_checks}
use Rattle.elf_file.proofs.pair_checks.check_earlier.Given as goal

abbrev pub invariant-loop-earlier : goal.invariant-loop-earlier
invariant-loop-earlier l = first_fault (below (pair_checks l.bytes l.index) l.earlier) ≡ None
