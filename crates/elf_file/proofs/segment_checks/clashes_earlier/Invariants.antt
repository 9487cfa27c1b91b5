use Rattle.std.proofs.Common.{◌≡◌, false}
use Rattle.elf_file.specs.Below.{any_below}
use Rattle.elf_file.specs.Headers.{clash_at}
use Rattle.elf_file.proofs.segment_checks.clashes_earlier.Given as goal

abbrev pub invariant-loop-earlier : goal.invariant-loop-earlier
invariant-loop-earlier l = any_below (λ j. clash_at l.bytes j l.index) l.earlier ≡ false
