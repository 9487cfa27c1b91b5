use Rattle.std.proofs.Common.{◌≡◌, false}
use Rattle.elf_file.specs.Below.{any_below}
use Rattle.elf_file.specs.Headers.{runs_entry}
use Rattle.elf_file.proofs.entry_check.any_runs_entry.Given as goal

abbrev pub invariant-loop-index : goal.invariant-loop-index
invariant-loop-index l = any_below (runs_entry l.bytes) l.index ≡ false
