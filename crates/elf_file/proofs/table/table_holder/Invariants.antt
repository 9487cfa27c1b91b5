use Rattle.std.proofs.Common.{◌≡◌, None}
use Rattle.elf_file.specs.Below.{first_below}
use Rattle.elf_file.specs.Headers.{holds_table}
use Rattle.elf_file.proofs.table.table_holder.Given as goal

abbrev pub invariant-loop-index : goal.invariant-loop-index
invariant-loop-index l = first_below (holds_table l.bytes) l.index ≡ None
