use Rattle.std.proofs.Common.{◌≡◌, drop}
use Rattle.isa_asm.specs.Tables.{named, table_seen}
use Rattle.isa_asm.proofs.table.find.Given as goal

abbrev pub invariant-loop-text : goal.invariant-loop-text
invariant-loop-text g l = named l.name (table_seen (drop l.text-index l.table)) ≡ named l.name (table_seen l.table)
