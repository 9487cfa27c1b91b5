-- It is the first free place, or the one behind the last.
use Rattle.std.proofs.Common.{sym}
use Rattle.file_table.proofs.CountFacts.{vacant_found, vacant_end}
use Rattle.file_table.proofs.opening.vacant.Goals as goal

pub returns-in-Some : goal.returns-in-Some
returns-in-Some c = sym (vacant_found c.args.places.now c.in-Some.number (sym c.in-Some.ensures))

pub returns-in-None : goal.returns-in-None
returns-in-None c = sym (vacant_end c.args.places.now (sym c.in-None.ensures))
