-- The length of the first name is the place of the first slash, or the whole path.
use Rattle.std.proofs.Common.{sym}
use Rattle.file_tree.proofs.PathFacts.{length_some, length_none}
use Rattle.file_tree.proofs.path.name_length.Goals as goal

pub returns-in-Some : goal.returns-in-Some
returns-in-Some c = length_some c.args.path.now c.in-Some.slash (sym c.in-Some.ensures)

pub returns-in-None : goal.returns-in-None
returns-in-None c = length_none c.args.path.now (sym c.in-None.ensures)
