-- The directory that was made last is in the tree.
use Rattle.file_tree.specs.Nodes.{Has}
use Rattle.file_tree.proofs.tests.deep.Given as goal

abbrev pub invariant-loop : goal.invariant-loop
invariant-loop l = Has l.tree l.at
