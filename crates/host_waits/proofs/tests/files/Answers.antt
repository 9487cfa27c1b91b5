-- In a tree that has the root alone nothing is held.
use Rattle.std.proofs.Common.{◌≡◌, sym, subst}
use Rattle.file_tree.specs.Nodes.{Tree, holds_in}
use Rattle.file_table.proofs.StartFacts.{new_holds}
use Rattle.host_waits.proofs.tests.files.Goals as goal

pub new-requires-2-clause-free : goal.new-requires-2-clause-free
new-requires-2-clause-free c = λ inode. subst (λ (t : Tree). holds_in t inode ≡ 0) (sym c.in_ok-tree.ensures.alone) (new_holds inode)
