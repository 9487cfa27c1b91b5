-- The kind of the node that was found.
use Rattle.file_tree.proofs.CallFacts.{kind_found}
use Rattle.file_tree.proofs.tree.Tree.kind.Goals as goal

pub returns : goal.returns
returns c = kind_found c.args.self.now c.self.inside.nodes c.self.inside.next c.args.node c.in-Some.node.now c.kind.result c.self.view_is c.in-Some.ensures c.kind.ensures
