-- The tree stays whole, and nothing else changes.
use Rattle.file_tree.proofs.FillFacts.{held_whole}
use Rattle.file_tree.proofs.StayFacts.{is_held_in}
use Rattle.file_tree.proofs.tree.Tree.hold.Goals as goal

pub invariant_of-self : goal.invariant_of-self
invariant_of-self c = rw c.hold.ensures (held_whole c.self.inside.nodes c.self.inside.next c.self.inside.count c.self.inside.bytes c.args.node c.self.invariant)

pub returns-clause-held : goal.returns-clause-held
returns-clause-held c = rw c.hold.ensures (is_held_in c.args.self.now c.self.inside.nodes c.self.inside.next c.self.inside.count c.self.inside.bytes c.args.node c.self.view_is c.self.invariant c.requires)
