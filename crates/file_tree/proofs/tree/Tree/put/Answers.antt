-- The tree stays whole with the entry.
use Rattle.file_tree.proofs.PutFacts.{put_whole}
use Rattle.file_tree.proofs.StayFacts.{is_made, has_gained}
use Rattle.file_tree.proofs.PathLaws.{is_led}
use Rattle.file_tree.proofs.tree.Tree.put.Goals as goal

pub invariant_of-self : goal.invariant_of-self
invariant_of-self c =
    rw (c.in-Ok.ensures.ok, c.new_node-node.ensures)
    (put_whole c.args.self.now c.self.inside.nodes c.self.inside.next c.self.inside.count c.self.inside.bytes c.args.at c.args.name.now c.args.kind c.self.view_is c.self.invariant c.requires.can c.requires.plain)

pub returns-in-Ok-clause-made : goal.returns-in-Ok-clause-made
returns-in-Ok-clause-made c =
    rw (c.in-Ok.ensures.ok, c.new_node-node.ensures)
    (is_made c.args.self.now c.self.inside.nodes c.self.inside.next c.self.inside.count c.self.inside.bytes c.args.at c.args.name.now c.args.kind c.self.view_is c.self.invariant c.requires.can c.requires.plain)

pub returns-in-Ok-clause-leads : goal.returns-in-Ok-clause-leads
returns-in-Ok-clause-leads c =
    rw (c.in-Ok.ensures.ok, c.new_node-node.ensures)
    (is_led c.args.self.now c.self.inside.nodes c.self.inside.next c.self.inside.count c.self.inside.bytes c.args.at c.args.name.now c.args.kind c.self.view_is c.self.invariant c.requires.can c.requires.plain)

pub returns-in-Ok-clause-named : goal.returns-in-Ok-clause-named
returns-in-Ok-clause-named c =
    rw (c.in-Ok.ensures.ok, c.new_node-node.ensures)
    (has_gained c.args.self.now c.self.inside.nodes c.self.inside.next c.self.inside.count c.self.inside.bytes c.args.at c.args.name.now c.args.kind c.self.view_is c.self.invariant c.requires.can c.requires.plain)
