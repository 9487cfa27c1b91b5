-- The tree stays whole without the entry.
use Rattle.file_tree.proofs.CallFacts.{taken_whole}
use Rattle.file_tree.proofs.TakenFacts.{is_taken, has_lost}
use Rattle.file_tree.proofs.PathLaws.{is_lost}
use Rattle.file_tree.proofs.tree.Tree.take.Goals as goal

pub overflow_sub-self : goal.overflow_sub-self
overflow_sub-self c =
    (taken_whole c.args.self.now c.self.inside.nodes c.self.inside.next c.self.inside.count c.self.inside.bytes c.args.at c.args.inode c.args.name.now c.self.view_is c.self.invariant c.requires.entry c.requires.can).0

pub overflow_sub-self-2 : goal.overflow_sub-self-2
overflow_sub-self-2 c =
    rw c.size-size.ensures (taken_whole c.args.self.now c.self.inside.nodes c.self.inside.next c.self.inside.count c.self.inside.bytes c.args.at c.args.inode c.args.name.now c.self.view_is c.self.invariant c.requires.entry c.requires.can).1

pub invariant_of-self : goal.invariant_of-self
invariant_of-self c =
    rw (c.unlink.ensures, c.size-size.ensures) (taken_whole c.args.self.now c.self.inside.nodes c.self.inside.next c.self.inside.count c.self.inside.bytes c.args.at c.args.inode c.args.name.now c.self.view_is c.self.invariant c.requires.entry c.requires.can).2

pub returns-clause-taken : goal.returns-clause-taken
returns-clause-taken c =
    rw c.unlink.ensures
    (is_taken c.args.self.now c.self.inside.nodes c.self.inside.next c.self.inside.count c.self.inside.bytes c.args.at c.args.inode c.args.name.now c.self.view_is c.self.invariant c.requires.entry c.requires.can)

pub returns-clause-loses : goal.returns-clause-loses
returns-clause-loses c =
    rw c.unlink.ensures
    (is_lost c.args.self.now c.self.inside.nodes c.self.inside.next c.self.inside.count c.self.inside.bytes c.args.at c.args.inode c.args.name.now c.self.view_is c.self.invariant c.requires.entry c.requires.can)

pub returns-clause-unnamed : goal.returns-clause-unnamed
returns-clause-unnamed c =
    rw c.unlink.ensures
    (has_lost c.args.self.now c.self.inside.nodes c.self.inside.next c.self.inside.count c.self.inside.bytes c.args.at c.args.inode c.args.name.now c.self.view_is c.self.invariant c.requires.entry c.requires.can)
