-- Each name is a text, and leads where it says.
use Rattle.file_tree.proofs.CallFacts.{names_utf8}
use Rattle.file_tree.proofs.SoundFacts.{sound_view}
use Rattle.file_tree.proofs.EntryFacts.{entry_walked}
use Rattle.file_tree.proofs.tree.Tree.names.Goals as goal

pub names-requires : goal.names-requires
names-requires c = names_utf8 c.self.inside.nodes c.self.inside.next c.self.inside.count c.self.inside.bytes c.args.dir c.in-Some.node.now c.self.invariant c.in-Some.ensures

pub returns-in-Some-clause-rising : goal.returns-in-Some-clause-rising
returns-in-Some-clause-rising c = (sound_view c.args.self.now c.self.inside.nodes c.self.inside.next c.self.inside.count c.self.inside.bytes c.self.view_is c.self.invariant).rising c.args.dir

pub returns-in-Some-clause-leads : goal.returns-in-Some-clause-leads
returns-in-Some-clause-leads c =
    entry_walked c.args.self.now (sound_view c.args.self.now c.self.inside.nodes c.self.inside.next c.self.inside.count c.self.inside.bytes c.self.view_is c.self.invariant) c.args.dir

pub returns-in-None-clause-rising : goal.returns-in-None-clause-rising
returns-in-None-clause-rising c = (sound_view c.args.self.now c.self.inside.nodes c.self.inside.next c.self.inside.count c.self.inside.bytes c.self.view_is c.self.invariant).rising c.args.dir

pub returns-in-None-clause-leads : goal.returns-in-None-clause-leads
returns-in-None-clause-leads c =
    entry_walked c.args.self.now (sound_view c.args.self.now c.self.inside.nodes c.self.inside.next c.self.inside.count c.self.inside.bytes c.self.view_is c.self.invariant) c.args.dir
