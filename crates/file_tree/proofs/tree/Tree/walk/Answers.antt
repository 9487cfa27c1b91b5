-- The walk by the names of the path, and the slash behind them.
use Rattle.std.proofs.Common.{sym, ◌∙◌}
use Rattle.file_tree.proofs.SoundFacts.{has_node, answer_has, answer_linked}
use Rattle.file_tree.proofs.StepFacts.{walks_there}
use Rattle.file_tree.proofs.WalkFacts.{refused_walk, walks, walks_err}
use Rattle.file_tree.proofs.tree.Tree.walk.Goals as goal

pub returns-in-Some-clause-found : goal.returns-in-Some-clause-found
returns-in-Some-clause-found c = sym (refused_walk c.args.self.now c.args.from c.args.path.now c.in-Some.errno (sym c.in-Some.ensures))

pub returns-in-Ok-clause-found : goal.returns-in-Ok-clause-found
returns-in-Ok-clause-found c =
    c.finish.ensures
    ∙ sym (walks c.args.self.now c.self.inside.nodes c.self.inside.next c.args.from c.start.result c.in-Ok.at c.args.path.now c.self.view_is c.start.ensures (sym c.in-None.ensures) c.in-Ok.ensures)

pub returns-in-Ok-clause-there : goal.returns-in-Ok-clause-there
returns-in-Ok-clause-there c =
    answer_has c.args.self.now c.finish.result
    (walks_there c.args.self.now c.self.inside.nodes c.self.inside.next c.self.inside.count c.self.inside.bytes c.args.from c.args.path.now c.finish.result c.self.view_is c.self.invariant (has_node c.args.self.now c.args.from c.requires)
    (returns-in-Ok-clause-found c))

pub returns-in-Ok-clause-linked : goal.returns-in-Ok-clause-linked
returns-in-Ok-clause-linked c =
    answer_linked c.args.self.now c.self.inside.nodes c.self.inside.next c.self.inside.count c.self.inside.bytes c.args.from c.args.path.now c.finish.result c.self.view_is c.self.invariant
    (returns-in-Ok-clause-found c)

pub returns-in-Err-clause-found : goal.returns-in-Err-clause-found
returns-in-Err-clause-found c =
    sym (walks_err c.args.self.now c.self.inside.nodes c.self.inside.next c.args.from c.start.result c.args.path.now c.in-Err.errno c.self.view_is c.start.ensures (sym c.in-None.ensures) c.in-Err.ensures)
