-- One part, or none.
use Rattle.std.proofs.Common.{sym, ◌∙◌, ap, Bool, if◌then◌else◌, [], ◌∷◌}
use Rattle.file_tree.specs.Paths.{dot}
use Rattle.file_tree.specs.Walk.{follow}
use Rattle.file_tree.proofs.WalkFacts.{follow_one, follow_none}
use Rattle.file_tree.proofs.nodes.Nodes.finish.Goals as goal

pub returns-then-ends_in_slash : goal.returns-then-ends_in_slash
returns-then-ends_in_slash c =
    c.step.ensures
    ∙ sym (ap (λ (b : Bool). follow c.args.self.now c.args.at (if b then dot ∷ [] else [])) (sym c.ends_in_slash.ensures ∙ c.if-ends_in_slash.true) ∙ follow_one c.args.self.now c.args.at dot)

pub returns : goal.returns
returns c =
    sym (ap (λ (b : Bool). follow c.args.self.now c.args.at (if b then dot ∷ [] else [])) (sym c.ends_in_slash.ensures ∙ c.if-ends_in_slash.false) ∙ follow_none c.args.self.now c.args.at)
