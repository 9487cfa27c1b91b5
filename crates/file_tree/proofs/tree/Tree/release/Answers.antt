-- The tree stays whole.
use Rattle.std.proofs.Common.{◌<◌, sym, subst}
use Rattle.file_tree.specs.Nodes.{Tree, holds_in}
use Rattle.file_tree.proofs.FillFacts.{released_whole}
use Rattle.file_tree.proofs.StayFacts.{is_released_in}
use Rattle.file_tree.proofs.tree.Tree.release.Goals as goal

pub invariant_of-self : goal.invariant_of-self
unfolding holds_in
invariant_of-self c =
    let some : 0 < holds_in (record { nodes = c.self.inside.nodes; next = c.self.inside.next }) c.args.node = subst (λ (t : Tree). 0 < holds_in t c.args.node) (sym c.self.view_is) c.requires in
    rw c.release.ensures (released_whole c.self.inside.nodes c.self.inside.next c.self.inside.count c.self.inside.bytes c.args.node c.self.invariant some)

pub returns-clause-released : goal.returns-clause-released
returns-clause-released c =
    rw c.release.ensures (is_released_in c.args.self.now c.self.inside.nodes c.self.inside.next c.self.inside.count c.self.inside.bytes c.args.node c.self.view_is c.self.invariant c.requires)
