-- A linked file's bytes are in the sum.
use Rattle.std.proofs.Common.{sym, ◌∙◌}
use Rattle.file_tree.proofs.CallFacts.{size_within}
use Rattle.file_tree.proofs.tree.Tree.total_with.Goals as goal

pub overflow_sub-total : goal.overflow_sub-total
overflow_sub-total c =
    rw c.size.ensures (size_within c.self.inside.nodes c.self.inside.next c.self.inside.count c.self.inside.bytes c.args.file c.self.invariant (sym c.is_linked.ensures ∙ c.if-not-is_linked.false))
