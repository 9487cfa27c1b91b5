-- What isn't refused can be made.
use Rattle.std.proofs.Common.{sym}
use Rattle.file_tree.proofs.MadeFacts.{makeable}
use Rattle.file_tree.proofs.tree.Tree.make_at.Goals as goal

pub put-requires-clause-can : goal.put-requires-clause-can
put-requires-clause-can c = makeable c.args.self.now.nodes c.args.at c.args.name.now c.args.ends (sym c.in-None.ensures)
