-- What the walk refuses is refused.
use Rattle.std.proofs.Common.{sym, refl}
use Rattle.file_tree.proofs.WalkFacts.{unlinked_err}
use Rattle.file_tree.proofs.tree.Tree.unlink.Goals as goal

pub returns-in-Err-clause-answers : goal.returns-in-Err-clause-answers
returns-in-Err-clause-answers c = (unlinked_err c.args.from c.args.path.now c.args.dir c.args.self.now c.in-Err.errno (sym c.in-Err.ensures.found), refl)
