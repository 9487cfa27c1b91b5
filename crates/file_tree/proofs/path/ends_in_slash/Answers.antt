-- The last byte of a path that has one.
use Rattle.file_tree.proofs.PathFacts.{last_slash}
use Rattle.std.proofs.Common.{arith}
use Rattle.file_tree.proofs.path.ends_in_slash.Goals as goal

pub returns-in-len1-up : goal.returns-in-len1-up
returns-in-len1-up c = last_slash c.args.path.now (omega arith)
