-- The rest of the walk answers the same.
use Rattle.std.proofs.Common.{◌≡◌, length}
use Rattle.file_tree.specs.Paths.{names}
use Rattle.file_tree.specs.Walk.{follow}
use Rattle.file_tree.proofs.nodes.Nodes.follow.Given as goal

abbrev pub invariant-loop-name : goal.invariant-loop-name
invariant-loop-name l = follow l.self l.at (names l.rest) ≡ follow l.self l.from (names l.path)

abbrev pub decreases-loop-name : goal.decreases-loop-name
decreases-loop-name l = length l.rest
