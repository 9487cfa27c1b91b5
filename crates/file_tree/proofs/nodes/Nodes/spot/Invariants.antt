-- The rest of the walk answers the same.
use Rattle.std.proofs.Common.{◌≡◌, ◌∷◌, length}
use Rattle.file_tree.specs.Paths.{names}
use Rattle.file_tree.specs.Walk.{spotted}
use Rattle.file_tree.proofs.nodes.Nodes.spot.Given as goal

abbrev pub invariant-loop-next : goal.invariant-loop-next
invariant-loop-next l = spotted l.self l.at (l.name ∷ names l.rest) ≡ spotted l.self l.from (names l.path)

abbrev pub decreases-loop-next : goal.decreases-loop-next
decreases-loop-next l = length l.rest
