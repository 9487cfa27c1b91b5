use Rattle.image_store.proofs.AllPathFacts.{AreClosed}
use Rattle.image_store.proofs.all_paths.find_paths.Given as goal

-- the paths below those so far are there
abbrev pub invariant-loop-place : goal.invariant-loop-place
invariant-loop-place l = AreClosed l.tree l.paths.items l.place
