use Rattle.std.proofs.Common.{◌≡◌, ℕ, ◌<◌, ◌≤◌, length, get_or}
use Rattle.image_store.proofs.listing.last_slash.Given as goal

-- no slash stands behind what is left
abbrev pub invariant-loop-end : goal.invariant-loop-end
invariant-loop-end l = record {
  within : l.end ≤ length l.path;
  none : (place : ℕ) → l.end ≤ place → place < length l.path → get_or l.path place 0 ≡ 47 → ⊥;
}

abbrev pub decreases-loop-end : goal.decreases-loop-end
decreases-loop-end l = l.end
