use Rattle.std.proofs.Common.{ℕ, ◌-◌, ◌<◌, ◌≤◌, get_or, length}
use Rattle.guest_core.specs.declared.thread.Thread as code
use Rattle.guest_core.proofs.state.place_of.Given as goal

-- all below have a lower id, and all from the upper end on a greater one
abbrev pub invariant-loop-low : goal.invariant-loop-low
invariant-loop-low l = record {
  within : l.high ≤ length l.threads;
  below : (k : ℕ) (d : code.Thread) → k < l.low → (get_or l.threads k d).id < l.id;
  above : (k : ℕ) (d : code.Thread) → l.high ≤ k → k < length l.threads → l.id < (get_or l.threads k d).id;
}

abbrev pub decreases-loop-low : goal.decreases-loop-low
decreases-loop-low l = l.high - l.low
