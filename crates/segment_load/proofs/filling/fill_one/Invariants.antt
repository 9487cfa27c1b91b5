use Rattle.std.proofs.Common.{◌≤◌, ◌-◌, ℕ, Bool, length, take}
use Rattle.guest_pages.specs.declared.rights.Rights.{Rights}
use Rattle.segment_load.specs.Steps.{HasPages, over}
use Rattle.segment_load.proofs.filling.fill_one.Given as goal

abbrev pub decreases-pages : goal.decreases-pages
decreases-pages l = length l.bytes - l.done

abbrev pub invariant-pages : goal.invariant-pages
invariant-pages l = record {
  few : l.done ≤ length l.bytes;
  filled : (m : ℕ → Bool) (r : ℕ → Rights) (b : ℕ → ℕ) → HasPages m r b l.fn.memory → HasPages m r (over l.segment.at (take l.done l.bytes) b) l.memory;
}
