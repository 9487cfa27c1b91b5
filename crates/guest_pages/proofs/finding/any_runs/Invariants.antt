use Rattle.std.proofs.Common.{◌≡◌, ◌≤◌, ◌<◌, ◌+◌, ◌-◌, ℕ, false}
use Rattle.guest_pages.specs.Tables.{page_at, runs_in}
use Rattle.guest_pages.proofs.finding.any_runs.Given as goal

abbrev pub invariant-looking : goal.invariant-looking
invariant-looking l = record {
  within : l.done ≤ l.count;
  none : (n : ℕ) → l.first ≤ n → n < l.first + l.done → runs_in (page_at l.tables n) ≡ false;
}

abbrev pub decreases-looking : goal.decreases-looking
decreases-looking l = l.count - l.done
