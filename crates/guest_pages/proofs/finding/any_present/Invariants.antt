use Rattle.std.proofs.Common.{◌≡◌, ◌≤◌, ◌<◌, ◌+◌, ℕ, false}
use Rattle.guest_pages.specs.Tables.{page_at, is_present}
use Rattle.guest_pages.proofs.finding.any_present.Given as goal

abbrev pub invariant-looking : goal.invariant-looking
invariant-looking l = record {
  low : l.first ≤ l.page;
  high : l.page ≤ l.first + l.count;
  free : (n : ℕ) → l.page ≤ n → n < l.first + l.count → is_present (page_at l.tables n) ≡ false;
}

abbrev pub decreases-looking : goal.decreases-looking
decreases-looking l = l.page
