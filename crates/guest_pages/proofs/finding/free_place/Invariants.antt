use Rattle.std.proofs.Common.{◌≡◌, ◌≤◌, ◌<◌, ◌+◌, ℕ, false}
use Rattle.guest_pages.specs.Tables.{held, page_at, is_present}
use Rattle.guest_pages.proofs.FindingFacts.{HasLooked}
use Rattle.guest_pages.proofs.finding.free_place.Given as goal

abbrev pub invariant-looking : goal.invariant-looking
invariant-looking l = record {
  looked : HasLooked (held l.tables) l.count l.page l.run;
  free : (n : ℕ) → l.page ≤ n → n < l.page + l.run → is_present (page_at l.tables n) ≡ false;
}

abbrev pub decreases-looking : goal.decreases-looking
decreases-looking l = l.page
