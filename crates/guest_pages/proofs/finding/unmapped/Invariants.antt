use Rattle.std.proofs.Common.{◌≡◌, ◌≤◌, ◌+◌, ◌-◌, ◌*◌}
use Rattle.guest_pages.specs.Faults.{first_unmapped}
use Rattle.guest_pages.specs.Tables.{held}
use Rattle.guest_pages.proofs.finding.unmapped.Given as goal

abbrev pub decreases-looking : goal.decreases-looking
decreases-looking l = l.page

abbrev pub invariant-looking : goal.invariant-looking
invariant-looking l = record {
  low : l.first ≤ l.page;
  high : l.page ≤ l.first + l.count;
  found : l.found ≡ first_unmapped (held l.tables) (4096 * l.page) (4096 * (l.first + l.count - l.page));
}
