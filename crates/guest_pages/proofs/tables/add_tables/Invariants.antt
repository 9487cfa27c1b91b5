use Rattle.std.proofs.Common.{◌≡◌, ◌≤◌, ◌-◌, ℕ, length}
use Rattle.guest_pages.specs.Tables.{mark_at, page_at}
use Rattle.guest_pages.proofs.tables.add_tables.Given as goal

abbrev pub invariant-adding : goal.invariant-adding
invariant-adding l = record {
  pages : (n : ℕ) → page_at l.tables.items n ≡ page_at l.initial.tables.items n;
  marks : (n : ℕ) → mark_at l.tables.items n ≡ mark_at l.initial.tables.items n;
  small : length l.initial.tables.items ≤ 8192 → length l.tables.items ≤ 8192;
}

abbrev pub decreases-adding : goal.decreases-adding
decreases-adding l = l.wanted - length l.tables.items
