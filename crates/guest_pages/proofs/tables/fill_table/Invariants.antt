use Rattle.std.proofs.Common.{◌≡◌, ◌≤◌, ◌-◌, ℕ, length, Some}
use Rattle.guest_pages.specs.Tables.{page_in}
use Rattle.guest_pages.proofs.tables.fill_table.Given as goal

abbrev pub invariant-filling : goal.invariant-filling
invariant-filling l = record {
  pages : (n : ℕ) → page_in (Some l.table) n ≡ page_in (Some l.initial.table) n;
  marks : l.table.mapped ≡ l.initial.table.mapped;
  room : length l.initial.table.pages.items ≤ length l.table.pages.items;
}

abbrev pub decreases-filling : goal.decreases-filling
decreases-filling l = 8192 - length l.table.pages.items
