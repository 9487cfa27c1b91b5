use Rattle.std.proofs.Common.{◌≡◌, ◌≤◌, ◌-◌, ℕ, length}
use Rattle.guest_pages.specs.Bits.{bit_of}
use Rattle.guest_pages.proofs.tables.fill_marks.Given as goal

abbrev pub invariant-filling : goal.invariant-filling
invariant-filling l = record {
  pages : l.table.pages ≡ l.initial.table.pages;
  marks : (n : ℕ) → bit_of l.table.mapped.items n ≡ bit_of l.initial.table.mapped.items n;
  room : length l.initial.table.mapped.items ≤ length l.table.mapped.items;
}

abbrev pub decreases-filling : goal.decreases-filling
decreases-filling l = 128 - length l.table.mapped.items
