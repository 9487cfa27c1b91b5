use Rattle.std.proofs.Common.{◌≡◌, ◌<◌, ℕ, length, slice_get}
use Rattle.guest_pages.specs.Apart.{code_in}
use Rattle.guest_pages.specs.Tables.{cell_in, page_in}
use Rattle.guest_pages.proofs.code.copied_tables.Given as goal

abbrev pub invariant-loop-i : goal.invariant-loop-i
invariant-loop-i l = record {
  size : length l.copies.items ≡ l.i;
  each : (n j k : ℕ) → n < l.i → cell_in (page_in (slice_get l.copies.items n) j) k ≡ code_in (cell_in (page_in (slice_get l.tables n) j) k);
}
