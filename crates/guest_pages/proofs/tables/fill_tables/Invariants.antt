use Rattle.std.proofs.Common.{◌≡◌, ◌≤◌, ◌<◌, ℕ, true, length, slice_get}
use Rattle.guest_pages.specs.Mapping.{room_of, words_of}
use Rattle.guest_pages.specs.Tables.{mark_at, page_at}
use Rattle.guest_pages.proofs.tables.fill_tables.Given as goal

abbrev pub invariant-loop-i : goal.invariant-loop-i
invariant-loop-i l = record {
  pages : (n : ℕ) → page_at l.tables.items n ≡ page_at l.fn.tables.items n;
  marks : (n : ℕ) → mark_at l.tables.items n ≡ mark_at l.fn.tables.items n;
  size : length l.tables.items ≡ length l.initial.tables.items;
  words : (k : ℕ) → l.from ≤ k → k < l.i → 128 ≤ words_of (slice_get l.tables.items k);
  room : l.held ≡ true → (k : ℕ) → l.from ≤ k → k < l.i → 8192 ≤ room_of (slice_get l.tables.items k);
}
