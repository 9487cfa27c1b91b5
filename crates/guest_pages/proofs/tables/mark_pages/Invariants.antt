use Rattle.std.proofs.Common.{◌≡◌, ◌≤◌, ◌-◌, ℕ, if◌then◌else◌, length, slice_get}
use Rattle.guest_pages.specs.Mapping.{HasRoom, room_of, words_of}
use Rattle.guest_pages.specs.Ranges.{within}
use Rattle.guest_pages.specs.Tables.{mark_at, page_at}
use Rattle.guest_pages.proofs.tables.mark_pages.Given as goal

abbrev pub invariant-marking : goal.invariant-marking
invariant-marking l = record {
  few : l.done ≤ l.count;
  marks : (n : ℕ) → mark_at l.tables.items n ≡ (if within l.first l.done n then l.on else mark_at l.initial.tables.items n);
  pages : (n : ℕ) → HasRoom l.initial.tables.items n → page_at l.tables.items n ≡ page_at l.initial.tables.items n;
  rooms : (k : ℕ) → room_of (slice_get l.tables.items k) ≡ room_of (slice_get l.initial.tables.items k);
  words : (k : ℕ) → words_of (slice_get l.tables.items k) ≡ words_of (slice_get l.initial.tables.items k);
  size : length l.tables.items ≡ length l.initial.tables.items;
}

abbrev pub decreases-marking : goal.decreases-marking
decreases-marking l = l.count - l.done
