use Rattle.std.proofs.Common.{◌≡◌, ◌⊎◌, ◌≤◌, ◌<◌, ◌+◌, ◌-◌, ℕ, length, slice_get}
use Rattle.guest_pages.specs.Mapping.{HasRoom, room_of}
use Rattle.guest_pages.specs.Tables.{bare_if, mark_at, page_at}
use Rattle.guest_pages.proofs.tables.empty_held.Given as goal

abbrev pub invariant-emptying : goal.invariant-emptying
invariant-emptying l = record {
  within : l.done ≤ l.count;
  inside : (n : ℕ) → l.first ≤ n → n < l.first + l.done → HasRoom l.initial.tables.items n → page_at l.tables.items n ≡ bare_if l.mapped;
  others : (n : ℕ) → (n < l.first) ⊎ (l.first + l.done ≤ n) → page_at l.tables.items n ≡ page_at l.initial.tables.items n;
  marks : (n : ℕ) → mark_at l.tables.items n ≡ mark_at l.initial.tables.items n;
  rooms : (k : ℕ) → room_of (slice_get l.tables.items k) ≡ room_of (slice_get l.initial.tables.items k);
  size : length l.tables.items ≡ length l.initial.tables.items;
}

abbrev pub decreases-emptying : goal.decreases-emptying
decreases-emptying l = l.count - l.done
