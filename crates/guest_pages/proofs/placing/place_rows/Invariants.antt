use Rattle.std.proofs.Common.{◌≡◌, ◌≤◌, ◌<◌, ◌+◌, ◌-◌, ◌*◌, ℕ, false, length}
use Rattle.std.specs.List.{All}
use Rattle.guest_pages.specs.Cells.{has_none}
use Rattle.guest_pages.specs.Mapping.{HasRoom, IsFresh, with_zeros}
use Rattle.guest_pages.specs.Tables.{cells, mark_at}
use Rattle.guest_pages.proofs.placing.place_rows.Given as goal

abbrev pub invariant-loop-i : goal.invariant-loop-i
invariant-loop-i l = record {
  cells : (a : ℕ) → cells l.tables.items a ≡ with_zeros (4096 * l.first) (4096 * l.i) l.rights (cells l.initial.tables.items) a;
  marks : (n : ℕ) → mark_at l.tables.items n ≡ mark_at l.initial.tables.items n;
  size : length l.tables.items ≡ length l.initial.tables.items;
  room : (n : ℕ) → l.first ≤ n → n < l.first + l.count → HasRoom l.tables.items n;
  zero : All IsFresh l.fresh.items;
  enough : has_none l.rights ≡ false → l.count - l.i ≤ length l.fresh.items;
}
