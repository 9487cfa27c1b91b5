use Rattle.std.proofs.Common.{◌≡◌, ◌≤◌, ◌<◌, ◌+◌, ◌-◌, ◌*◌, ℕ, false, length}
use Rattle.std.specs.List.{All}
use Rattle.guest_pages.specs.Cells.{has_none}
use Rattle.guest_pages.specs.Counting.{count_pages}
use Rattle.guest_pages.specs.Mapping.{HasRoom, IsFresh, with_new_rights}
use Rattle.guest_pages.specs.Tables.{cells, mark_at}
use Rattle.guest_pages.proofs.placing.change_rows.Given as goal

abbrev pub decreases-changing : goal.decreases-changing
decreases-changing l = l.count - l.done

abbrev pub invariant-changing : goal.invariant-changing
invariant-changing l = record {
  within : l.done ≤ l.count;
  changed : (a : ℕ) → cells l.tables.items a ≡ with_new_rights (4096 * l.first) (4096 * l.done) l.rights (cells l.initial.tables.items) a;
  marks : (n : ℕ) → mark_at l.tables.items n ≡ mark_at l.initial.tables.items n;
  size : length l.tables.items ≡ length l.initial.tables.items;
  room : has_none l.rights ≡ false → (n : ℕ) → l.first ≤ n → n < l.first + l.count → HasRoom l.tables.items n;
  zero : All IsFresh l.fresh.items;
  enough : has_none l.rights ≡ false → l.count - l.done ≤ length l.fresh.items + count_pages (cells l.initial.tables.items) (l.first + l.done) (l.count - l.done);
}
