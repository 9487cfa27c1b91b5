use Rattle.std.proofs.Common.{◌≡◌, ℕ, ◌≤◌, ◌-◌, length, take}
use Rattle.guest_pages.specs.Tables.{cells, mark_at, rows_of}
use Rattle.guest_pages.specs.Writes.{with_bytes}
use Rattle.guest_pages.proofs.writing.copy_into.Given as goal

abbrev pub invariant-loop-done : goal.invariant-loop-done
invariant-loop-done l = record {
  within : l.done ≤ length l.bytes;
  marks : (n : ℕ) → mark_at (rows_of l.tables) n ≡ mark_at (rows_of l.initial.tables) n;
  size : length (rows_of l.tables) ≡ length (rows_of l.initial.tables);
  copied : (a : ℕ) → cells (rows_of l.tables) a ≡ with_bytes l.at (take l.done l.bytes) (cells (rows_of l.initial.tables)) a;
}

abbrev pub decreases-loop-done : goal.decreases-loop-done
decreases-loop-done l = length l.bytes - l.done
