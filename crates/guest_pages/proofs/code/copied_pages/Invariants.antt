use Rattle.std.proofs.Common.{◌≡◌, ◌<◌, ℕ, length, get_or}
use Rattle.guest_pages.specs.Apart.{code_in}
use Rattle.guest_pages.specs.Tables.{cell_in}
use Rattle.guest_pages.specs.declared.page.Page.TheVariants.{Absent}
use Rattle.guest_pages.proofs.code.copied_pages.Given as goal

abbrev pub invariant-loop-i : goal.invariant-loop-i
invariant-loop-i l = record {
  size : length l.copies.items ≡ l.i;
  each : (n k : ℕ) → n < l.i → cell_in (get_or l.copies.items n Absent) k ≡ code_in (cell_in (get_or l.pages n Absent) k);
}
