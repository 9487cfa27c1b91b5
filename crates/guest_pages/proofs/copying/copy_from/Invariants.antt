use Rattle.std.proofs.Common.{◌≡◌, ◌≤◌, ◌-◌, length, take}
use Rattle.guest_pages.specs.Operations.{bytes_at}
use Rattle.guest_pages.specs.Tables.{held}
use Rattle.guest_pages.proofs.copying.copy_from.Given as goal

abbrev pub invariant-loop-done : goal.invariant-loop-done
invariant-loop-done l = record { within : l.done ≤ l.size; size : length l.into ≡ l.size; copied : take l.done l.into ≡ bytes_at (held l.tables) l.at l.done }

abbrev pub decreases-loop-done : goal.decreases-loop-done
decreases-loop-done l = l.size - l.done
