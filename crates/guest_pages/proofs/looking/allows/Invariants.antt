use Rattle.std.proofs.Common.{◌≡◌}
use Rattle.guest_pages.specs.Faults.{first_fault}
use Rattle.guest_pages.specs.Tables.{held}
use Rattle.guest_pages.proofs.looking.allows.Given as goal

abbrev pub invariant-loop-left : goal.invariant-loop-left
invariant-loop-left l = first_fault l.needed (held l.tables) l.at l.count ≡ first_fault l.needed (held l.tables) l.place l.left

abbrev pub decreases-loop-left : goal.decreases-loop-left
decreases-loop-left l = l.left
