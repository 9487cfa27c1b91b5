use Rattle.std.proofs.Common.{◌≡◌, ◌≤◌, ◌-◌}
use Rattle.guest_pages.specs.Counting.{count_pages}
use Rattle.guest_pages.specs.Tables.{cells}
use Rattle.guest_pages.proofs.fresh.stored_of.Given as goal

abbrev pub invariant-pages : goal.invariant-pages
invariant-pages l = record { within : l.done ≤ l.count; below : l.stored ≤ l.done; counted : l.stored ≡ count_pages (cells l.tables) l.first l.done }

abbrev pub decreases-pages : goal.decreases-pages
decreases-pages l = l.count - l.done
