use Rattle.std.proofs.Common.{◌≡◌, length}
use Rattle.std.specs.List.{All}
use Rattle.guest_pages.specs.Mapping.{IsFresh}
use Rattle.guest_pages.proofs.fresh.fresh_pages.Given as goal

abbrev pub invariant-loop-i : goal.invariant-loop-i
invariant-loop-i l = record { size : length l.pages.items ≡ l._i; zero : All IsFresh l.pages.items }
