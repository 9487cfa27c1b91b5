-- What every list of waiters keeps.
use Rattle.std.specs.Prelude.{◌≡◌, ◌≢◌, false, List, [], ◌∷◌}
use Rattle.futex_table.specs.declared.waiter.Waiter.{Waiter}
use Rattle.futex_table.specs.Waiters.{holds}

-- each thread waits once, for some bits
abbrev pub IsSound : List Waiter → Type 0
IsSound [] = Unit {0}
IsSound (waiter ∷ waiters) = (holds waiter.thread waiters ≡ false) × (waiter.bits ≢ 0) × IsSound waiters
