use Rattle.std.proofs.Common.{◌≡◌, ◌++◌, map, take, drop}
use Rattle.word_memory.specs.declared.reservations.Held.{Held}
use Rattle.word_memory.specs.Reservations.{after_store}
use Rattle.word_memory.proofs.reservations.store_in.Given as goal

abbrev pub invariant-loop-held : goal.invariant-loop-held
invariant-loop-held l = l.all ≡ map (λ (h : Held). after_store l.thread l.start l.length h) (take l.held-index l.fn.all) ++ drop l.held-index l.fn.all
