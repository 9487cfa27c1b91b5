use Rattle.futex_table.specs.Waiters.{passes}
use Rattle.futex_table.proofs.LoopFacts.{Keeps}
use Rattle.futex_table.proofs.taking.keep_others.Given as goal

abbrev pub invariant-keeping : goal.invariant-keeping
invariant-keeping l = Keeps (passes l.test) l.count l.fn.waiters l.waiters l.left l.kept l.place
