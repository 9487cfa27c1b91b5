use Rattle.std.proofs.Common.{◌≤◌, vec_capacity}
use Rattle.futex_table.specs.Waiters.{passes}
use Rattle.futex_table.proofs.LoopFacts.{Copies}
use Rattle.futex_table.proofs.taking.copy_first.Given as goal

abbrev pub invariant-copying : goal.invariant-copying
invariant-copying l = Copies (passes l.test) l.to l.count l.fn.waiters.items l.waiters.items l.left l.place × (vec_capacity l.fn.waiters ≤ vec_capacity l.waiters)
