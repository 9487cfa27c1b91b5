use Rattle.std.proofs.Common.{arith}
use Rattle.futex_table.proofs.HeldFacts.{held_left, sound_left}
use Rattle.futex_table.proofs.table.FutexTable.leave.Goals as goal

pub invariant_of-self : goal.invariant_of-self
invariant_of-self c =
    let few = c.take_thread.ensures.few in
    let room = c.take_thread.ensures.room in
    let before = c.self.invariant.1 in
    (rw c.take_thread.ensures.others (sound_left c.args.tid c.self.inside.waiters.items c.self.invariant.0), omega arith)

pub returns-clause-held : goal.returns-clause-held
returns-clause-held c = λ thread. rw (c.take_thread.ensures.others, c.self.view_is) (held_left c.args.tid thread c.args.self.now)
