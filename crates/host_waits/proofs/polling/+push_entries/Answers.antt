use Rattle.std.proofs.Common.{arith}
use Rattle.host_calls.proofs.VectorFacts.{ok_map}
use Rattle.host_waits.proofs.PartFacts.{pushed_none, pushed_on}
use Rattle.host_waits.proofs.PollFacts.{entries_none, entries_step}
use Rattle.host_waits.proofs.polling.+push_entries.Goals as goal

pub returns-then-count-eq0-clause-entries : goal.returns-then-count-eq0-clause-entries
returns-then-count-eq0-clause-entries t c = pushed_none _ _ (entries_none c.args.count c.args.bytes.now c.if-count-eq0.true)

pub returns-in-Ok-clause-entries : goal.returns-in-Ok-clause-entries
returns-in-Ok-clause-entries t c = ok_map c.push_entries.result _ _ (λ rest.
    pushed_on _ _ _ _ _ _ c.in-Ok.ensures.items rest (entries_step c.args.count c.args.bytes.now c.polled_in.result (omega arith) c.polled_in.ensures)) c.push_entries.ensures.entries
