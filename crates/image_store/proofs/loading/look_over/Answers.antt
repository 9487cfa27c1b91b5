use Rattle.image_store.proofs.LoadFacts.{looked_out}
use Rattle.image_store.proofs.loading.look_over.Goals as goal

pub returns-in-Err-clause-fault : goal.returns-in-Err-clause-fault
returns-in-Err-clause-fault c =
    looked_out c.args.listed.now c.loop-entry.entry-index c.entry-item.result c.loop-entry.before c.in-Err.fault c.loop-entry-test.true c.entry-item.is c.loop-entry.invariant.rest c.in-Err.ensures.fault
