use Rattle.host_calls.specs.Host.{shared_of}
use Rattle.host_waits.proofs.Unready.{unready_if}
use Rattle.host_waits.proofs.WaitsOwe.{begun_owe_if}
use Rattle.host_waits.proofs.beginning.begin.Goals as goal

-- src/beginning.rt: what the definition owes
pub returns-clause-unready : goal.returns-clause-unready
returns-clause-unready c =
    unready_if c.begin_call.result c.args.thread c.args.call.now (shared_of c.args.host.now) (shared_of c.begin_call.new.host) c.begin_call.ensures.entered

pub returns-clause-owes : goal.returns-clause-owes
returns-clause-owes c =
    begun_owe_if c.begin_call.result c.args.thread c.args.call.now (shared_of c.args.host.now) (shared_of c.begin_call.new.host) c.begin_call.ensures.entered
