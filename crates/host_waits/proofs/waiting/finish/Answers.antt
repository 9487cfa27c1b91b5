use Rattle.host_calls.specs.Host.{shared_of}
use Rattle.host_waits.proofs.WaitsOwe.{finished_owe_if}
use Rattle.host_waits.proofs.waiting.finish.Goals as goal

-- src/waiting.rt: what the definition owes
pub returns-clause-owes : goal.returns-clause-owes
returns-clause-owes c =
    finished_owe_if c.finish_call.result c.args.thread c.args.wait.now (shared_of c.args.host.now) (shared_of c.finish_call.new.host) c.finish_call.ensures.answer
