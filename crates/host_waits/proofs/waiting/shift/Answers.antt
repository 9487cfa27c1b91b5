use Rattle.host_calls.specs.Host.{shared_of}
use Rattle.host_waits.proofs.WaitsOwe.{shifted_owe_if}
use Rattle.host_waits.proofs.waiting.shift.Goals as goal

-- src/waiting.rt: what the definition owes
pub returns-clause-owes : goal.returns-clause-owes
returns-clause-owes c =
    shifted_owe_if c.shift_call.result c.args.thread c.args.wait.now (shared_of c.args.host.now) (shared_of c.shift_call.new.host) c.shift_call.new.wait _ c.shift_call.ensures.went
