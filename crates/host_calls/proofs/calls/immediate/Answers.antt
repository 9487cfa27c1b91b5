use Rattle.host_calls.specs.Host.{shared_of}
use Rattle.host_calls.proofs.CallsOwe.{owes_if}
use Rattle.host_calls.proofs.calls.immediate.Goals as goal

pub returns-clause-owes : goal.returns-clause-owes
returns-clause-owes c = owes_if c.answer.result c.args.thread c.args.call.now (shared_of c.args.host.now) (shared_of c.answer.new.self) c.answer.ensures.answer
