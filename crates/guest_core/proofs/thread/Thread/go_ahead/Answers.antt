use Rattle.guest_core.proofs.PlainFacts.{plain_run}
use Rattle.guest_core.proofs.thread.Thread.go_ahead.Goals as goal

pub returns-clause-ran : goal.returns-clause-ran
returns-clause-ran c =
    rw c.pass.ensures (plain_run c.run_plain-made.result c.args.host.now c.args.self.now c.run_plain-made.new.regs c.run_plain-made.new.memory c.run_plain-made.new.held c.run_plain-made.ensures.ran)
