use Rattle.std.proofs.Common.{sym, ◌∙◌}
use Rattle.guest_core.specs.State.{context}
use Rattle.guest_core.proofs.AheadFacts.{is_ready}
use Rattle.guest_core.proofs.thread.Thread.is_ready.Goals as goal

pub returns-then-self-clause-no : goal.returns-then-self-clause-no
returns-then-self-clause-no c = λ ready. sym (is_ready (context c.args.host.now c.args.self.now) ready).clear ∙ c.if-self.true

pub returns-in-Some-clause-no : goal.returns-in-Some-clause-no
returns-in-Some-clause-no c = λ ready. let none = sym (is_ready (context c.args.host.now c.args.self.now) ready).none ∙ sym c.first_new.ensures.first ∙ c.in-Some.is in cc

pub returns-in-Start-clause-no : goal.returns-in-Start-clause-no
returns-in-Start-clause-no c = λ ready. let loop = sym c.in-Start.is ∙ (is_ready (context c.args.host.now c.args.self.now) ready).loop in cc

pub returns-in-Window-clause-no : goal.returns-in-Window-clause-no
returns-in-Window-clause-no c = λ ready. let loop = sym c.in-Window.is ∙ (is_ready (context c.args.host.now c.args.self.now) ready).loop in cc

pub returns-in-Done-clause-no : goal.returns-in-Done-clause-no
returns-in-Done-clause-no c = λ ready. let loop = sym c.in-Done.is ∙ (is_ready (context c.args.host.now c.args.self.now) ready).loop in cc
