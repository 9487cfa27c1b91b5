-- A read of what stands ready needs no more room than that.
use Rattle.std.proofs.Common.{◌≡◌, ℕ, List, Result, ap, subst, ◌∙◌}
use Rattle.std.specs.Prelude.{IfOk}
use Rattle.file_table.specs.declared.fault.FileFault.{FileFault}
use Rattle.file_table.specs.Due.{Done}
use Rattle.file_table.specs.Moving.{read as read_table}
use Rattle.file_table.proofs.PeekFacts.{read_same}
use Rattle.host_calls.specs.Host.{gives, shared_of}
use Rattle.host_calls.specs.Moving.{taken}
use Rattle.host_calls.proofs.host.Host.take_in.Goals as goal

pub returns-clause-answer : goal.returns-clause-answer
returns-clause-answer c =
    subst (λ (due : Result (Done (List ℕ)) FileFault). IfOk c.take_so_many.result (λ answer. gives answer c.take_so_many.new.self ≡ taken c.args.thread c.args.pieces.now due (shared_of c.args.self.now)))
    (ap (λ (n : ℕ). read_table c.args.fd n c.args.self.now.files) c.needed.ensures.is ∙ read_same c.args.fd c.args.size c.args.count c.args.self.now.files c.requires.there) c.take_so_many.ensures.answer
