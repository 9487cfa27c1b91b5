use Rattle.std.proofs.Common.{ℕ, sym, ap, ◌∙◌}
use Rattle.file_table.specs.Waits.{write_waits as late}
use Rattle.file_table.proofs.WaitFacts.{write_asked}
use Rattle.file_table.proofs.files.Files.write_waits.Goals as goal

-- src/waiting.rt: the function asked is the definition
pub returns : goal.returns
returns c = λ bytes same. write_asked c.args.fd bytes c.args.self.now ∙ ap (λ (n : ℕ). late c.args.fd n c.args.self.now) same ∙ sym c.is_write_late.ensures
