use Rattle.std.proofs.Common.{sym, ◌∙◌}
use Rattle.file_table.proofs.WaitFacts.{read_asked}
use Rattle.file_table.proofs.files.Files.read_waits.Goals as goal

-- src/waiting.rt: the function asked is the definition
pub returns : goal.returns
returns c = c.is_read_late.ensures ∙ sym (read_asked c.args.fd c.args.size c.args.self.now)
