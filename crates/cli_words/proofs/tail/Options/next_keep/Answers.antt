use Rattle.cli_words.proofs.RefusalFacts.{keep_again, next_keep}
use Rattle.cli_words.proofs.tail.Options.next_keep.Goals as goal

pub returns-then-self : goal.returns-then-self
returns-then-self c = keep_again c.args.self.now _ c.if-self.true

pub returns : goal.returns
returns c = next_keep c.args.self.now _ c.if-self.false
