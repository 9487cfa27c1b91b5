use Rattle.std.proofs.Common.{◌∙◌, sym}
use Rattle.cli_words.specs.Words.{is_file}
use Rattle.cli_words.proofs.WrongFacts.{none_there, bad_there}
use Rattle.cli_words.proofs.RefusalFacts.{input_again, bad_input, next_input}
use Rattle.cli_words.proofs.FrontFacts.{IsFile}
use Rattle.cli_words.proofs.tail.Options.next_input.Goals as goal

pub returns-then-is_some : goal.returns-then-is_some
returns-then-is_some c = input_again c.args.self.now _ (sym c.is_some.ensures ∙ c.if-is_some.true)

pub returns-in_default : goal.returns-in_default
returns-in_default c =
    bad_input c.args.self.now _ (sym c.is_some.ensures ∙ c.if-is_some.false) (none_there IsFile _ c.in_default.ensures)

pub returns-then-not-is_file : goal.returns-then-not-is_file
returns-then-not-is_file c =
    bad_input c.args.self.now _ (sym c.is_some.ensures ∙ c.if-is_some.false)
    (bad_there is_file _ c.in-Some.field-0.word.now _ c.in-Some.ensures (sym c.is_file.ensures ∙ c.if-not-is_file.true))

pub returns : goal.returns
returns c =
    next_input c.args.self.now _ c.in-Some.field-0.word.now _ (sym c.is_some.ensures ∙ c.if-is_some.false) c.in-Some.ensures
    (sym c.is_file.ensures ∙ c.if-not-is_file.false)
