use Rattle.cli_words.specs.FirstWrong.{IsAccepted}
use Rattle.cli_words.proofs.WrongFacts.{one_first_wrong, not_accepted}
use Rattle.cli_words.proofs.FrontFacts.{same_command, same_assembly, never_both}
use Rattle.cli_words.proofs.grammar.laws.Goals as goal

pub returns : goal.returns
returns c = record {
  one_command = same_command;
  one_assembly = same_assembly;
  never_both = never_both;
  one_wrong = one_first_wrong IsAccepted;
  apart = not_accepted IsAccepted;
}
