use Rattle.std.proofs.Common.{◌≡◌, ◌∙◌, sym}
use Rattle.cli_words.proofs.WrongFacts.{none_there}
use Rattle.cli_words.proofs.RefusalFacts.{IsBudget, budget_again, bad_budget, next_budget}
use Rattle.cli_words.proofs.tail.Options.next_budget.Goals as goal

pub returns-then-is_some : goal.returns-then-is_some
returns-then-is_some c = budget_again c.args.self.now _ (sym c.is_some.ensures ∙ c.if-is_some.true)

pub returns-in_default : goal.returns-in_default
returns-in_default c =
    bad_budget c.args.self.now _ (sym c.is_some.ensures ∙ c.if-is_some.false) (none_there IsBudget _ c.in_default.ensures)

pub returns-in-Some-read_budget : goal.returns-in-Some-read_budget
returns-in-Some-read_budget c =
    let read = c.in-Some-read_budget.ensures in
    next_budget c.args.self.now c.in-Some-read_budget.budget _ c.in-Some.field-0.word.now _ (sym c.is_some.ensures ∙ c.if-is_some.false) c.in-Some.ensures read.0 read.1

pub returns-in-None : goal.returns-in-None
returns-in-None c =
    bad_budget c.args.self.now _ (sym c.is_some.ensures ∙ c.if-is_some.false)
    (λ word rest form good.
    let this = c.in-Some.ensures in
    let same : c.in-Some.field-0.word.now ≡ word = cc in
    c.in-None.ensures good.0 good.1 (same ∙ good.2))
