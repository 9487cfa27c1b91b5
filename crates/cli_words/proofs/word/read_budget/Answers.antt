use Rattle.std.proofs.Common.{◌≡◌, false}
use Rattle.cli_words.proofs.word.read_budget.Goals as goal
use Rattle.std.proofs.Common.{false}
use Rattle.cli_words.proofs.BudgetFacts.{not_plain, not_spelled, too_great, spelled}

pub returns-then-not-has_plain_front : goal.returns-then-not-has_plain_front
returns-then-not-has_plain_front c =
    not_plain c.args.word.now
    (λ plain.
    let holds = c.has_plain_front.ensures.1 (rw c.as_bytes.ensures.value plain) in
    let no : c.has_plain_front.result ≡ false = c.if-not-has_plain_front.true in
    cc)

pub returns-in_default : goal.returns-in_default
returns-in_default c = not_spelled c.args.word.now c.in_default.field-0 c.in_default.ensures.value.0

pub returns-then-budget-gt-MOST : goal.returns-then-budget-gt-MOST
returns-then-budget-gt-MOST c = too_great c.args.word.now c.in-Ok.budget c.in-Ok.ensures.value.0 c.if-budget-gt-MOST.true

pub returns : goal.returns
returns c =
    let plain = rw c.as_bytes.ensures.value at (c.has_plain_front.ensures.0 c.if-not-has_plain_front.false) in
    (c.if-budget-gt-MOST.false, spelled c.args.word.now c.in-Ok.budget plain c.in-Ok.ensures.value.0)
