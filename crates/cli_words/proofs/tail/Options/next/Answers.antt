use Rattle.cli_words.specs.Words.{budget_name, env_name, input_name, keep_name, divider}
use Rattle.cli_words.proofs.RefusalFacts.{unknown_name, ends_with_divider, said, denied}
use Rattle.cli_words.proofs.tail.Options.next.Goals as goal

pub returns-then-is_same : goal.returns-then-is_same
returns-then-is_same c =
    ends_with_divider _ c.in-Some.field-0.word.now _ c.in-Some.ensures
    (said c.is_same.result c.in-Some.field-0.word.now divider c.is_same.ensures c.if-is_same.true)

pub returns : goal.returns
returns c =
    unknown_name c.args.self.now _ c.in-Some.field-0.word.now _ c.in-Some.ensures
    (denied c.is_same.result c.in-Some.field-0.word.now divider c.is_same.ensures c.if-is_same.false)
    (denied c.is_same-2.result c.in-Some.field-0.word.now budget_name c.is_same-2.ensures c.if-is_same-2.false)
    (denied c.is_same-3.result c.in-Some.field-0.word.now env_name c.is_same-3.ensures c.if-is_same-3.false)
    (denied c.is_same-4.result c.in-Some.field-0.word.now input_name c.is_same-4.ensures c.if-is_same-4.false)
    (denied c.is_same-5.result c.in-Some.field-0.word.now keep_name c.is_same-5.ensures c.if-is_same-5.false)
