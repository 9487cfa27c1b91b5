use Rattle.cli_words.specs.Answer.{plan_asked, asm_asked}
use Rattle.cli_words.specs.Words.{solo, asm}
use Rattle.cli_words.proofs.WrongFacts.{none_there}
use Rattle.cli_words.proofs.RefusalFacts.{said, denied}
use Rattle.cli_words.proofs.FrontFacts.{IsCommand, wrong_command, no_command, only_solo, only_asm}
use Rattle.cli_words.proofs.reader.read.Goals as goal

pub returns-in_default-clause-err : goal.returns-in_default-clause-err
returns-in_default-clause-err c = wrong_command _ (none_there IsCommand _ c.in_default.ensures)

pub returns-in-Ok-clause-only : goal.returns-in-Ok-clause-only
returns-in-Ok-clause-only c =
    only_solo _ c.in-Some.field-0.word.now _ (plan_asked c.in-Ok.plan) c.in-Some.ensures
    (said c.is_same.result c.in-Some.field-0.word.now solo c.is_same.ensures c.if-is_same.true) c.in-Ok.ensures.ok

pub returns-in-Ok-read_asm-clause-only : goal.returns-in-Ok-read_asm-clause-only
returns-in-Ok-read_asm-clause-only c =
    only_asm _ c.in-Some.field-0.word.now _ (asm_asked c.in-Ok-read_asm.plan) c.in-Some.ensures
    (said c.is_same-2.result c.in-Some.field-0.word.now asm c.is_same-2.ensures c.if-is_same-2.true) c.in-Ok-read_asm.ensures.ok

pub returns-clause-err : goal.returns-clause-err
returns-clause-err c =
    wrong_command _
    (no_command _ c.in-Some.field-0.word.now _ c.in-Some.ensures
    (denied c.is_same.result c.in-Some.field-0.word.now solo c.is_same.ensures c.if-is_same.false)
    (denied c.is_same-2.result c.in-Some.field-0.word.now asm c.is_same-2.ensures c.if-is_same-2.false))
