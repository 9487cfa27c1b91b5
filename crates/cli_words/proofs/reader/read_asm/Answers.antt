use Rattle.std.proofs.Common.{◌∙◌, sym}
use Rattle.cli_words.specs.Words.{is_value, is_file, is_name}
use Rattle.cli_words.proofs.WrongFacts.{none_there, bad_there}
use Rattle.cli_words.proofs.FrontFacts.{IsValue, IsFile, IsName, asm_folder, asm_source, asm_out, asm_more}
use Rattle.cli_words.proofs.reader.read_asm.Goals as goal

pub returns-in_default-clause-err : goal.returns-in_default-clause-err
returns-in_default-clause-err c = asm_folder _ (none_there IsValue _ c.in_default.ensures)

pub returns-then-not-is_value-clause-err : goal.returns-then-not-is_value-clause-err
returns-then-not-is_value-clause-err c =
    asm_folder _ (bad_there is_value _ c.in-Some.field-0.word.now _ c.in-Some.ensures (sym c.is_value.ensures ∙ c.if-not-is_value.true))

pub returns-in_default-split-clause-err : goal.returns-in_default-split-clause-err
returns-in_default-split-clause-err c =
    rw c.in-Some.ensures
    (asm_source c.in-Some.field-0.word.now _ (sym c.is_value.ensures ∙ c.if-not-is_value.false) (none_there IsFile _ c.in_default-split.ensures))

pub returns-then-not-is_file-clause-err : goal.returns-then-not-is_file-clause-err
returns-then-not-is_file-clause-err c =
    rw c.in-Some.ensures
    (asm_source c.in-Some.field-0.word.now _ (sym c.is_value.ensures ∙ c.if-not-is_value.false)
    (bad_there is_file _ c.in-Some-split.field-0.word.now _ c.in-Some-split.ensures (sym c.is_file.ensures ∙ c.if-not-is_file.true)))

pub returns-in_default-split-2-clause-err : goal.returns-in_default-split-2-clause-err
returns-in_default-split-2-clause-err c =
    rw (c.in-Some.ensures, c.in-Some-split.ensures)
    (asm_out c.in-Some.field-0.word.now c.in-Some-split.field-0.word.now _ (sym c.is_value.ensures ∙ c.if-not-is_value.false)
    (sym c.is_file.ensures ∙ c.if-not-is_file.false) (none_there IsName _ c.in_default-split-2.ensures))

pub returns-then-not-is_name-clause-err : goal.returns-then-not-is_name-clause-err
returns-then-not-is_name-clause-err c =
    rw (c.in-Some.ensures, c.in-Some-split.ensures)
    (asm_out c.in-Some.field-0.word.now c.in-Some-split.field-0.word.now _ (sym c.is_value.ensures ∙ c.if-not-is_value.false)
    (sym c.is_file.ensures ∙ c.if-not-is_file.false)
    (bad_there is_name _ c.in-Some-split-2.field-0.word.now _ c.in-Some-split-2.ensures (sym c.is_name.ensures ∙ c.if-not-is_name.true)))

pub returns-in-Some-split-3-clause-err : goal.returns-in-Some-split-3-clause-err
returns-in-Some-split-3-clause-err c =
    rw (c.in-Some.ensures, c.in-Some-split.ensures, c.in-Some-split-2.ensures, c.in-Some-split-3.ensures)
    (asm_more c.in-Some.field-0.word.now c.in-Some-split.field-0.word.now c.in-Some-split-2.field-0.word.now c.in-Some-split-3.field-0.word.now _
    (sym c.is_value.ensures ∙ c.if-not-is_value.false) (sym c.is_file.ensures ∙ c.if-not-is_file.false)
    (sym c.is_name.ensures ∙ c.if-not-is_name.false))
