use Rattle.std.proofs.Common.{◌∙◌, ◌∷◌, ◌+◌, ℕ, map, drop, sym, ap, subst}
use Rattle.std.specs.String.{string_bytes}
use Rattle.cli_words.specs.Words.{solo, is_value, is_file}
use Rattle.cli_words.specs.FirstWrong.{IsFirstWrong}
use Rattle.cli_words.proofs.WrongFacts.{none_there, bad_there}
use Rattle.cli_words.proofs.ReadFacts.{texts_behind}
use Rattle.cli_words.proofs.FrontFacts.{IsValue, IsFile, solo_folder, solo_program, solo_tail, solo_asked}
use Rattle.cli_words.proofs.reader.read_solo.Goals as goal

pub returns-in_default-clause-err : goal.returns-in_default-clause-err
returns-in_default-clause-err c = solo_folder _ (none_there IsValue _ c.in_default.ensures)

pub returns-then-not-is_value-clause-err : goal.returns-then-not-is_value-clause-err
returns-then-not-is_value-clause-err c =
    solo_folder _ (bad_there is_value _ c.in-Some.field-0.word.now _ c.in-Some.ensures (sym c.is_value.ensures ∙ c.if-not-is_value.true))

pub returns-in_default-split-clause-err : goal.returns-in_default-split-clause-err
returns-in_default-split-clause-err c =
    rw c.in-Some.ensures
    (solo_program c.in-Some.field-0.word.now _ (sym c.is_value.ensures ∙ c.if-not-is_value.false) (none_there IsFile _ c.in_default-split.ensures))

pub returns-then-not-is_file-clause-err : goal.returns-then-not-is_file-clause-err
returns-then-not-is_file-clause-err c =
    rw c.in-Some.ensures
    (solo_program c.in-Some.field-0.word.now _ (sym c.is_value.ensures ∙ c.if-not-is_value.false)
    (bad_there is_file _ c.in-Some-split.field-0.word.now _ c.in-Some-split.ensures (sym c.is_file.ensures ∙ c.if-not-is_file.true)))

pub returns-in-Err-At-clause-err : goal.returns-in-Err-At-clause-err
returns-in-Err-At-clause-err c =
    let folder = c.in-Some.field-0.word.now in
    let program = c.in-Some-split.field-0.word.now in
    let tail = map string_bytes c.in-Some-split.field-0.rest.now in
    let fault = rw c.in-Err-At.field-0-is at c.in-Err-At.ensures.err in
    let found = solo_tail folder program tail c.in-Err-At.index (sym c.is_value.ensures ∙ c.if-not-is_value.false) (sym c.is_file.ensures ∙ c.if-not-is_file.false) fault in
    rw (c.in-Some.ensures, c.in-Some-split.ensures)
    (subst (λ (index : ℕ). IsFirstWrong (solo ∷ folder ∷ program ∷ tail) (index + 3)) (sym c.in-Err-At.index-is) found)

pub returns-in-Ok-make_plan-clause-ok : goal.returns-in-Ok-make_plan-clause-ok
returns-in-Ok-make_plan-clause-ok c =
    let options = c.in-Ok.options in
    let made = c.in-Ok-make_plan.ensures in
    let tail = map string_bytes c.in-Some-split.field-0.rest.now in
    let args = made.args ∙ ap (drop 1) (texts_behind string_bytes _ options.place) in
    rw (c.in-Some.ensures, c.in-Some-split.ensures)
    (solo_asked c.in-Some.field-0.word.now c.in-Some-split.field-0.word.now tail options c.in-Ok-make_plan.plan
    (sym c.is_value.ensures ∙ c.if-not-is_value.false) (sym c.is_file.ensures ∙ c.if-not-is_file.false)
    c.in-Ok.ensures.ok c.in-Ok.ensures.end made.folder made.program args made.env made.budget made.input made.keep)
