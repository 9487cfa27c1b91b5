use Rattle.std.proofs.Common.{ℕ, List, [], ◌∷◌, ◌++◌, map, refl, ap, sym, ◌∙◌, subst, append-nil}
use Rattle.std.specs.String.{string_bytes}
use Rattle.cli_words.specs.Command.{Budget, Env, Input, Keep}
use Rattle.cli_words.specs.Tail.{IsEnd}
use Rattle.cli_words.proofs.ReadFacts.{read_on, no_budget, no_input, or_true, or_false, wrong_behind, texts_behind}
use Rattle.cli_words.proofs.tail.Options.step.Goals as goal

pub returns-in-Ok-End-clause-end : goal.returns-in-Ok-End-clause-end
returns-in-Ok-End-clause-end c = λ ended.
    let found = rw c.in-Ok-End.field-0-is at c.in-Ok-End.ensures in
    subst (λ (words : List (List ℕ)). IsEnd words) (texts_behind string_bytes c.args.words.now c.args.self.now.place) found

pub returns-in-Ok-Budget-clause-ok : goal.returns-in-Ok-Budget-clause-ok
returns-in-Ok-Budget-clause-ok c =
    let options = c.args.self.now in
    let words = map string_bytes c.args.words.now in
    let budget = c.in-Ok-Budget.budget in
    let next = rw (c.in-Ok-Budget.field-0-is, texts_behind string_bytes c.args.words.now options.place) at c.in-Ok-Budget.ensures in
    read_on words options _ (Budget budget) c.requires next
    (record {
      place = refl;
      budget = ap (λ (bs : List ℕ). bs ++ budget ∷ []) (sym (no_budget words options budget c.requires next));
      env = sym (append-nil _);
      input = sym (append-nil _);
      keep = sym (or_false _);
    })

pub returns-in-Ok-clause-ok : goal.returns-in-Ok-clause-ok
returns-in-Ok-clause-ok c =
    let options = c.args.self.now in
    let words = map string_bytes c.args.words.now in
    let next = rw (c.in-Ok-Env.field-0-is, texts_behind string_bytes c.args.words.now options.place) at c.in-Ok-Env.ensures in
    read_on words options _ (Env c.in-Ok-Env.entry.now) c.requires next
    (record {
      place = refl;
      budget = sym (append-nil _);
      env = c.in-Ok.ensures;
      input = sym (append-nil _);
      keep = sym (or_false _);
    })

pub returns-in-Ok-new-clause-ok : goal.returns-in-Ok-new-clause-ok
returns-in-Ok-new-clause-ok c =
    let options = c.args.self.now in
    let words = map string_bytes c.args.words.now in
    let name = c.in-Ok-Input.name.now in
    let next = rw (c.in-Ok-Input.field-0-is, texts_behind string_bytes c.args.words.now options.place) at c.in-Ok-Input.ensures in
    read_on words options _ (Input name) c.requires next
    (record {
      place = refl;
      budget = sym (append-nil _);
      env = sym (append-nil _);
      input = ap (λ (text : List ℕ). text ∷ []) c.in-Ok-new.ensures ∙ ap (λ (names : List (List ℕ)). names ++ name ∷ []) (sym (no_input words options name c.requires next));
      keep = sym (or_false _);
    })

pub returns-in-Ok-Keep-clause-ok : goal.returns-in-Ok-Keep-clause-ok
returns-in-Ok-Keep-clause-ok c =
    let options = c.args.self.now in
    let words = map string_bytes c.args.words.now in
    let next = rw (c.in-Ok-Keep.field-0-is, texts_behind string_bytes c.args.words.now options.place) at c.in-Ok-Keep.ensures in
    read_on words options _ Keep c.requires next
    (record {
      place = refl;
      budget = sym (append-nil _);
      env = sym (append-nil _);
      input = sym (append-nil _);
      keep = sym (or_true _);
    })

pub returns-in-Err-clause-err : goal.returns-in-Err-clause-err
returns-in-Err-clause-err c =
    let options = c.args.self.now in
    let wrong = rw (texts_behind string_bytes c.args.words.now options.place) at c.in-Err.ensures in
    wrong_behind (map string_bytes c.args.words.now) options c.in-Err.index c.requires wrong
