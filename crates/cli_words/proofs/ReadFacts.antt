-- One option more is read.
use Rattle.std.proofs.Common.{◌≡◌, ℕ, zero, suc, ◌+◌, ◌-◌, ◌≤◌, Bool, true, false, ◌||◌, List, [], ◌∷◌, ◌++◌, length, take, drop, map, refl, sym, ap, ◌∙◌, append-nil, append_assoc, length-append, length-drop, arith}
use Rattle.std.proofs.Math.Nat.{add-suc, add-zero}
use Rattle.std.proofs.Math.Seq.{take-append_seam}
use Rattle.std.proofs.lemmas.List.{drop-map, length-take-le, take-append-drop, take_all}
use Rattle.std.specs.Option.{option_to_list}
use Rattle.cli_words.specs.declared.tail.Options.{Options}
use Rattle.cli_words.specs.Command.{Choice, Budget, Input, choice_words, choices_words, budgets, entries, inputs, keeps, is_given}
use Rattle.cli_words.specs.FirstWrong.{IsFirstWrongOf}
use Rattle.cli_words.specs.Tail.{IsAcceptedTail, Holds, IsReadBy, IsNext, IsWrongBehind}
use Rattle.cli_words.proofs.WrongFacts.{behind_front, at_index, of_words}
use Rattle.cli_words.proofs.TailFacts.{budgets_both, entries_both, inputs_both, keeps_both, words_both, lawful_both}

-- the words are the choices, and those behind the place
pub in_two : (words : List (List ℕ)) (options : Options) → (read : IsReadBy words options) → words ≡ choices_words read.choices ++ drop options.place words
in_two words options read = sym (take-append-drop options.place words) ∙ ap (λ (ws : List (List ℕ)). ws ++ drop options.place words) read.front

place_is : (words : List (List ℕ)) (options : Options) → (read : IsReadBy words options) → length (choices_words read.choices) ≡ options.place
place_is words options read = ap length (sym read.front) ∙ length-take-le options.place words read.within

-- what options hold once they hold a choice more
pub record Takes (before after : Options) (choice : Choice) : Type 0 where
  pub place : after.place ≡ before.place + length (choice_words choice)
  pub budget : option_to_list after.budget ≡ option_to_list before.budget ++ budgets (choice ∷ [])
  pub env : after.env.items ≡ before.env.items ++ entries (choice ∷ [])
  pub input : option_to_list after.input ≡ option_to_list before.input ++ inputs (choice ∷ [])
  pub keep : after.keep ≡ (before.keep || is_given (keeps (choice ∷ [])))

pub or_true : (b : Bool) → (b || true) ≡ true
or_true true = refl
or_true false = refl

pub or_false : (b : Bool) → (b || false) ≡ b
or_false true = refl
or_false false = refl

given_both : (one other : ℕ) → is_given (one + other) ≡ (is_given one || is_given other)
given_both one zero = ap is_given (add-zero one) ∙ sym (or_false (is_given one))
given_both one (suc other) = ap is_given (add-suc one other) ∙ sym (or_true (is_given one))

takes_holds : (before after : Options) (choices : List Choice) (words : List (List ℕ)) (choice : Choice) → Holds before choices → IsNext before words choice → Takes before after choice → Holds after (choices ++ choice ∷ [])
takes_holds before after choices words choice holds next takes = record {
  lawful = lawful_both choices (choice ∷ []) holds.lawful (next.lawful, tt);
  few = next.few choices holds;
  budget = takes.budget ∙ ap (λ (bs : List ℕ). bs ++ budgets (choice ∷ [])) holds.budget ∙ sym (budgets_both choices (choice ∷ []));
  env = takes.env ∙ ap (λ (es : List (List ℕ)). es ++ entries (choice ∷ [])) holds.env ∙ sym (entries_both choices (choice ∷ []));
  input = takes.input ∙ ap (λ (names : List (List ℕ)). names ++ inputs (choice ∷ [])) holds.input ∙ sym (inputs_both choices (choice ∷ []));
  keep =
      takes.keep
      ∙ ap (λ (b : Bool). b || is_given (keeps (choice ∷ []))) holds.keep
      ∙ sym (given_both (keeps choices) (keeps (choice ∷ [])))
      ∙ ap is_given (sym (keeps_both choices (choice ∷ [])));
}

pub read_on : (words : List (List ℕ)) (before after : Options) (choice : Choice) → IsReadBy words before → IsNext before (drop before.place words) choice → Takes before after choice → IsReadBy words after
read_on words before after choice read next takes =
    let front = choices_words read.choices in
    let more = choice_words choice in
    let behind = drop (length more) (drop before.place words) in
    let form : words ≡ (front ++ more) ++ behind = in_two words before read ∙ ap (λ (ws : List (List ℕ)). front ++ ws) next.form ∙ sym (append_assoc front more behind) in
    let size : length (front ++ more) ≡ after.place =
    length-append front more ∙ ap (λ (n : ℕ). n + length more) (place_is words before read) ∙ sym takes.place in
    let all : length words ≡ length (front ++ more) + length behind = ap length form ∙ length-append (front ++ more) behind in
    let taken : take after.place words ≡ front ++ more =
    ap (λ (n : ℕ). take n words) (sym size) ∙ ap (take (length (front ++ more))) form ∙ take-append_seam (front ++ more) behind in
    let spelled : front ++ more ≡ choices_words (read.choices ++ choice ∷ []) =
    ap (λ (ws : List (List ℕ)). front ++ ws) (sym (append-nil more)) ∙ sym (words_both read.choices (choice ∷ [])) in
    record {
      within = omega arith;
      choices = read.choices ++ choice ∷ [];
      front = taken ∙ spelled;
      holds = takes_holds before after read.choices (drop before.place words) choice read.holds next takes;
    }

-- a budget may be added only where there is none
no_items : {A : Type 0} → (items : List A) → length items ≡ 0 → items ≡ []
no_items [] none = refl
no_items (item ∷ items) none = absurd (omega arith)

pub no_budget : (words : List (List ℕ)) (options : Options) (budget : ℕ) → IsReadBy words options → IsNext options (drop options.place words) (Budget budget) → option_to_list options.budget ≡ []
no_budget words options budget read next =
    let few = next.few read.choices read.holds in
    let most = few.one_budget in
    let parts = ap length (budgets_both read.choices (Budget budget ∷ [])) ∙ length-append (budgets read.choices) (budget ∷ []) in
    let one : length (budget ∷ []) ≡ 1 = refl in
    read.holds.budget ∙ no_items (budgets read.choices) (omega arith)

pub no_input : (words : List (List ℕ)) (options : Options) (name : List ℕ) → IsReadBy words options → IsNext options (drop options.place words) (Input name) → option_to_list options.input ≡ []
no_input words options name read next =
    let few = next.few read.choices read.holds in
    let most = few.one_input in
    let parts = ap length (inputs_both read.choices (Input name ∷ [])) ∙ length-append (inputs read.choices) (name ∷ []) in
    let one : length (name ∷ []) ≡ 1 = refl in
    read.holds.input ∙ no_items (inputs read.choices) (omega arith)

-- a word that is wrong behind the choices is wrong among all words
pub wrong_behind : (words : List (List ℕ)) (options : Options) (index : ℕ) → IsReadBy words options → IsWrongBehind options (drop options.place words) index → IsFirstWrongOf IsAcceptedTail words (options.place + index)
wrong_behind words options index read wrong =
    let front = choices_words read.choices in
    let rest = drop options.place words in
    at_index IsAcceptedTail words (length front + index) (options.place + index) (ap (λ (n : ℕ). n + index) (place_is words options read))
    (of_words IsAcceptedTail (front ++ rest) words (length front + index) (sym (in_two words options read))
    (behind_front IsAcceptedTail front rest index (wrong read.choices read.holds)))

-- the slice behind a place, as texts
pub texts_behind : {X : Type 0} (text : X → List ℕ) (words : List X) (place : ℕ) → map text (take (length words - place) (drop place words)) ≡ drop place (map text words)
texts_behind text words place =
    let size : length (drop place words) ≤ length words - place = rw length-drop (omega arith) in
    ap (map text) (take_all (length words - place) (drop place words) size) ∙ sym (drop-map text place words)
