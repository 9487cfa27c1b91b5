-- What stands where an option may stand: an option that may be added, or which word is the first wrong one.
use Rattle.std.proofs.Common.{◌≡◌, ◌↔◌, ℕ, ◌+◌, ◌<◌, ◌≤◌, IsTrue, true, false, Bool, List, [], ◌∷◌, ◌++◌, length, Option, Some, None, refl, sym, ap, ◌∙◌, subst, append-nil, length-append, zero, suc, arith}
use Rattle.std.specs.Option.{option_to_list, is_some}
use Rattle.std.specs.Fmt.{decimal}
use Rattle.cli_words.specs.declared.tail.Options.{Options}
use Rattle.cli_words.specs.Words.{budget_name, env_name, input_name, keep_name, divider, is_entry, is_file}
use Rattle.cli_words.specs.Command.{Choice, Budget, Env, Input, Keep, choices_words, budgets, entries, inputs, keeps, AllLawful, AreFew, is_given}
use Rattle.cli_words.specs.FirstWrong.{IsFirstWrongOf}
use Rattle.cli_words.specs.Tail.{IsAcceptedTail, Holds, IsEnd, IsNext, IsWrongBehind}
use Rattle.cli_words.proofs.WrongFacts.{behind, of_words, here_wrong, IsNone}
use Rattle.cli_words.proofs.TailFacts.{budgets_both, entries_both, inputs_both, keeps_both, few_added, IsLater, later_of, tail_of, budget_head, entry_head, input_head, keep_head, no_head}

-- what is accepted behind options
abbrev Behind : List Choice → List (List ℕ) → Type 0
Behind choices rest = IsAcceptedTail (choices_words choices ++ rest)

-- ---- the name is wrong

name_wrong : (choices : List Choice) (name : List ℕ) (words : List (List ℕ)) → AllLawful choices → AreFew choices → ((more : List (List ℕ)) → IsLater choices (name ∷ more) → ⊥) → IsFirstWrongOf (Behind choices) (name ∷ words) 0
name_wrong choices name words lawful few bad = record {
  within = omega arith;
  before = (
    [],
    tail_of choices [] lawful
        (record {
          later = [];
          guest = None;
          form = refl;
          lawful = tt;
          few = subst AreFew (sym (append-nil choices)) few;
        }),
  );
  wrong = λ inside more accepted. bad more (later_of choices (name ∷ more) lawful accepted);
  missing = λ all accepted. absurd (omega arith);
}

pub unknown_name : (options : Options) (words : List (List ℕ)) (name : List ℕ) (rest : List (List ℕ)) → words ≡ name ∷ rest → (name ≡ divider → ⊥) → (name ≡ budget_name → ⊥) → (name ≡ env_name → ⊥) → (name ≡ input_name → ⊥) → (name ≡ keep_name → ⊥) → IsWrongBehind options words 0
unknown_name options words name rest form not_divider not_budget not_env not_input not_keep choices holds =
    of_words (Behind choices) (name ∷ rest) words 0 (sym form)
    (name_wrong choices name rest holds.lawful holds.few
    (λ more is. no_head name more is.later is.guest not_divider not_budget not_env not_input not_keep is.form))

-- ---- the name is there too often

some_given : {A : Type 0} → (given : Option A) → is_some given ≡ true → 0 < length (option_to_list given)
some_given None some = cc
some_given (Some value) some = omega arith

none_given : {A : Type 0} → (given : Option A) → is_some given ≡ false → length (option_to_list given) ≡ 0
none_given None none = refl
none_given (Some value) none = cc

kept : (count : ℕ) → is_given count ≡ true → 0 < count
kept zero is = cc
kept (suc count) is = omega arith

not_kept : (count : ℕ) → is_given count ≡ false → count ≡ 0
not_kept zero is = refl
not_kept (suc count) is = cc

pub budget_again : (options : Options) (words : List (List ℕ)) → is_some options.budget ≡ true → IsWrongBehind options (budget_name ∷ words) 0
budget_again options words given choices holds =
    name_wrong choices budget_name words holds.lawful holds.few
    (λ more is.
    let head = budget_head more is.later is.guest is.form is.lawful in
    let few = subst (λ (later : List Choice). AreFew (choices ++ later)) head.2 is.few in
    let most = few.one_budget in
    let parts = ap length (budgets_both choices (Budget head.0 ∷ head.1)) ∙ length-append (budgets choices) (head.0 ∷ budgets head.1) in
    let some : 0 < length (budgets choices) = subst (λ (bs : List ℕ). 0 < length bs) holds.budget (some_given options.budget given) in
    let one : length (head.0 ∷ budgets head.1) ≡ length (budgets head.1) + 1 = omega arith in
    omega arith)

pub entries_full : (options : Options) (words : List (List ℕ)) → 64 ≤ length options.env.items → IsWrongBehind options (env_name ∷ words) 0
entries_full options words full choices holds =
    name_wrong choices env_name words holds.lawful holds.few
    (λ more is.
    let head = entry_head more is.later is.guest is.form is.lawful in
    let few = subst (λ (later : List Choice). AreFew (choices ++ later)) head.2 is.few in
    let most = few.few_entries in
    let parts = ap length (entries_both choices (Env head.0 ∷ head.1)) ∙ length-append (entries choices) (head.0 ∷ entries head.1) in
    let some : 64 ≤ length (entries choices) = subst (λ (es : List (List ℕ)). 64 ≤ length es) holds.env full in
    let one : length (head.0 ∷ entries head.1) ≡ length (entries head.1) + 1 = omega arith in
    omega arith)

pub input_again : (options : Options) (words : List (List ℕ)) → is_some options.input ≡ true → IsWrongBehind options (input_name ∷ words) 0
input_again options words given choices holds =
    name_wrong choices input_name words holds.lawful holds.few
    (λ more is.
    let head = input_head more is.later is.guest is.form is.lawful in
    let few = subst (λ (later : List Choice). AreFew (choices ++ later)) head.2 is.few in
    let most = few.one_input in
    let parts = ap length (inputs_both choices (Input head.0 ∷ head.1)) ∙ length-append (inputs choices) (head.0 ∷ inputs head.1) in
    let some : 0 < length (inputs choices) = subst (λ (names : List (List ℕ)). 0 < length names) holds.input (some_given options.input given) in
    let one : length (head.0 ∷ inputs head.1) ≡ length (inputs head.1) + 1 = omega arith in
    omega arith)

pub keep_again : (options : Options) (words : List (List ℕ)) → options.keep ≡ true → IsWrongBehind options (keep_name ∷ words) 0
keep_again options words given choices holds =
    name_wrong choices keep_name words holds.lawful holds.few
    (λ more is.
    let head = keep_head more is.later is.guest is.form is.lawful in
    let few = subst (λ (later : List Choice). AreFew (choices ++ later)) head.1 is.few in
    let most = few.one_keep in
    let parts = keeps_both choices (Keep ∷ head.0) in
    let some : 0 < keeps choices = kept (keeps choices) (sym holds.keep ∙ given) in
    omega arith)

-- ---- the options that may be added

budget_fits : (options : Options) (budget : ℕ) → is_some options.budget ≡ false → (choices : List Choice) → Holds options choices → AreFew (choices ++ Budget budget ∷ [])
budget_fits options budget none choices holds =
    let few = holds.few in
    let gone : length (budgets choices) ≡ 0 = subst (λ (bs : List ℕ). length bs ≡ 0) holds.budget (none_given options.budget none) in
    few_added choices (Budget budget) (omega arith) (omega (arith, few.few_entries)) (omega (arith, few.one_input)) (omega (arith, few.one_keep))

entry_fits : (options : Options) (entry : List ℕ) → length options.env.items < 64 → (choices : List Choice) → Holds options choices → AreFew (choices ++ Env entry ∷ [])
entry_fits options entry less choices holds =
    let few = holds.few in
    let here : length (entries choices) < 64 = subst (λ (es : List (List ℕ)). length es < 64) holds.env less in
    few_added choices (Env entry) (omega (arith, few.one_budget)) (omega arith) (omega (arith, few.one_input)) (omega (arith, few.one_keep))

input_fits : (options : Options) (name : List ℕ) → is_some options.input ≡ false → (choices : List Choice) → Holds options choices → AreFew (choices ++ Input name ∷ [])
input_fits options name none choices holds =
    let few = holds.few in
    let gone : length (inputs choices) ≡ 0 = subst (λ (names : List (List ℕ)). length names ≡ 0) holds.input (none_given options.input none) in
    few_added choices (Input name) (omega (arith, few.one_budget)) (omega (arith, few.few_entries)) (omega arith) (omega (arith, few.one_keep))

keep_fits : (options : Options) → options.keep ≡ false → (choices : List Choice) → Holds options choices → AreFew (choices ++ Keep ∷ [])
keep_fits options none choices holds =
    let few = holds.few in
    let gone : keeps choices ≡ 0 = not_kept (keeps choices) (sym holds.keep ∙ none) in
    few_added choices Keep (omega (arith, few.one_budget)) (omega (arith, few.few_entries)) (omega (arith, few.one_input)) (omega arith)

pub next_budget : (options : Options) (budget : ℕ) (values : List (List ℕ)) (value : List ℕ) (rest : List (List ℕ)) → is_some options.budget ≡ false → values ≡ value ∷ rest → budget ≤ 33554432 → value ≡ decimal budget → IsNext options (budget_name ∷ values) (Budget budget)
next_budget options budget values value rest none form small same = record {
  form = let whole : values ≡ decimal budget ∷ rest = cc in rw whole refl;
  lawful = small;
  few = budget_fits options budget none;
}

pub next_entry : (options : Options) (values : List (List ℕ)) (entry : List ℕ) (rest : List (List ℕ)) → length options.env.items < 64 → values ≡ entry ∷ rest → is_entry entry ≡ true → IsNext options (env_name ∷ values) (Env entry)
next_entry options values entry rest less form good = record {
  form = rw form refl;
  lawful = good;
  few = entry_fits options entry less;
}

pub next_input : (options : Options) (values : List (List ℕ)) (name : List ℕ) (rest : List (List ℕ)) → is_some options.input ≡ false → values ≡ name ∷ rest → is_file name ≡ true → IsNext options (input_name ∷ values) (Input name)
next_input options values name rest none form good = record {
  form = rw form refl;
  lawful = good;
  few = input_fits options name none;
}

pub next_keep : (options : Options) (words : List (List ℕ)) → options.keep ≡ false → IsNext options (keep_name ∷ words) Keep
next_keep options words none = record {
  form = refl;
  lawful = tt;
  few = keep_fits options none;
}

-- ---- the value is wrong, or is missing

value_wrong : (choices : List Choice) (name : List ℕ) (values example : List (List ℕ)) (Good : List ℕ → Type 0) → AllLawful choices → IsLater choices (name ∷ example) → (IsLater choices (name ∷ []) → ⊥) → ((value : List ℕ) (more : List (List ℕ)) → IsLater choices (name ∷ value ∷ more) → Good value) → IsNone Good values → IsFirstWrongOf (Behind choices) (name ∷ values) 1
value_wrong choices name values example Good lawful good none begins bad =
    behind (Behind choices) (λ (rest : List (List ℕ)). Behind choices (name ∷ rest)) name values 0 (λ rest. ((λ h. h), λ h. h))
    (here_wrong (λ (rest : List (List ℕ)). Behind choices (name ∷ rest)) Good values example (tail_of choices (name ∷ example) lawful good)
    (λ accepted. none (later_of choices (name ∷ []) lawful accepted))
    (λ value more accepted. begins value more (later_of choices (name ∷ value ∷ more) lawful accepted)) bad)

-- a word that spells a budget
abbrev pub IsBudget : List ℕ → Type 0
IsBudget word = (budget : ℕ) × (budget ≤ 33554432) × (word ≡ decimal budget)

pub bad_budget : (options : Options) (values : List (List ℕ)) → is_some options.budget ≡ false → IsNone IsBudget values → IsWrongBehind options (budget_name ∷ values) 1
bad_budget options values free none choices holds =
    value_wrong choices budget_name values (decimal 0 ∷ []) IsBudget holds.lawful
    (record { later = Budget 0 ∷ []; guest = None; form = refl; lawful = (omega arith, tt); few = budget_fits options 0 free choices holds })
    (λ is. let head = budget_head [] is.later is.guest is.form is.lawful in let gone = head.3 in cc)
    (λ value more is. let head = budget_head (value ∷ more) is.later is.guest is.form is.lawful in let form = head.3 in (head.0, head.4, cc)) none

pub bad_entry : (options : Options) (values : List (List ℕ)) → length options.env.items < 64 → IsNone (λ (word : List ℕ). is_entry word ≡ true) values → IsWrongBehind options (env_name ∷ values) 1
bad_entry options values free none choices holds =
    value_wrong choices env_name values ((75 ∷ 61 ∷ []) ∷ []) (λ (word : List ℕ). is_entry word ≡ true) holds.lawful
    (record { later = Env (75 ∷ 61 ∷ []) ∷ []; guest = None; form = refl; lawful = (refl, tt); few = entry_fits options (75 ∷ 61 ∷ []) free choices holds })
    (λ is. let head = entry_head [] is.later is.guest is.form is.lawful in let gone = head.3 in cc)
    (λ value more is. let head = entry_head (value ∷ more) is.later is.guest is.form is.lawful in let form = head.3 in let same : value ≡ head.0 = cc in rw same head.4) none

pub bad_input : (options : Options) (values : List (List ℕ)) → is_some options.input ≡ false → IsNone (λ (word : List ℕ). is_file word ≡ true) values → IsWrongBehind options (input_name ∷ values) 1
bad_input options values free none choices holds =
    value_wrong choices input_name values ((112 ∷ []) ∷ []) (λ (word : List ℕ). is_file word ≡ true) holds.lawful
    (record { later = Input (112 ∷ []) ∷ []; guest = None; form = refl; lawful = (refl, tt); few = input_fits options (112 ∷ []) free choices holds })
    (λ is. let head = input_head [] is.later is.guest is.form is.lawful in let gone = head.3 in cc)
    (λ value more is. let head = input_head (value ∷ more) is.later is.guest is.form is.lawful in let form = head.3 in let same : value ≡ head.0 = cc in rw same head.4) none

-- ---- where the options end

pub ends_with_divider : (words : List (List ℕ)) (name : List ℕ) (rest : List (List ℕ)) → words ≡ name ∷ rest → name ≡ divider → IsEnd words
ends_with_divider words name rest form same = (Some rest, form ∙ ap (λ (w : List ℕ). w ∷ rest) same)

-- ---- of a comparison

pub said : (b : Bool) (one other : List ℕ) → (IsTrue b ↔ (one ≡ other)) → b ≡ true → one ≡ other
said b one other tells same = tells.0 same

pub denied : (b : Bool) (one other : List ℕ) → (IsTrue b ↔ (one ≡ other)) → b ≡ false → one ≡ other → ⊥
denied b one other tells same equal = let holds = tells.1 equal in cc
