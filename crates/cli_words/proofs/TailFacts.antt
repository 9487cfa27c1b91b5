-- How the words behind PROGRAM are read: which options they are, and which words can't stand there.
use Rattle.std.proofs.Common.{◌≡◌, ℕ, ◌+◌, ◌≤◌, true, List, [], ◌∷◌, ◌++◌, length, Option, Some, None, refl, sym, ap, ◌∙◌, subst, append_assoc, append-nil, length-append, arith}
use Rattle.std.specs.Fmt.{decimal}
use Rattle.std.proofs.lemmas.Fmt.{decimal_injective}
use Rattle.cli_words.specs.Words.{budget_name, env_name, input_name, keep_name, divider, is_entry, is_file}
use Rattle.cli_words.specs.Command.{Choice, Budget, Env, Input, Keep, guest_words, budgets, entries, inputs, keeps, choice_words, choices_words, IsLawful, AllLawful, AreFew}
use Rattle.cli_words.specs.Tail.{IsAcceptedTail}

-- ---- options behind each other

pub budgets_both : (one other : List Choice) → budgets (one ++ other) ≡ budgets one ++ budgets other
budgets_both [] other = refl
budgets_both (Budget budget ∷ one) other = ap (λ (xs : List ℕ). budget ∷ xs) (budgets_both one other)
budgets_both (Env entry ∷ one) other = budgets_both one other
budgets_both (Input name ∷ one) other = budgets_both one other
budgets_both (Keep ∷ one) other = budgets_both one other

pub entries_both : (one other : List Choice) → entries (one ++ other) ≡ entries one ++ entries other
entries_both [] other = refl
entries_both (Budget budget ∷ one) other = entries_both one other
entries_both (Env entry ∷ one) other = ap (λ (xs : List (List ℕ)). entry ∷ xs) (entries_both one other)
entries_both (Input name ∷ one) other = entries_both one other
entries_both (Keep ∷ one) other = entries_both one other

pub inputs_both : (one other : List Choice) → inputs (one ++ other) ≡ inputs one ++ inputs other
inputs_both [] other = refl
inputs_both (Budget budget ∷ one) other = inputs_both one other
inputs_both (Env entry ∷ one) other = inputs_both one other
inputs_both (Input name ∷ one) other = ap (λ (xs : List (List ℕ)). name ∷ xs) (inputs_both one other)
inputs_both (Keep ∷ one) other = inputs_both one other

pub keeps_both : (one other : List Choice) → keeps (one ++ other) ≡ keeps one + keeps other
keeps_both [] other = omega arith
keeps_both (Budget budget ∷ one) other = keeps_both one other
keeps_both (Env entry ∷ one) other = keeps_both one other
keeps_both (Input name ∷ one) other = keeps_both one other
keeps_both (Keep ∷ one) other = let more = keeps_both one other in omega arith

pub words_both : (one other : List Choice) → choices_words (one ++ other) ≡ choices_words one ++ choices_words other
words_both [] other = refl
words_both (choice ∷ one) other =
    ap (λ (ws : List (List ℕ)). choice_words choice ++ ws) (words_both one other)
    ∙ sym (append_assoc (choice_words choice) (choices_words one) (choices_words other))

pub lawful_both : (one other : List Choice) → AllLawful one → AllLawful other → AllLawful (one ++ other)
lawful_both [] other lawful more = more
lawful_both (choice ∷ one) other lawful more = (lawful.0, lawful_both one other lawful.1 more)

-- one more
pub few_added : (choices : List Choice) (choice : Choice) → length (budgets choices) + length (budgets (choice ∷ [])) ≤ 1 → length (entries choices) + length (entries (choice ∷ [])) ≤ 64 → length (inputs choices) + length (inputs (choice ∷ [])) ≤ 1 → keeps choices + keeps (choice ∷ []) ≤ 1 → AreFew (choices ++ choice ∷ [])
few_added choices choice one few input keep = record {
  one_budget = rw (budgets_both choices (choice ∷ []), length-append (budgets choices) (budgets (choice ∷ []))) one;
  few_entries = rw (entries_both choices (choice ∷ []), length-append (entries choices) (entries (choice ∷ []))) few;
  one_input = rw (inputs_both choices (choice ∷ []), length-append (inputs choices) (inputs (choice ∷ []))) input;
  one_keep = rw (keeps_both choices (choice ∷ [])) keep;
}

-- ---- the spelling inverted

-- one option
choice_back : (choice : Choice) → IsLawful choice → (rest : List (List ℕ)) (choices : List Choice) (guest : Option (List (List ℕ))) → choice_words choice ++ rest ≡ choices_words choices ++ guest_words guest → AllLawful choices → (later : List Choice) × (choices ≡ choice ∷ later) × (rest ≡ choices_words later ++ guest_words guest) × AllLawful later
choice_back (Budget budget) good rest [] None form all = cc
choice_back (Budget budget) good rest [] (Some args) form all = cc
choice_back (Budget budget) good rest (Budget other ∷ later) guest form all =
    let written : decimal budget ≡ decimal other = cc in
    let fits : other ≤ 33554432 = all.0 in
    let same : budget ≡ other = decimal_injective budget other (omega arith) (omega arith) written in
    (later, ap (λ (b : ℕ). Budget b ∷ later) (sym same), (cc), all.1)
choice_back (Budget budget) good rest (Env other ∷ later) guest form all = cc
choice_back (Budget budget) good rest (Input other ∷ later) guest form all = cc
choice_back (Budget budget) good rest (Keep ∷ later) guest form all = cc
choice_back (Env entry) good rest [] None form all = cc
choice_back (Env entry) good rest [] (Some args) form all = cc
choice_back (Env entry) good rest (Budget other ∷ later) guest form all = cc
choice_back (Env entry) good rest (Env other ∷ later) guest form all =
    let same : entry ≡ other = cc in
    (later, ap (λ (w : List ℕ). Env w ∷ later) (sym same), (cc), all.1)
choice_back (Env entry) good rest (Input other ∷ later) guest form all = cc
choice_back (Env entry) good rest (Keep ∷ later) guest form all = cc
choice_back (Input name) good rest [] None form all = cc
choice_back (Input name) good rest [] (Some args) form all = cc
choice_back (Input name) good rest (Budget other ∷ later) guest form all = cc
choice_back (Input name) good rest (Env other ∷ later) guest form all = cc
choice_back (Input name) good rest (Input other ∷ later) guest form all =
    let same : name ≡ other = cc in
    (later, ap (λ (w : List ℕ). Input w ∷ later) (sym same), (cc), all.1)
choice_back (Input name) good rest (Keep ∷ later) guest form all = cc
choice_back Keep good rest [] None form all = cc
choice_back Keep good rest [] (Some args) form all = cc
choice_back Keep good rest (Budget other ∷ later) guest form all = cc
choice_back Keep good rest (Env other ∷ later) guest form all = cc
choice_back Keep good rest (Input other ∷ later) guest form all = cc
choice_back Keep good rest (Keep ∷ later) guest form all = (later, refl, (cc), all.1)

-- many
pub front_back : (front : List Choice) → AllLawful front → (rest : List (List ℕ)) (choices : List Choice) (guest : Option (List (List ℕ))) → choices_words front ++ rest ≡ choices_words choices ++ guest_words guest → AllLawful choices → (later : List Choice) × (choices ≡ front ++ later) × (rest ≡ choices_words later ++ guest_words guest) × AllLawful later
front_back [] lawful rest choices guest form all = (choices, refl, form, all)
front_back (choice ∷ front) lawful rest choices guest form all =
    let first = choice_back choice lawful.0 (choices_words front ++ rest) choices guest (sym (append_assoc (choice_words choice) (choices_words front) rest) ∙ form) all in
    let more = front_back front lawful.1 rest first.0 guest first.2 first.3 in
    (more.0, first.1 ∙ ap (λ (cs : List Choice). choice ∷ cs) more.1, more.2, more.3)

-- ---- what stands behind options: more of them, which together are few, and the guest's words
pub record IsLater (front : List Choice) (words : List (List ℕ)) : Type 0 where
  pub later : List Choice
  pub guest : Option (List (List ℕ))
  pub form : words ≡ choices_words later ++ guest_words guest
  pub lawful : AllLawful later
  pub few : AreFew (front ++ later)

pub later_of : (front : List Choice) (words : List (List ℕ)) → AllLawful front → IsAcceptedTail (choices_words front ++ words) → IsLater front words
later_of front words lawful (choices, guest, tail) =
    let back = front_back front lawful words choices guest tail.form tail.lawful in
    record { later = back.0; guest = guest; form = back.2; lawful = back.3; few = subst AreFew back.1 tail.few }

pub tail_of : (front : List Choice) (words : List (List ℕ)) → AllLawful front → IsLater front words → IsAcceptedTail (choices_words front ++ words)
tail_of front words lawful is = (
  front ++ is.later,
  is.guest,
  record {
    form =
        ap (λ (ws : List (List ℕ)). choices_words front ++ ws) is.form
        ∙ sym (append_assoc (choices_words front) (choices_words is.later) (guest_words is.guest))
        ∙ ap (λ (ws : List (List ℕ)). ws ++ guest_words is.guest) (sym (words_both front is.later));
    lawful = lawful_both front is.later lawful is.lawful;
    few = is.few;
  },
)

-- ---- what a name in front says

pub budget_head : (more : List (List ℕ)) (later : List Choice) (guest : Option (List (List ℕ))) → budget_name ∷ more ≡ choices_words later ++ guest_words guest → AllLawful later → (budget : ℕ) × (rest : List Choice) × (later ≡ Budget budget ∷ rest) × (more ≡ decimal budget ∷ (choices_words rest ++ guest_words guest)) × (budget ≤ 33554432)
budget_head more [] None form all = cc
budget_head more [] (Some args) form all = cc
budget_head more (Budget budget ∷ rest) guest form all = (budget, rest, refl, (cc), all.0)
budget_head more (Env entry ∷ rest) guest form all = cc
budget_head more (Input name ∷ rest) guest form all = cc
budget_head more (Keep ∷ rest) guest form all = cc

pub entry_head : (more : List (List ℕ)) (later : List Choice) (guest : Option (List (List ℕ))) → env_name ∷ more ≡ choices_words later ++ guest_words guest → AllLawful later → (entry : List ℕ) × (rest : List Choice) × (later ≡ Env entry ∷ rest) × (more ≡ entry ∷ (choices_words rest ++ guest_words guest)) × (is_entry entry ≡ true)
entry_head more [] None form all = cc
entry_head more [] (Some args) form all = cc
entry_head more (Budget budget ∷ rest) guest form all = cc
entry_head more (Env entry ∷ rest) guest form all = (entry, rest, refl, (cc), all.0)
entry_head more (Input name ∷ rest) guest form all = cc
entry_head more (Keep ∷ rest) guest form all = cc

pub input_head : (more : List (List ℕ)) (later : List Choice) (guest : Option (List (List ℕ))) → input_name ∷ more ≡ choices_words later ++ guest_words guest → AllLawful later → (name : List ℕ) × (rest : List Choice) × (later ≡ Input name ∷ rest) × (more ≡ name ∷ (choices_words rest ++ guest_words guest)) × (is_file name ≡ true)
input_head more [] None form all = cc
input_head more [] (Some args) form all = cc
input_head more (Budget budget ∷ rest) guest form all = cc
input_head more (Env entry ∷ rest) guest form all = cc
input_head more (Input name ∷ rest) guest form all = (name, rest, refl, (cc), all.0)
input_head more (Keep ∷ rest) guest form all = cc

pub keep_head : (more : List (List ℕ)) (later : List Choice) (guest : Option (List (List ℕ))) → keep_name ∷ more ≡ choices_words later ++ guest_words guest → AllLawful later → (rest : List Choice) × (later ≡ Keep ∷ rest)
keep_head more [] None form all = cc
keep_head more [] (Some args) form all = cc
keep_head more (Budget budget ∷ rest) guest form all = cc
keep_head more (Env entry ∷ rest) guest form all = cc
keep_head more (Input name ∷ rest) guest form all = cc
keep_head more (Keep ∷ rest) guest form all = (rest, refl)

-- no other word is a name
pub no_head : (name : List ℕ) (more : List (List ℕ)) (later : List Choice) (guest : Option (List (List ℕ))) → (name ≡ divider → ⊥) → (name ≡ budget_name → ⊥) → (name ≡ env_name → ⊥) → (name ≡ input_name → ⊥) → (name ≡ keep_name → ⊥) → name ∷ more ≡ choices_words later ++ guest_words guest → ⊥
no_head name more [] None not_divider not_budget not_env not_input not_keep form = cc
no_head name more [] (Some args) not_divider not_budget not_env not_input not_keep form = not_divider (cc)
no_head name more (Budget budget ∷ rest) guest not_divider not_budget not_env not_input not_keep form = not_budget (cc)
no_head name more (Env entry ∷ rest) guest not_divider not_budget not_env not_input not_keep form = not_env (cc)
no_head name more (Input input ∷ rest) guest not_divider not_budget not_env not_input not_keep form = not_input (cc)
no_head name more (Keep ∷ rest) guest not_divider not_budget not_env not_input not_keep form = not_keep (cc)

-- ---- the spelling has one reading

guest_back : (one other : Option (List (List ℕ))) (later : List Choice) → guest_words one ≡ choices_words later ++ guest_words other → (later ≡ []) × (one ≡ other)
guest_back None None [] same = (refl, refl)
guest_back None (Some args) [] same = cc
guest_back (Some words) None [] same = cc
guest_back (Some words) (Some args) [] same = (refl, cc)
guest_back None other (Budget value ∷ later) same = cc
guest_back None other (Env value ∷ later) same = cc
guest_back None other (Input value ∷ later) same = cc
guest_back None other (Keep ∷ later) same = cc
guest_back (Some words) other (Budget value ∷ later) same = cc
guest_back (Some words) other (Env value ∷ later) same = cc
guest_back (Some words) other (Input value ∷ later) same = cc
guest_back (Some words) other (Keep ∷ later) same = cc

pub same_choices : (one other : List Choice) (first second : Option (List (List ℕ))) → choices_words one ++ guest_words first ≡ choices_words other ++ guest_words second → AllLawful one → AllLawful other → (one ≡ other) × (first ≡ second)
same_choices one other first second form lawful all =
    let back = front_back one lawful (guest_words first) other second form all in
    let last = guest_back first second back.0 back.2 in
    (sym (back.1 ∙ ap (λ (cs : List Choice). one ++ cs) last.0 ∙ append-nil one), last.1)
