-- Which of the words in front is the first wrong one, and what is asked for.
use Rattle.std.proofs.Common.{◌≡◌, ◌↔◌, ◌⊎◌, inl, inr, true, ℕ, ◌+◌, List, [], ◌∷◌, ◌++◌, Option, Some, None, drop, refl, sym, ap, ◌∙◌, subst, arith}
use Rattle.std.specs.Option.{option_to_list}
use Rattle.cli_words.specs.declared.order.Plan.{Plan}
use Rattle.cli_words.specs.declared.tail.Options.{Options}
use Rattle.cli_words.specs.Words.{solo, asm, is_value, is_file, is_name}
use Rattle.cli_words.specs.Answer.{plan_asked}
use Rattle.cli_words.specs.Command.{Command, IsSpelled, Asked, IsAsked, asked_by, Assembly, IsAsmAsked, guest_words, guest_args, choices_words, budget_of, input_of}
use Rattle.cli_words.specs.FirstWrong.{IsFirstWrongOf, IsAccepted, IsFirstWrong}
use Rattle.cli_words.specs.Tail.{IsAcceptedTail, IsReadBy, IsEnd}
use Rattle.cli_words.proofs.WrongFacts.{behind_front, at_index, of_same, here_wrong, IsNone}
use Rattle.cli_words.proofs.TailFacts.{same_choices}
use Rattle.cli_words.proofs.ReadFacts.{in_two}

-- ---- words that are accepted

plain : List ℕ → List ℕ → Command
plain folder program = record { folder = folder; program = program; choices = []; guest = None }

solo_accepted : (folder program : List ℕ) → is_value folder ≡ true → is_file program ≡ true → IsAccepted (solo ∷ folder ∷ program ∷ [])
unfolding plain
solo_accepted folder program folder_value program_file = inl (
  plain folder program,
  record {
    form = refl;
    folder_value = folder_value;
    program_file = program_file;
    lawful = tt;
    few = record { one_budget = omega arith; few_entries = omega arith; one_input = omega arith; one_keep = omega arith };
  },
)

asm_accepted : (folder source out : List ℕ) → is_value folder ≡ true → is_file source ≡ true → is_name out ≡ true → IsAccepted (asm ∷ folder ∷ source ∷ out ∷ [])
asm_accepted folder source out folder_value source_file out_name = inr (
  record { folder = folder; source = source; out = out },
  record { form = refl; folder_value = folder_value; source_file = source_file; out_name = out_name },
)

-- ---- the command

-- a word that is a command
abbrev pub IsCommand : List ℕ → Type 0
IsCommand word = (word ≡ solo) ⊎ (word ≡ asm)

none_accepted : IsAccepted [] → ⊥
none_accepted (inl (command, spelled)) = let form = spelled.form in cc
none_accepted (inr (assembly, asked)) = let form = asked.form in cc

begins : (word : List ℕ) (more : List (List ℕ)) → IsAccepted (word ∷ more) → IsCommand word
begins word more (inl (command, spelled)) = let form = spelled.form in inl (cc)
begins word more (inr (assembly, asked)) = let form = asked.form in inr (cc)

pub wrong_command : (words : List (List ℕ)) → IsNone IsCommand words → IsFirstWrong words 0
wrong_command words none =
    here_wrong IsAccepted IsCommand words (solo ∷ (102 ∷ []) ∷ (112 ∷ []) ∷ []) (solo_accepted (102 ∷ []) (112 ∷ []) refl refl) none_accepted begins none

pub no_command : (words : List (List ℕ)) (word : List ℕ) (rest : List (List ℕ)) → words ≡ word ∷ rest → (word ≡ solo → ⊥) → (word ≡ asm → ⊥) → IsNone IsCommand words
no_command words word rest is not_solo not_asm other more form (inl same) = not_solo (cc)
no_command words word rest is not_solo not_asm other more form (inr same) = not_asm (cc)

solo_only : (rest : List (List ℕ)) → IsAccepted (solo ∷ rest) → (command : Command) × IsSpelled (solo ∷ rest) command
solo_only rest (inl is) = is
solo_only rest (inr (assembly, asked)) = let form = asked.form in cc

asm_only : (rest : List (List ℕ)) → IsAccepted (asm ∷ rest) → (assembly : Assembly) × IsAsmAsked (asm ∷ rest) assembly
asm_only rest (inl (command, spelled)) = let form = spelled.form in cc
asm_only rest (inr is) = is

-- ---- behind `solo`

abbrev pub IsValue : List ℕ → Type 0
IsValue word = is_value word ≡ true

abbrev pub IsFile : List ℕ → Type 0
IsFile word = is_file word ≡ true

abbrev pub IsName : List ℕ → Type 0
IsName word = is_name word ≡ true

pub solo_folder : (words : List (List ℕ)) → IsNone IsValue words → IsFirstWrong (solo ∷ words) 1
solo_folder words none =
    behind_front IsAccepted (solo ∷ []) words 0
    (here_wrong (λ (rest : List (List ℕ)). IsAccepted (solo ∷ rest)) IsValue words ((102 ∷ []) ∷ (112 ∷ []) ∷ []) (solo_accepted (102 ∷ []) (112 ∷ []) refl refl)
    (λ accepted. let is = solo_only [] accepted in let form = is.1.form in cc)
    (λ word more accepted.
    let is = solo_only (word ∷ more) accepted in
    let form = is.1.form in
    let same : word ≡ is.0.folder = cc in
    rw same is.1.folder_value) none)

pub solo_program : (folder : List ℕ) (words : List (List ℕ)) → is_value folder ≡ true → IsNone IsFile words → IsFirstWrong (solo ∷ folder ∷ words) 2
solo_program folder words value none =
    behind_front IsAccepted (solo ∷ folder ∷ []) words 0
    (here_wrong (λ (rest : List (List ℕ)). IsAccepted (solo ∷ folder ∷ rest)) IsFile words ((112 ∷ []) ∷ []) (solo_accepted folder (112 ∷ []) value refl)
    (λ accepted. let is = solo_only (folder ∷ []) accepted in let form = is.1.form in cc)
    (λ word more accepted.
    let is = solo_only (folder ∷ word ∷ more) accepted in
    let form = is.1.form in
    let same : word ≡ is.0.program = cc in
    rw same is.1.program_file) none)

front_accepted : (folder program : List ℕ) (rest : List (List ℕ)) → is_value folder ≡ true → is_file program ≡ true → IsAccepted (solo ∷ folder ∷ program ∷ rest) ↔ IsAcceptedTail rest
front_accepted folder program rest value file = (
  λ accepted.
      let is = solo_only (folder ∷ program ∷ rest) accepted in
      let form = is.1.form in
      (is.0.choices, is.0.guest, record { form = cc; lawful = is.1.lawful; few = is.1.few }),
  λ accepted.
      let tail = accepted.2 in
      let form = tail.form in
      inl (
        record { folder = folder; program = program; choices = accepted.0; guest = accepted.1 },
        record { form = cc; folder_value = value; program_file = file; lawful = tail.lawful; few = tail.few },
      ),
)

pub solo_tail : (folder program : List ℕ) (words : List (List ℕ)) (index : ℕ) → is_value folder ≡ true → is_file program ≡ true → IsFirstWrongOf IsAcceptedTail words index → IsFirstWrong (solo ∷ folder ∷ program ∷ words) (index + 3)
solo_tail folder program words index value file first =
    at_index IsAccepted (solo ∷ folder ∷ program ∷ words) (3 + index) (index + 3) (omega arith)
    (behind_front IsAccepted (solo ∷ folder ∷ program ∷ []) words index
    (of_same (λ (rest : List (List ℕ)). IsAccepted (solo ∷ folder ∷ program ∷ rest)) IsAcceptedTail words index (λ rest. front_accepted folder program rest value file) first))

-- ---- what is asked for

args_behind : (words : List (List ℕ)) (last : Option (List (List ℕ))) → words ≡ guest_words last → drop 1 words ≡ guest_args last
args_behind words None form = rw form refl
args_behind words (Some args) form = rw form refl

input_is : (input : Option (List ℕ)) → input ≡ input_of (option_to_list input)
input_is None = refl
input_is (Some name) = refl

same_asked : (one other : Asked) → one.folder ≡ other.folder → one.program ≡ other.program → one.args ≡ other.args → one.env ≡ other.env → one.budget ≡ other.budget → one.input ≡ other.input → one.keep ≡ other.keep → one ≡ other
same_asked one other folder program args env budget input keep =
    λ i. record { folder = folder i; program = program i; args = args i; env = env i; budget = budget i; input = input i; keep = keep i }

pub solo_asked : (folder program : List ℕ) (words : List (List ℕ)) (options : Options) (plan : Plan) → is_value folder ≡ true → is_file program ≡ true → IsReadBy words options → IsEnd (drop options.place words) → plan.folder ≡ folder → plan.program ≡ program → plan.args.items ≡ drop 1 (drop options.place words) → plan.env.items ≡ options.env.items → plan.budget ≡ budget_of (option_to_list options.budget) → plan.input ≡ options.input → plan.keep ≡ options.keep → IsAsked (solo ∷ folder ∷ program ∷ words) (plan_asked plan)
solo_asked folder program words options plan value file read (last, end) folder_is program_is args env budget input keep =
    let holds = read.holds in
    let choices = read.choices in
    let form : words ≡ choices_words choices ++ guest_words last = in_two words options read ∙ ap (λ (ws : List (List ℕ)). choices_words choices ++ ws) end in
    let command : Command = record { folder = folder; program = program; choices = choices; guest = last } in (
      command,
      record {
        form = ap (λ (ws : List (List ℕ)). solo ∷ folder ∷ program ∷ ws) form;
        folder_value = value;
        program_file = file;
        lawful = holds.lawful;
        few = holds.few;
      },
      same_asked (plan_asked plan) (asked_by command) folder_is program_is
          (args ∙ args_behind (drop options.place words) last end) (env ∙ holds.env)
          (budget ∙ ap budget_of holds.budget)
          (input ∙ input_is options.input ∙ ap input_of holds.input)
          (keep ∙ holds.keep),
    )

-- ---- behind `asm`

pub asm_folder : (words : List (List ℕ)) → IsNone IsValue words → IsFirstWrong (asm ∷ words) 1
asm_folder words none =
    behind_front IsAccepted (asm ∷ []) words 0
    (here_wrong (λ (rest : List (List ℕ)). IsAccepted (asm ∷ rest)) IsValue words ((102 ∷ []) ∷ (115 ∷ []) ∷ (111 ∷ []) ∷ []) (asm_accepted (102 ∷ []) (115 ∷ []) (111 ∷ []) refl refl refl)
    (λ accepted. let is = asm_only [] accepted in let form = is.1.form in cc)
    (λ word more accepted.
    let is = asm_only (word ∷ more) accepted in
    let form = is.1.form in
    let same : word ≡ is.0.folder = cc in
    rw same is.1.folder_value) none)

pub asm_source : (folder : List ℕ) (words : List (List ℕ)) → is_value folder ≡ true → IsNone IsFile words → IsFirstWrong (asm ∷ folder ∷ words) 2
asm_source folder words value none =
    behind_front IsAccepted (asm ∷ folder ∷ []) words 0
    (here_wrong (λ (rest : List (List ℕ)). IsAccepted (asm ∷ folder ∷ rest)) IsFile words ((115 ∷ []) ∷ (111 ∷ []) ∷ []) (asm_accepted folder (115 ∷ []) (111 ∷ []) value refl refl)
    (λ accepted. let is = asm_only (folder ∷ []) accepted in let form = is.1.form in cc)
    (λ word more accepted.
    let is = asm_only (folder ∷ word ∷ more) accepted in
    let form = is.1.form in
    let same : word ≡ is.0.source = cc in
    rw same is.1.source_file) none)

pub asm_out : (folder source : List ℕ) (words : List (List ℕ)) → is_value folder ≡ true → is_file source ≡ true → IsNone IsName words → IsFirstWrong (asm ∷ folder ∷ source ∷ words) 3
asm_out folder source words value file none =
    behind_front IsAccepted (asm ∷ folder ∷ source ∷ []) words 0
    (here_wrong (λ (rest : List (List ℕ)). IsAccepted (asm ∷ folder ∷ source ∷ rest)) IsName words ((111 ∷ []) ∷ []) (asm_accepted folder source (111 ∷ []) value file refl)
    (λ accepted. let is = asm_only (folder ∷ source ∷ []) accepted in let form = is.1.form in cc)
    (λ word more accepted.
    let is = asm_only (folder ∷ source ∷ word ∷ more) accepted in
    let form = is.1.form in
    let same : word ≡ is.0.out = cc in
    rw same is.1.out_name) none)

-- a word too many
pub asm_more : (folder source out more : List ℕ) (words : List (List ℕ)) → is_value folder ≡ true → is_file source ≡ true → is_name out ≡ true → IsFirstWrong (asm ∷ folder ∷ source ∷ out ∷ more ∷ words) 4
asm_more folder source out more words value file name =
    behind_front IsAccepted (asm ∷ folder ∷ source ∷ out ∷ []) (more ∷ words) 0
    (record {
      within = omega arith;
      before = ([], asm_accepted folder source out value file name);
      wrong = λ inside rest accepted. let is = asm_only (folder ∷ source ∷ out ∷ more ∷ rest) accepted in let form = is.1.form in cc;
      missing = λ all accepted. absurd (omega arith);
    })

-- ---- words spell one command

pub same_command : (words : List (List ℕ)) (one other : Command) → IsSpelled words one → IsSpelled words other → one ≡ other
same_command words one other first second =
    let form = first.form in
    let again = second.form in
    let rest : choices_words one.choices ++ guest_words one.guest ≡ choices_words other.choices ++ guest_words other.guest = cc in
    let folder : one.folder ≡ other.folder = cc in
    let program : one.program ≡ other.program = cc in
    let same = same_choices one.choices other.choices one.guest other.guest rest first.lawful second.lawful in
    λ i. record { folder = folder i; program = program i; choices = same.0 i; guest = same.1 i }

pub same_assembly : (words : List (List ℕ)) (one other : Assembly) → IsAsmAsked words one → IsAsmAsked words other → one ≡ other
same_assembly words one other first second =
    let form = first.form in
    let again = second.form in
    let folder : one.folder ≡ other.folder = cc in
    let source : one.source ≡ other.source = cc in
    let out : one.out ≡ other.out = cc in
    λ i. record { folder = folder i; source = source i; out = out i }

pub never_both : (words : List (List ℕ)) (command : Command) (assembly : Assembly) → IsSpelled words command → IsAsmAsked words assembly → ⊥
never_both words command assembly spelled asked =
    let form = spelled.form in
    let again = asked.form in
    cc

-- and ask for one thing, and for nothing else
only_asked : (words : List (List ℕ)) (one other : Asked) → IsAsked words one → IsAsked words other → other ≡ one
only_asked words one other first second =
    second.2 ∙ ap asked_by (same_command words second.0 first.0 second.1 first.1) ∙ sym first.2

pub only_solo : (words : List (List ℕ)) (word : List ℕ) (rest : List (List ℕ)) (asked : Asked) → words ≡ word ∷ rest → word ≡ solo → IsAsked (solo ∷ rest) asked → ((other : Asked) → IsAsked words other → other ≡ asked) × ((assembly : Assembly) → IsAsmAsked words assembly → ⊥)
only_solo words word rest asked form same is =
    let here : words ≡ solo ∷ rest = cc in (
      λ other asks.
          let family : List (List ℕ) → Type 0 = λ ws. IsAsked ws other in
          only_asked (solo ∷ rest) asked other is (subst family here asks),
      λ assembly asks. let again = asks.form in cc,
    )

pub only_asm : (words : List (List ℕ)) (word : List ℕ) (rest : List (List ℕ)) (assembly : Assembly) → words ≡ word ∷ rest → word ≡ asm → IsAsmAsked (asm ∷ rest) assembly → ((other : Assembly) → IsAsmAsked words other → other ≡ assembly) × ((asked : Asked) → IsAsked words asked → ⊥)
only_asm words word rest assembly form same is =
    let here : words ≡ asm ∷ rest = cc in (
      λ other asks.
          let family : List (List ℕ) → Type 0 = λ ws. IsAsmAsked ws other in
          same_assembly (asm ∷ rest) other assembly (subst family here asks) is,
      λ asked asks. let again = asks.1.form in cc,
    )
