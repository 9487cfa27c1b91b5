-- The commands `solo FOLDER PROGRAM [options] [-- ARGS]` and `asm FOLDER SOURCE OUT`: how each is spelled in words, and what
-- it asks for.
-- The project's own.
use Rattle.std.specs.Prelude.{◌≡◌, ◌≤◌, ℕ, zero, suc, Bool, true, false, List, [], ◌∷◌, ◌++◌, length, Option, Some, None}
use Rattle.std.specs.Fmt.{decimal}
use Rattle.cli_words.specs.Words.{solo, asm, budget_name, env_name, input_name, keep_name, divider, is_value, is_file, is_name, is_entry}

-- ---- `solo`

-- an option: `--budget N`, `--env K=V`, `--input NAME` or `--keep`
pub data Choice : Type 0 where
  Budget : ℕ → Choice
  Env : List ℕ → Choice
  Input : List ℕ → Choice
  Keep : Choice

-- its words. A number is written in decimal digits, with no zero in front of others
abbrev pub choice_words : Choice → List (List ℕ)
choice_words (Budget budget) = budget_name ∷ decimal budget ∷ []
choice_words (Env entry) = env_name ∷ entry ∷ []
choice_words (Input name) = input_name ∷ name ∷ []
choice_words Keep = keep_name ∷ []

-- the words of options, in their order
abbrev pub choices_words : List Choice → List (List ℕ)
choices_words [] = []
choices_words (choice ∷ choices) = choice_words choice ++ choices_words choices

-- nothing, or the divider and the guest's words
abbrev pub guest_words : Option (List (List ℕ)) → List (List ℕ)
guest_words None = []
guest_words (Some args) = divider ∷ args

-- the greatest budget of events
abbrev pub most_budget : ℕ
most_budget = 33554432

-- a budget is at most the greatest, what goes into the environment is an entry, and an input names a file
abbrev pub IsLawful : Choice → Type 0
IsLawful (Budget budget) = budget ≤ most_budget
IsLawful (Env entry) = is_entry entry ≡ true
IsLawful (Input name) = is_file name ≡ true
IsLawful Keep = Unit {0}

abbrev pub AllLawful : List Choice → Type 0
AllLawful [] = Unit {0}
AllLawful (choice ∷ choices) = IsLawful choice × AllLawful choices

-- the budgets that options give, the entries and the inputs, each in their order, and how often `--keep` is given
abbrev pub budgets : List Choice → List ℕ
budgets [] = []
budgets (Budget budget ∷ choices) = budget ∷ budgets choices
budgets (Env entry ∷ choices) = budgets choices
budgets (Input name ∷ choices) = budgets choices
budgets (Keep ∷ choices) = budgets choices

abbrev pub entries : List Choice → List (List ℕ)
entries [] = []
entries (Budget budget ∷ choices) = entries choices
entries (Env entry ∷ choices) = entry ∷ entries choices
entries (Input name ∷ choices) = entries choices
entries (Keep ∷ choices) = entries choices

abbrev pub inputs : List Choice → List (List ℕ)
inputs [] = []
inputs (Budget budget ∷ choices) = inputs choices
inputs (Env entry ∷ choices) = inputs choices
inputs (Input name ∷ choices) = name ∷ inputs choices
inputs (Keep ∷ choices) = inputs choices

abbrev pub keeps : List Choice → ℕ
keeps [] = 0
keeps (Budget budget ∷ choices) = keeps choices
keeps (Env entry ∷ choices) = keeps choices
keeps (Input name ∷ choices) = keeps choices
keeps (Keep ∷ choices) = suc (keeps choices)

-- no option is given too often
pub record AreFew (choices : List Choice) : Type 0 where
  pub one_budget : length (budgets choices) ≤ 1
  pub few_entries : length (entries choices) ≤ 64
  pub one_input : length (inputs choices) ≤ 1
  pub one_keep : keeps choices ≤ 1

pub record Command : Type 0 where
  pub folder : List ℕ
  pub program : List ℕ
  pub choices : List Choice
  pub guest : Option (List (List ℕ))

-- the words spell this command
pub record IsSpelled (words : List (List ℕ)) (command : Command) : Type 0 where
  pub form : words ≡ solo ∷ command.folder ∷ command.program ∷ (choices_words command.choices ++ guest_words command.guest)
  pub folder_value : is_value command.folder ≡ true
  pub program_file : is_file command.program ≡ true
  pub lawful : AllLawful command.choices
  pub few : AreFew command.choices

-- what a command asks for
pub record Asked : Type 0 where
  pub folder : List ℕ
  pub program : List ℕ
  pub args : List (List ℕ)
  pub env : List (List ℕ)
  pub budget : ℕ
  pub input : Option (List ℕ)
  pub keep : Bool

-- the guest's words; none where there is no divider
abbrev pub guest_args : Option (List (List ℕ)) → List (List ℕ)
guest_args None = []
guest_args (Some args) = args

-- the budget that is given, or 4194304
abbrev pub budget_of : List ℕ → ℕ
budget_of [] = 4194304
budget_of (budget ∷ more) = budget

-- the input that is given, if one is
abbrev pub input_of : List (List ℕ) → Option (List ℕ)
input_of [] = None
input_of (name ∷ more) = Some name

-- whether what is counted is given at all
abbrev pub is_given : ℕ → Bool
is_given zero = false
is_given (suc more) = true

abbrev pub asked_by : Command → Asked
asked_by command = record {
  folder = command.folder;
  program = command.program;
  args = guest_args command.guest;
  env = entries command.choices;
  budget = budget_of (budgets command.choices);
  input = input_of (inputs command.choices);
  keep = is_given (keeps command.choices);
}

-- the words spell a command that asks for this
abbrev pub IsAsked : List (List ℕ) → Asked → Type 0
IsAsked words asked = (command : Command) × IsSpelled words command × (asked ≡ asked_by command)

-- ---- `asm`

-- what it asks for: a file of the folder is made into another
pub record Assembly : Type 0 where
  pub folder : List ℕ
  pub source : List ℕ
  pub out : List ℕ

-- the words ask for this
pub record IsAsmAsked (words : List (List ℕ)) (assembly : Assembly) : Type 0 where
  pub form : words ≡ asm ∷ assembly.folder ∷ assembly.source ∷ assembly.out ∷ []
  pub folder_value : is_value assembly.folder ≡ true
  pub source_file : is_file assembly.source ≡ true
  pub out_name : is_name assembly.out ≡ true
