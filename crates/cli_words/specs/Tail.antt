-- What may stand behind PROGRAM, or behind some of the options.
-- The project's own.
use Rattle.std.specs.Prelude.{◌≡◌, ◌≤◌, ℕ, List, [], ◌∷◌, ◌++◌, length, take, drop, Option}
use Rattle.std.specs.Option.{option_to_list}
use Rattle.cli_words.specs.declared.tail.Found.{Found}
use Rattle.cli_words.specs.declared.tail.Found.TheVariants as found
use Rattle.cli_words.specs.declared.tail.Options.{Options}
use Rattle.cli_words.specs.declared.order.WordsFault.{WordsFault}
use Rattle.cli_words.specs.declared.order.WordsFault.TheVariants.{At, Memory}
use Rattle.cli_words.specs.Command.{Choice, Budget, Env, Input, Keep, choice_words, choices_words, guest_words, IsLawful, AllLawful, budgets, entries, inputs, keeps, AreFew, is_given}
use Rattle.cli_words.specs.FirstWrong.{IsFirstWrongOf}

-- the words are these options and the guest's words
pub record IsTail (words : List (List ℕ)) (choices : List Choice) (guest : Option (List (List ℕ))) : Type 0 where
  pub form : words ≡ choices_words choices ++ guest_words guest
  pub lawful : AllLawful choices
  pub few : AreFew choices

abbrev pub IsAcceptedTail : List (List ℕ) → Type 0
IsAcceptedTail words = (choices : List Choice) × (guest : Option (List (List ℕ))) × IsTail words choices guest

-- what the options hold is what these choices give
pub record Holds (options : Options) (choices : List Choice) : Type 0 where
  pub lawful : AllLawful choices
  pub few : AreFew choices
  pub budget : option_to_list options.budget ≡ budgets choices
  pub env : options.env.items ≡ entries choices
  pub input : option_to_list options.input ≡ inputs choices
  pub keep : options.keep ≡ is_given (keeps choices)

-- the words up to the options' place are choices, and they hold what these give
pub record IsReadBy (words : List (List ℕ)) (options : Options) : Type 0 where
  pub within : options.place ≤ length words
  pub choices : List Choice
  pub front : take options.place words ≡ choices_words choices
  pub holds : Holds options choices

-- the options end here: nothing follows, or the guest's words do
abbrev pub IsEnd : List (List ℕ) → Type 0
IsEnd words = (guest : Option (List (List ℕ))) × (words ≡ guest_words guest)

-- a choice stands in front of words, and may be added to those that the options hold
pub record IsNext (options : Options) (words : List (List ℕ)) (choice : Choice) : Type 0 where
  pub form : words ≡ choice_words choice ++ drop (length (choice_words choice)) words
  pub lawful : IsLawful choice
  pub few : (choices : List Choice) → Holds options choices → AreFew (choices ++ choice ∷ [])

-- what stands in front of words
abbrev pub IsFound : Options → List (List ℕ) → Found → Type 0
IsFound options words (found.Budget budget) = IsNext options words (Budget budget)
IsFound options words (found.Env entry) = IsNext options words (Env entry.now)
IsFound options words (found.Input name) = IsNext options words (Input name.now)
IsFound options words found.Keep = IsNext options words Keep
IsFound options words found.End = IsEnd words

-- the first wrong word of those behind the choices that the options hold
abbrev pub IsWrongBehind : Options → List (List ℕ) → ℕ → Type 0
IsWrongBehind options words index =
    (choices : List Choice) → Holds options choices → IsFirstWrongOf (λ rest. IsAcceptedTail (choices_words choices ++ rest)) words index

-- a fault names the first wrong word of a tail, save for want of memory
abbrev pub IsTailFault : List (List ℕ) → WordsFault → Type 0
IsTailFault words (At index) = IsFirstWrongOf IsAcceptedTail words index
IsTailFault words Memory = Unit {0}
