-- Which word is the first wrong one.
-- The project's own.
use Rattle.std.specs.Prelude.{◌≡◌, ◌≤◌, ◌<◌, ◌⊎◌, ℕ, ◌+◌, List, ◌++◌, length, take}
use Rattle.cli_words.specs.Command.{Command, IsSpelled, Assembly, IsAsmAsked}

-- among lists of words of which some are accepted: the index of the first word such that no accepted list begins with
-- the words up to it; where all words are fine and one is missing, the number of words
pub record IsFirstWrongOf (Accepted : List (List ℕ) → Type 0) (words : List (List ℕ)) (index : ℕ) : Type 0 where
  pub within : index ≤ length words
  pub before : (rest : List (List ℕ)) × Accepted (take index words ++ rest)
  pub wrong : index < length words → (rest : List (List ℕ)) → Accepted (take (index + 1) words ++ rest) → ⊥
  pub missing : index ≡ length words → Accepted words → ⊥

-- the words spell a `solo` or an `asm`
abbrev pub IsAccepted : List (List ℕ) → Type 0
IsAccepted words = ((command : Command) × IsSpelled words command) ⊎ ((assembly : Assembly) × IsAsmAsked words assembly)

abbrev pub IsFirstWrong : List (List ℕ) → ℕ → Type 0
IsFirstWrong words index = IsFirstWrongOf IsAccepted words index
