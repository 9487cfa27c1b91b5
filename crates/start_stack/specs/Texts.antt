-- Texts in memory: each with a zero behind it, one after the other, and their addresses.
-- Source: System V ABI, "Process Initialization" (the information block of the initial process stack).
use Rattle.std.specs.Prelude.{ℕ, ◌+◌, List, [], ◌∷◌, ◌++◌, length}
use Rattle.std.specs.List.{flat_map}

-- a text with its zero
abbrev pub with_zero : List ℕ → List ℕ
with_zero text = text ++ 0 ∷ []

-- the texts, one after the other
abbrev pub joined : List (List ℕ) → List ℕ
joined texts = flat_map with_zero texts

-- the address of each text, where the first stands at an address
unfoldable pub addresses_from : ℕ → List (List ℕ) → List ℕ
addresses_from at [] = []
addresses_from at (text ∷ texts) = at ∷ addresses_from (at + length (with_zero text)) texts
