-- The parts of a statement's text: blanks, words, and what a byte cuts.
-- The project's own.
use Rattle.std.specs.Prelude.{ℕ, ◌==◌, nat_le, Bool, false, ◌||◌, ◌&&◌, if◌then◌else◌, List, [], ◌∷◌, Option, Some, None}
use Rattle.std.specs.List.{list_all}
use Rattle.std.specs.Option.{option_map}

-- a space or a tab
abbrev pub is_blank : ℕ → Bool
is_blank byte = (byte == 32) || (byte == 9)

abbrev pub is_between : ℕ → ℕ → ℕ → Bool
is_between low high byte = nat_le low byte && nat_le byte high

abbrev pub is_digit : ℕ → Bool
is_digit byte = is_between 48 57 byte

-- a letter of either case, or `_`
abbrev pub begins_name : ℕ → Bool
begins_name byte = (is_between 97 122 byte || is_between 65 90 byte) || (byte == 95)

abbrev pub is_of_name : ℕ → Bool
is_of_name byte = begins_name byte || is_digit byte

-- a name: letters, digits and `_`, not first a digit
abbrev pub is_name : List ℕ → Bool
is_name [] = false
is_name (byte ∷ bytes) = begins_name byte && list_all is_of_name bytes

abbrev pub is_all_blank : List ℕ → Bool
is_all_blank text = list_all is_blank text

-- the text without the blanks in front
unfoldable pub without_front : List ℕ → List ℕ
without_front [] = []
without_front (byte ∷ bytes) = if is_blank byte then without_front bytes else byte ∷ bytes

-- what stands before the first blank, and from there on
unfoldable pub before_blank : List ℕ → List ℕ
before_blank [] = []
before_blank (byte ∷ bytes) = if is_blank byte then [] else byte ∷ before_blank bytes

unfoldable pub from_blank : List ℕ → List ℕ
from_blank [] = []
from_blank (byte ∷ bytes) = if is_blank byte then byte ∷ bytes else from_blank bytes

-- the first word of a text
unfoldable pub first_word : List ℕ → List ℕ
first_word text = before_blank (without_front text)

-- what stands behind it
unfoldable pub behind_word : List ℕ → List ℕ
behind_word text = from_blank (without_front text)

-- the one word of a text, if there is no other
unfoldable pub only_word : List ℕ → Option (List ℕ)
only_word text = if is_all_blank (behind_word text) then Some (first_word text) else None

-- what stands before the first byte of this kind, and behind it
pub record Halves : Type 0 where
  pub before : List ℕ
  pub behind : List ℕ

unfoldable pub halves : ℕ → List ℕ → Option Halves
halves at [] = None
halves at (byte ∷ bytes) =
    if byte == at then Some (record { before = []; behind = bytes })
    else option_map (λ found. record { before = byte ∷ found.before; behind = found.behind }) (halves at bytes)
