-- Bits in words of 64, the lowest of each word first.
-- Source: the project's own.
use Rattle.std.specs.Prelude.{ℕ, ◌/◌, ◌%◌, Bool, ◌==◌, List, get_or}
use Rattle.std.specs.Int.{bit_at}

-- the bit with a number; none is set past the last word
unfoldable pub bit_of : List ℕ → ℕ → Bool
bit_of words place = bit_at (get_or words (place / 64) 0) (place % 64) == 1
