-- What is said of the numbers below a bound, in rising order.
-- Source: the project's own.
use Rattle.std.specs.Prelude.{ℕ, zero, suc, Bool, false, ◌||◌, if◌then◌else◌, List, [], ◌++◌, Option, Some, None}

-- the lists of the numbers below n, one after another
unfoldable pub below : {X : Type 0} → (ℕ → List X) → ℕ → List X
below f zero = []
below f (suc n) = below f n ++ f n

-- whether a test holds of a number below n
unfoldable pub any_below : (ℕ → Bool) → ℕ → Bool
any_below test zero = false
any_below test (suc n) = any_below test n || test n

abbrev pub or_else : Option ℕ → Option ℕ → Option ℕ
or_else None other = other
or_else (Some n) other = Some n

-- the least number below n of which a test holds
unfoldable pub first_below : (ℕ → Bool) → ℕ → Option ℕ
first_below test zero = None
first_below test (suc n) = or_else (first_below test n) (if test n then Some n else None)
