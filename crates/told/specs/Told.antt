-- What an object outside the program tells of itself, and how a fault of it shows.
-- The project's own.
use Rattle.std.specs.Prelude.{◌≡◌, ℕ, ◌+◌, ◌-◌, ◌^◌, ◌≤◌, min, List, [], ◌++◌, length, take, drop, Option, Some, None, Result, OnErr, OnOk}

-- bytes behind what is held, where that is told
abbrev pub more : Option (List ℕ) → List ℕ → Option (List ℕ)
more None bytes = None
more (Some held) bytes = Some (held ++ bytes)

-- the count rose, or stands at its type's end
abbrev pub Rose : ℕ → ℕ → Type 0
Rose before after = min (before + 1) (2 ^ 64 - 1) ≤ after

-- a count never falls, an error comes only where it rose, and it stands still where there is none
pub record HasCause {T E : Type 0} (before after : ℕ) (result : Result T E) : Type 0 where
  pub later : before ≤ after
  pub failed : OnErr result (Rose before after)
  pub still : OnOk result (after ≡ before)

-- held is what was held before with a beginning of the bytes
abbrev pub HoldsBeginning : Option (List ℕ) → List ℕ → Option (List ℕ) → Type 0
HoldsBeginning before bytes after = (count : ℕ) × (count ≤ length bytes) × (after ≡ more before (take count bytes))

-- the first bytes that were left went into the buffer, where it is told what is left
abbrev pub Gave : Option (List ℕ) → ℕ → List ℕ → Option (List ℕ) → Type 0
Gave None count buffer after = after ≡ None
Gave (Some left) count buffer after = (count ≤ length left) × (take count buffer ≡ take count left) × (after ≡ Some (drop count left))

-- nothing is left, where it is told
abbrev pub HasNone : Option (List ℕ) → Type 0
HasNone None = Unit {0}
HasNone (Some left) = left ≡ []
