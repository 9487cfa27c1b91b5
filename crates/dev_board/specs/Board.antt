-- Devices in their places, of which some are let go, and what a call does to one of them.
-- The project's own.
use Rattle.std.specs.Prelude.{◌≡◌, ◌≤◌, ◌<◌, ℕ, Bool, List, length, Option, Some, None, Result, Ok, IfOk, OnOk, OnErr, is_some, slice_index_or, slice_set}
use Rattle.told.specs.Told.{more, Gave, HasCause, HasNone, HoldsBeginning}

-- what stands at a place: none where nothing is there, or where it was let go
abbrev pub at : {D : Type 0} → List (Option D) → ℕ → Option D
at places device = slice_index_or places device None

-- the device is there
abbrev pub lives : {D : Type 0} → List (Option D) → ℕ → Bool
lives places device = is_some (at places device)

-- one device became another, and all others are as they were
pub record IsChanged {D : Type 0} (device : ℕ) (was is : D) (old new : List (Option D)) : Type 0 where
  pub there : at old device ≡ Some was
  pub changed : new ≡ slice_set old device (Some is)

-- what a device took: all of the bytes, or, where it failed, a beginning of them
pub record Took {D E : Type 0} (left held : D → Option (List ℕ)) (reads writes : D → ℕ) (bytes : List ℕ) (result : Result (Unit {0}) E) (was is : D) : Type 0 where
  pub all : OnOk result (held is ≡ more (held was) bytes)
  pub beginning : OnErr result (HoldsBeginning (held was) bytes (held is))
  pub same_left : left is ≡ left was
  pub same_reads : reads is ≡ reads was
  pub failed : HasCause (writes was) (writes is) result

-- what a device gave: the first of the bytes that it had left, none only at their end, or, where it failed, nothing
pub record Given {D E : Type 0} (left held : D → Option (List ℕ)) (reads writes : D → ℕ) (old new : List ℕ) (result : Result ℕ E) (was is : D) : Type 0 where
  pub fits : IfOk result (λ count. count ≤ length old)
  pub gave : IfOk result (λ count. Gave (left was) count new (left is))
  pub ended : result ≡ Ok 0 → 0 < length old → HasNone (left was)
  pub stays : OnErr result (left is ≡ left was)
  pub same_held : held is ≡ held was
  pub same_writes : writes is ≡ writes was
  pub failed : HasCause (reads was) (reads is) result
