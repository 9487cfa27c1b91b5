-- What every list of deadlines keeps, and what it is to be the least of them.
use Rattle.std.specs.Prelude.{◌≡◌, ℕ, ◌≤◌, List, [], ◌∷◌, Option, Some, None}
use Rattle.time_line.specs.declared.timer.Deadline.{Deadline}
use Rattle.time_line.specs.declared.timer.Timer.{Timer}
use Rattle.time_line.specs.Line.{deadline}

-- none is before this time
abbrev pub AreFrom : ℕ → List Deadline → Type 0
AreFrom at [] = Unit {0}
AreFrom at (it ∷ line) = (at ≤ it.at) × AreFrom at line

-- a timer has one deadline at most, and none is before one that stands in front of it
abbrev pub IsSound : List Deadline → Type 0
IsSound [] = Unit {0}
IsSound (it ∷ line) = (deadline it.who line ≡ None) × AreFrom it.at line × IsSound line

-- a timer has it, and none has an earlier one
pub record IsLowest (at : ℕ) (line : List Deadline) : Type 0 where
  pub stands : (who : Timer) × (deadline who line ≡ Some at)
  pub lowest : (who : Timer) (other : ℕ) → deadline who line ≡ Some other → at ≤ other

-- the least of all deadlines; none where no timer has one
abbrev pub IsLeast : Option ℕ → List Deadline → Type 0
IsLeast None line = (who : Timer) → deadline who line ≡ None
IsLeast (Some at) line = IsLowest at line
