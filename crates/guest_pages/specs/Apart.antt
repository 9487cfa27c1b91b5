-- Memory in which nothing can be both written and executed, so that no store changes code.
-- The project's own.
use Rattle.std.specs.Prelude.{◌≡◌, ℕ, ◌≤◌, Bool, true, not, ◌&&◌, if◌then◌else◌, List, Option, Some, None}
use Rattle.guest_pages.specs.Cells.{Cell}
use Rattle.guest_pages.specs.Ranges.{Range, cell_at, ranges_of}
use Rattle.guest_pages.specs.Limits.{user_end}

-- what stands at an address can't be both written and executed
abbrev pub is_apart : Option Cell → Bool
is_apart None = true
is_apart (Some c) = not (c.rights.write && c.rights.execute)

-- so it is at each address, and nothing stands past user memory
pub record IsApart (memory : List Range) : Type 0 where
  pub low : (a : ℕ) → user_end ≤ a → cell_at memory a ≡ None
  pub apart : (a : ℕ) → is_apart (cell_at memory a) ≡ true

-- what stands at an address, where it can be executed
abbrev pub code_in : Option Cell → Option Cell
code_in None = None
code_in (Some c) = if c.rights.execute then Some c else None

-- the ranges that can be executed
unfoldable pub code_of : List Range → List Range
code_of memory = ranges_of (λ address. code_in (cell_at memory address))

-- the same addresses can be executed, and have the same bytes and rights
abbrev pub KeepsCode : List Range → List Range → Type 0
KeepsCode old new = (a : ℕ) → code_in (cell_at new a) ≡ code_in (cell_at old a)

-- nothing can be both written and executed afterwards, and the code is as before
pub record Stays (old new : List Range) : Type 0 where
  pub apart : IsApart new
  pub code : KeepsCode old new
