-- Tables of names.
-- The project's own.
use Rattle.std.specs.Prelude.{ℕ, if◌then◌else◌, List, [], ◌∷◌, map, Option, Some, None}
use Rattle.std.specs.Borrow.{Bor}
use Rattle.std.specs.Str.{bytes_eq}

-- what stands beside a name, the first of them
abbrev pub named : {T : Type 0} → List ℕ → List (List ℕ × T) → Option T
named name [] = None
named name (entry ∷ entries) = if bytes_eq entry.0 name then Some entry.1 else named name entries

-- a table of the code
abbrev pub table_seen : {T : Type 0} → List (Bor (List ℕ) × T) → List (List ℕ × T)
table_seen table = map (λ entry. (entry.0.now, entry.1)) table
