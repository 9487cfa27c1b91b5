-- The names of a path: what stands between its slashes, the empty pieces left out.
-- Source: path_resolution(7).
use Rattle.std.specs.Prelude.{ℕ, nat_lt, Bool, false, ◌==◌, if◌then◌else◌, List, [], ◌∷◌, ◌++◌, length, Option, Some, None}
use Rattle.file_tree.specs.declared.errno.Errno.{Errno}
use Rattle.file_tree.specs.declared.errno.Errno.TheVariants.{ENOENT, ENAMETOOLONG}

-- a byte in front of the first piece
abbrev pub onto : ℕ → List (List ℕ) → List (List ℕ)
onto byte [] = (byte ∷ []) ∷ []
onto byte (piece ∷ pieces) = (byte ∷ piece) ∷ pieces

-- what stands between the slashes: one piece more than there are slashes
abbrev pub pieces : List ℕ → List (List ℕ)
pieces [] = [] ∷ []
pieces (byte ∷ path) = if byte == 47 then [] ∷ pieces path else onto byte (pieces path)

-- those that aren't empty
abbrev pub filled : List (List ℕ) → List (List ℕ)
filled [] = []
filled ([] ∷ rest) = filled rest
filled ((byte ∷ piece) ∷ rest) = (byte ∷ piece) ∷ filled rest

unfoldable pub names : List ℕ → List (List ℕ)
names path = filled (pieces path)

-- the path ends in a slash
abbrev pub ends_in_slash : List ℕ → Bool
ends_in_slash [] = false
ends_in_slash (byte ∷ []) = byte == 47
ends_in_slash (byte ∷ next ∷ path) = ends_in_slash (next ∷ path)

abbrev pub dot : List ℕ
dot = 46 ∷ []

-- what a walk goes through: the names, and `.` behind them where the path ends in a slash
unfoldable pub parts : List ℕ → List (List ℕ)
parts path = names path ++ (if ends_in_slash path then dot ∷ [] else [])

-- the name is `.`
abbrev pub is_dot : List ℕ → Bool
is_dot [] = false
is_dot (byte ∷ []) = byte == 46
is_dot (byte ∷ next ∷ rest) = false

-- the name is `..`
abbrev pub is_dots : List ℕ → Bool
is_dots [] = false
is_dots (byte ∷ []) = false
is_dots (byte ∷ next ∷ []) = if byte == 46 then next == 46 else false
is_dots (byte ∷ next ∷ third ∷ rest) = false

-- the path begins at the root
abbrev pub is_absolute : List ℕ → Bool
is_absolute [] = false
is_absolute (byte ∷ path) = byte == 47

-- why a path is refused before all else: it is empty, or has more than 4,095 bytes
unfoldable pub path_refused : List ℕ → Option Errno
path_refused [] = Some ENOENT
path_refused (byte ∷ path) = if nat_lt 4095 (length (byte ∷ path)) then Some ENAMETOOLONG else None
