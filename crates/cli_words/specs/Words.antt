-- The words of the command line, one at a time: the fixed ones, and which words can be values, paths and entries.
-- The project's own.
use Rattle.std.specs.Prelude.{ℕ, ◌==◌, Bool, true, false, not, ◌&&◌, if◌then◌else◌, List, [], ◌∷◌, ◌++◌}
use Rattle.std.specs.List.{list_all, list_any}

-- `-`, `.`, `/` and `=`
abbrev pub dash : ℕ
dash = 45

abbrev pub dot : ℕ
dot = 46

abbrev pub slash : ℕ
slash = 47

abbrev pub equals : ℕ
equals = 61

-- `solo`
abbrev pub solo : List ℕ
solo = 115 ∷ 111 ∷ 108 ∷ 111 ∷ []

-- `asm`
abbrev pub asm : List ℕ
asm = 97 ∷ 115 ∷ 109 ∷ []

-- `--budget`
abbrev pub budget_name : List ℕ
budget_name = 45 ∷ 45 ∷ 98 ∷ 117 ∷ 100 ∷ 103 ∷ 101 ∷ 116 ∷ []

-- `--env`
abbrev pub env_name : List ℕ
env_name = 45 ∷ 45 ∷ 101 ∷ 110 ∷ 118 ∷ []

-- `--input`
abbrev pub input_name : List ℕ
input_name = 45 ∷ 45 ∷ 105 ∷ 110 ∷ 112 ∷ 117 ∷ 116 ∷ []

-- `--keep`
abbrev pub keep_name : List ℕ
keep_name = 45 ∷ 45 ∷ 107 ∷ 101 ∷ 101 ∷ 112 ∷ []

-- `--`
abbrev pub divider : List ℕ
divider = 45 ∷ 45 ∷ []

-- a value: not empty, and no dash in front
abbrev pub is_value : List ℕ → Bool
is_value [] = false
is_value (first ∷ rest) = not (first == dash)

-- the parts of a path: what stands before the first slash, between two, and after the last
abbrev pub parts_after : List ℕ → List ℕ → List (List ℕ)
parts_after part [] = part ∷ []
parts_after part (byte ∷ bytes) = if byte == slash then part ∷ parts_after [] bytes else parts_after (part ++ byte ∷ []) bytes

abbrev pub parts : List ℕ → List (List ℕ)
parts bytes = parts_after [] bytes

-- a part: not empty, not `.` and not `..`
abbrev pub is_part : List ℕ → Bool
is_part [] = false
is_part (only ∷ []) = not (only == dot)
is_part (first ∷ second ∷ []) = not ((first == dot) && (second == dot))
is_part (first ∷ second ∷ third ∷ rest) = true

abbrev pub is_path : List ℕ → Bool
is_path bytes = list_all is_part (parts bytes)

-- the name of a file of the tree: a value that is a path
abbrev pub is_file : List ℕ → Bool
is_file word = is_value word && is_path word

-- the name of a file that stands in no folder: a value that is one part, with no slash
abbrev pub is_name : List ℕ → Bool
is_name word = is_value word && (is_part word && not (list_any (λ byte. byte == slash) word))

-- an entry K=V, where K is what stands before the first `=`: a value that has an `=`, and none in front
abbrev pub is_entry : List ℕ → Bool
is_entry [] = false
is_entry (first ∷ rest) = not (first == dash) && (not (first == equals) && list_any (λ byte. byte == equals) rest)
