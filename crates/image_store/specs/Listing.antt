-- What a listing of a folder is: the rules of its names and paths, and their order.
-- Source: POSIX.1-2017, 3.170 "Filename" and 3.271 "Pathname"; path_resolution(7); limits.h(0p) for NAME_MAX and PATH_MAX.
-- That a listing rises by the bytes of its paths is the project's own.
use Rattle.std.specs.Prelude.{◌≡◌, ℕ, ◌==◌, nat_lt, Bool, false, not, ◌&&◌, List, ◌∷◌, ◌++◌, length, map}
use Rattle.std.specs.List.{Any, All, AllPass, list_any, list_all}
use Rattle.std.specs.List.Sorted.{IsStrictlySortedBy}
use Rattle.std.specs.Ordering.{nat_cmp}
use Rattle.std.specs.Cmp.Lexicographic.{slice_cmp}
use Rattle.file_tree.specs.Paths.{pieces, is_dot, is_dots}
use Rattle.image_store.specs.declared.folder.Kind.TheVariants.{Dir}
use Rattle.image_store.specs.declared.folder.Listed.{Listed}

-- a name that an entry may have: it isn't empty, `.` or `..`, and has at most 255 bytes, none of which is zero
unfoldable pub is_name : List ℕ → Bool
is_name name =
    not (length name == 0) && (not (is_dot name) && (not (is_dots name) && (not (nat_lt 255 (length name)) && not (list_any (λ byte. byte == 0) name))))

-- a path that an entry may have: at most 4,095 bytes, with names between the slashes
unfoldable pub is_path : List ℕ → Bool
is_path path = not (nat_lt 4095 (length path)) && list_all is_name (pieces path)

-- a directory stands at the path
abbrev pub HasDir : List Listed → List ℕ → Type 0
HasDir listing path = Any (λ entry. (entry.path ≡ path) × (entry.kind ≡ Dir)) listing

-- each directory that a path leads through is listed
abbrev pub IsHoused : List Listed → List ℕ → Type 0
IsHoused listing path = (parent rest : List ℕ) → path ≡ parent ++ 47 ∷ rest → HasDir listing parent

-- the directory in which a path stands, the one before its last slash, is listed
abbrev pub IsHousedAt : List Listed → List ℕ → Type 0
IsHousedAt listing path = (parent name : List ℕ) → path ≡ parent ++ 47 ∷ name → list_any (λ byte. byte == 47) name ≡ false → HasDir listing parent

-- the paths of a listing
abbrev pub paths_of : List Listed → List (List ℕ)
paths_of listing = map (λ entry. entry.path) listing

pub record IsListing (listing : List Listed) : Type 0 where
  pub plain : AllPass (λ entry. is_path entry.path) listing
  -- by their bytes, so that each path stands there once
  pub rising : IsStrictlySortedBy (slice_cmp nat_cmp) (paths_of listing)
  pub housed : All (λ entry. IsHoused listing entry.path) listing
