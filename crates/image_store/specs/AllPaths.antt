-- All paths of a tree.
-- The project's own.
use Rattle.std.specs.Prelude.{◌≡◌, ℕ, List, [], ◌∷◌, ◌++◌, map, true, not, ◌&&◌, Bool, Result, Ok, Err}
use Rattle.std.specs.List.{AllPass, Contains, list_all}
use Rattle.std.specs.List.Sorted.{IsStrictlySortedBy}
use Rattle.std.specs.Map.{keys_of}
use Rattle.std.specs.Ordering.{nat_cmp}
use Rattle.std.specs.Cmp.Lexicographic.{slice_cmp}
use Rattle.file_tree.specs.Entries.{Entries}
use Rattle.file_tree.specs.Making.{is_itself}
use Rattle.file_tree.specs.Nodes.{Tree, names_in}
use Rattle.file_tree.specs.Paths.{pieces, is_dots}
use Rattle.file_tree.specs.Walk.{walked}
use Rattle.file_tree.specs.declared.errno.Errno.{Errno}

-- a path of names with a slash between each two: none is empty, `.` or `..`
abbrev pub is_straight : List ℕ → Bool
is_straight path = list_all (λ name. not (is_itself name) && not (is_dots name)) (pieces path)

-- straight paths, among them each that leads from the root of a tree to an entry
pub record HaveAll (tree : Tree) (paths : List (List ℕ)) : Type 0 where
  pub straight : AllPass is_straight paths
  pub all : (path : List ℕ) (inode : ℕ) → is_straight path ≡ true → walked tree 1 path ≡ Ok inode → Contains paths path

-- they rise by their bytes, so that each stands there once
pub record AreAllPaths (tree : Tree) (paths : List (List ℕ)) : Type 0 where
  pub rising : IsStrictlySortedBy (slice_cmp nat_cmp) paths
  pub have : HaveAll tree paths

-- the path of a name in a directory, which has none if it is the root
abbrev pub path_under : List ℕ → List ℕ → List ℕ
path_under [] name = name
path_under (byte ∷ path) name = (byte ∷ path) ++ 47 ∷ name

abbrev pub paths_under : List ℕ → Entries → List (List ℕ)
paths_under path entries = map (path_under path) (keys_of entries)

abbrev pub below_by : Tree → List ℕ → Result ℕ Errno → List (List ℕ)
below_by tree path (Err errno) = []
below_by tree path (Ok inode) = paths_under path (names_in tree.nodes inode)

-- the paths of the entries of a path's directory
abbrev pub below : Tree → List ℕ → List (List ℕ)
below tree path = below_by tree path (walked tree 1 path)
