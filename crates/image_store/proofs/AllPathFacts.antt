-- The paths that are closed under the entries of their directories, and have those of the root, are all paths of a tree.
use Rattle.std.proofs.Common.{◌≡◌, ℕ, zero, suc, ◌+◌, ◌<◌, ◌≤◌, ◌⊎◌, ◌==◌, ◌||◌, ◌&&◌, nat_lt, not, Bool, true, false, if◌then◌else◌, List, [], ◌∷◌, ◌++◌, map, length, get_or, take, Option, Some, None, IsSome, Result, Ok, Err, refl, sym, ap, ◌∙◌, subst, inl, inr, arith, length-append}
use Rattle.std.specs.List.{AllPass, Contains, list_any, list_all, dedup}
use Rattle.std.specs.List.Sorted.{IsSorted, IsPermutation}
use Rattle.std.specs.Map.{keys_of}
use Rattle.std.specs.Ordering.{nat_cmp, eq_by_cmp}
use Rattle.std.specs.Cmp.Lexicographic.{slice_cmp}
use Rattle.std.proofs.lemmas.Cmp.{nat_list_cmp_total, eq_by_cmp_equiv}
use Rattle.std.proofs.lemmas.List.{length-map, get_or-map, get_or_append_left, get_or_default, append-nil, append_assoc, map-append, take_more}
use Rattle.std.proofs.lemmas.Bool.{cases_order}
use Rattle.std.proofs.lemmas.List.Elements.{All-map, All-append, Contains-append_left, Contains-append_right}
use Rattle.std.proofs.lemmas.List.Folds.{list_all-append}
use Rattle.std.proofs.lemmas.List.Kept.{Contains-dedup, IsStrictlySortedBy-dedup}
use Rattle.std.proofs.lemmas.List.Filters.{All-dedup}
use Rattle.std.proofs.lemmas.List.Sorted.{All-permutation, Contains-permutation}
use Rattle.std.proofs.lemmas.Map.Views.{All-keys_from_lookup, Contains-keys_from_lookup}
use Rattle.file_tree.specs.declared.errno.Errno.{Errno}
use Rattle.file_tree.specs.declared.errno.Errno.TheVariants.{ENOENT, ENAMETOOLONG}
use Rattle.file_tree.specs.declared.node.Node.{Node}
use Rattle.file_tree.specs.declared.node.Directory.{Directory}
use Rattle.file_tree.specs.declared.node.Body.{Body}
use Rattle.file_tree.specs.declared.node.Body.TheVariants.{Bytes, Names}
use Rattle.file_tree.specs.declared.kind.Kind.TheVariants as nodes
use Rattle.file_tree.specs.Entries.{Entries, entry_named}
use Rattle.file_tree.specs.Paths.{pieces, onto, filled, names, is_dot, is_dots, is_absolute, ends_in_slash, path_refused}
use Rattle.file_tree.specs.Nodes.{Tree, node_in, names_in, names_by, kind_in, kind_by}
use Rattle.file_tree.specs.Making.{is_itself}
use Rattle.file_tree.specs.Walk.{walked, follow, step, step_at, step_in, found, and_then, start_of}
use Rattle.file_tree.specs.Whole.{IsSound}
use Rattle.file_tree.proofs.WalkFacts.{follow-append, follow_one, refused_walk, walk_plain, walked_names}
use Rattle.file_tree.proofs.LookFacts.{same_name}
use Rattle.file_tree.proofs.TreeFacts.{is_some_from}
use Rattle.image_store.specs.AllPaths.{AreAllPaths, HaveAll, below, below_by, is_straight, path_under, paths_under}
use Rattle.image_store.proofs.ParentFacts.{last_cut}

abbrev slashed : List ℕ → Bool
slashed path = list_any (λ byte. byte == 47) path

abbrev is_plain : List ℕ → Bool
is_plain name = not (is_itself name) && not (is_dots name)

-- ---- Bools

and_true : (a b : Bool) → (a && b) ≡ true → (a ≡ true) × (b ≡ true)
and_true true b both = (refl, both)
and_true false b both = absurd (let f : ⊥ = cc in f)

both_true : (a b : Bool) → a ≡ true → b ≡ true → (a && b) ≡ true
both_true true b one other = other
both_true false b one other = absurd (let f : ⊥ = cc in f)

or_false : (a b : Bool) → (a || b) ≡ false → (a ≡ false) × (b ≡ false)
or_false true b none = absurd (let f : ⊥ = cc in f)
or_false false b none = (refl, none)

not_false : (a : Bool) → not a ≡ true → a ≡ false
not_false true is = absurd (let f : ⊥ = cc in f)
not_false false is = refl

not_true : (a : Bool) → a ≡ false → not a ≡ true
not_true true is = absurd (let f : ⊥ = cc in f)
not_true false is = refl

-- ---- the pieces of a path

onto_append : (byte : ℕ) (front behind : List (List ℕ)) → 0 < length front → onto byte (front ++ behind) ≡ onto byte front ++ behind
onto_append byte [] behind some = absurd (omega arith)
onto_append byte (piece ∷ front) behind some = refl

some_by : (test : Bool) (byte : ℕ) (parts : List (List ℕ)) → 0 < length (if test then [] ∷ parts else onto byte parts)
some_by true byte parts = omega arith
some_by false byte [] = omega arith
some_by false byte (piece ∷ parts) = omega arith

pieces_some : (path : List ℕ) → 0 < length (pieces path)
pieces_some [] = omega arith
pieces_some (byte ∷ path) = some_by (byte == 47) byte (pieces path)

append_by : (test : Bool) (byte : ℕ) (front behind rest : List (List ℕ)) → rest ≡ front ++ behind → 0 < length front
    → (if test then [] ∷ rest else onto byte rest) ≡ (if test then [] ∷ front else onto byte front) ++ behind
append_by true byte front behind rest same some = ap (λ (r : List (List ℕ)). [] ∷ r) same
append_by false byte front behind rest same some = ap (onto byte) same ∙ onto_append byte front behind some

pieces_append : (front behind : List ℕ) → pieces (front ++ 47 ∷ behind) ≡ pieces front ++ pieces behind
pieces_append [] behind = refl
pieces_append (byte ∷ front) behind = append_by (byte == 47) byte (pieces front) (pieces behind) (pieces (front ++ 47 ∷ behind)) (pieces_append front behind) (pieces_some front)

plain_by : (test : Bool) (byte : ℕ) (name : List ℕ) (parts : List (List ℕ)) → test ≡ false → parts ≡ name ∷ [] → (if test then [] ∷ parts else onto byte parts) ≡ (byte ∷ name) ∷ []
plain_by true byte name parts none same = absurd (let f : ⊥ = cc in f)
plain_by false byte name parts none same = ap (onto byte) same

pieces_plain : (name : List ℕ) → slashed name ≡ false → pieces name ≡ name ∷ []
pieces_plain [] none = refl
pieces_plain (byte ∷ name) none =
    let parts = or_false (byte == 47) (slashed name) none in
    plain_by (byte == 47) byte name (pieces name) parts.0 (pieces_plain name parts.1)

filled_same : (parts : List (List ℕ)) → list_all is_plain parts ≡ true → filled parts ≡ parts
filled_same [] all = refl
filled_same ([] ∷ parts) all = absurd (let f : ⊥ = cc in f)
filled_same ((byte ∷ piece) ∷ parts) all =
    ap (λ (r : List (List ℕ)). (byte ∷ piece) ∷ r) (filled_same parts (and_true (is_plain (byte ∷ piece)) (list_all is_plain parts) all).1)

names_straight : (path : List ℕ) → is_straight path ≡ true → names path ≡ pieces path
unfolding names
names_straight path straight = filled_same (pieces path) straight

ends_plain : (name : List ℕ) → slashed name ≡ false → ends_in_slash name ≡ false
ends_plain [] none = refl
ends_plain (byte ∷ []) none = (or_false (byte == 47) false none).0
ends_plain (byte ∷ next ∷ name) none = ends_plain (next ∷ name) (or_false (byte == 47) (slashed (next ∷ name)) none).1

ends_append : (front : List ℕ) (byte : ℕ) (behind : List ℕ) → ends_in_slash (front ++ 47 ∷ byte ∷ behind) ≡ ends_in_slash (byte ∷ behind)
ends_append [] byte behind = refl
ends_append (first ∷ []) byte behind = refl
ends_append (first ∷ next ∷ front) byte behind = ends_append (next ∷ front) byte behind

-- the two parts of a straight path
record AreParts (front name : List ℕ) : Type 0 where
  pub front_straight : is_straight front ≡ true
  pub name_plain : is_plain name ≡ true
  pub pieces_are : pieces (front ++ 47 ∷ name) ≡ pieces front ++ name ∷ []

parts_of : (front name : List ℕ) → slashed name ≡ false → is_straight (front ++ 47 ∷ name) ≡ true → AreParts front name
parts_of front name none straight =
    let are : pieces (front ++ 47 ∷ name) ≡ pieces front ++ name ∷ [] = pieces_append front name ∙ ap (λ (r : List (List ℕ)). pieces front ++ r) (pieces_plain name none) in
    let all : (list_all is_plain (pieces front) && (is_plain name && true)) ≡ true = sym (list_all-append is_plain (pieces front) (name ∷ [])) ∙ (ap (list_all is_plain) (sym are) ∙ straight) in
    let both = and_true (list_all is_plain (pieces front)) (is_plain name && true) all in
    record { front_straight = both.0; name_plain = (and_true (is_plain name) true both.1).0; pieces_are = are }

some_name : (name : List ℕ) → is_plain name ≡ true → 0 < length name
some_name [] plain = absurd (let f : ⊥ = cc in f)
some_name (byte ∷ name) plain = omega arith

some_path : (path : List ℕ) → is_straight path ≡ true → 0 < length path
some_path [] straight = absurd (let f : ⊥ = cc in f)
some_path (byte ∷ path) straight = omega arith

ends_name : (front name : List ℕ) → slashed name ≡ false → 0 < length name → ends_in_slash (front ++ 47 ∷ name) ≡ false
ends_name front [] none some = absurd (omega arith)
ends_name front (byte ∷ name) none some = ends_append front byte name ∙ ends_plain (byte ∷ name) none

straight_ends : (path : List ℕ) → is_straight path ≡ true → ends_in_slash path ≡ false
straight_ends path straight = ends_by (slashed path) refl
  where
    ends_by : (more : Bool) → slashed path ≡ more → ends_in_slash path ≡ false
    ends_by false none = ends_plain path none
    ends_by true some =
        let cut = last_cut path some in
        let parts = parts_of cut.front cut.name cut.plain (subst (λ (p : List ℕ). is_straight p ≡ true) cut.is straight) in
        ap ends_in_slash cut.is ∙ ends_name cut.front cut.name cut.plain (some_name cut.name parts.name_plain)

-- ---- walks

low_of : (n : ℕ) → nat_lt 4095 n ≡ false → n ≤ 4095
low_of n is = grind arith

within_of : (path : List ℕ) → path_refused path ≡ None → length path ≤ 4095
unfolding path_refused
within_of [] none = omega arith
within_of (byte ∷ path) none = within_by (nat_lt 4095 (length (byte ∷ path))) refl none
  where
    within_by : (long : Bool) → nat_lt 4095 (length (byte ∷ path)) ≡ long → (if long then Some ENAMETOOLONG else None) ≡ None → length (byte ∷ path) ≤ 4095
    within_by true is none = absurd (let f : ⊥ = cc in f)
    within_by false is none = low_of (length (byte ∷ path)) is

low_test : (n : ℕ) → n ≤ 4095 → nat_lt 4095 n ≡ false
low_test n low = grind arith

none_refused : (path : List ℕ) → 0 < length path → length path ≤ 4095 → path_refused path ≡ None
unfolding path_refused
none_refused [] some low = absurd (omega arith)
none_refused (byte ∷ path) some low = rw (low_test (length (byte ∷ path)) low) refl

walked_some : (tree : Tree) (path : List ℕ) (inode : ℕ) → walked tree 1 path ≡ Ok inode → path_refused path ≡ None
walked_some tree path inode ok = some_or (path_refused path) refl
  where
    some_or : (refusal : Option Errno) → path_refused path ≡ refusal → path_refused path ≡ None
    some_or None is = is
    some_or (Some errno) is = let e : Ok inode ≡ Err errno = sym ok ∙ refused_walk tree 1 path errno is in absurd (let f : ⊥ = cc in f)

start_by : (test : Bool) (n : ℕ) → (if test then n else n) ≡ n
start_by true n = refl
start_by false n = refl

start_one : (path : List ℕ) → start_of 1 path ≡ 1
start_one path = start_by (is_absolute path) 1

followed : (tree : Tree) (path : List ℕ) (inode : ℕ) → is_straight path ≡ true → walked tree 1 path ≡ Ok inode → follow tree.nodes 1 (pieces path) ≡ Ok inode
followed tree path inode straight ok =
    let along = walked_names tree 1 path inode (walked_some tree path inode ok) ok in
    subst (λ (parts : List (List ℕ)). follow tree.nodes 1 parts ≡ Ok inode) (names_straight path straight)
    (subst (λ (start : ℕ). follow tree.nodes start (names path) ≡ Ok inode) (start_one path) along)

walks : (tree : Tree) (path : List ℕ) (inode : ℕ) → is_straight path ≡ true → length path ≤ 4095 → follow tree.nodes 1 (pieces path) ≡ Ok inode → walked tree 1 path ≡ Ok inode
walks tree path inode straight low ok =
    walk_plain tree 1 path inode (none_refused path (some_path path straight) low)
    (subst (λ (start : ℕ). follow tree.nodes start (names path) ≡ Ok inode) (sym (start_one path))
    (subst (λ (parts : List (List ℕ)). follow tree.nodes 1 parts ≡ Ok inode) (sym (names_straight path straight)) ok))
    (straight_ends path straight)

found_from : (entry : Option ℕ) (inode : ℕ) → found entry ≡ Ok inode → entry ≡ Some inode
found_from None inode same = absurd (let f : ⊥ = cc in f)
found_from (Some n) inode same = let e : n ≡ inode = cc in ap (λ (x : ℕ). Some x) e

looked_from : (at : ℕ) (linked : Bool) (directory : Directory) (name : List ℕ) (inode : ℕ) (a b : Bool) → a ≡ false → b ≡ false
    → (if a then Ok at else if not linked then Err ENOENT else if b then Ok directory.parent else found (entry_named name directory.names)) ≡ Ok inode → entry_named name directory.names ≡ Some inode
looked_from at linked directory name inode true b none other same = absurd (let f : ⊥ = cc in f)
looked_from at linked directory name inode false true none other same = absurd (let f : ⊥ = cc in f)
looked_from at false directory name inode false false none other same = absurd (let f : ⊥ = cc in f)
looked_from at true directory name inode false false none other same = found_from (entry_named name directory.names) inode same

node_from : (at : ℕ) (name : List ℕ) (inode : ℕ) (node : Option Node) → is_dot name ≡ false → is_dots name ≡ false → step_at at node name ≡ Ok inode → entry_named name (names_by node) ≡ Some inode
node_from at name inode None none other ok = absurd (let f : ⊥ = cc in f)
node_from at name inode (Some node) none other ok = body_from node.body ok
  where
    body_from : (body : Body) → step_in at node.linked body name ≡ Ok inode → entry_named name (names_by (Some (record node { body = body }))) ≡ Some inode
    body_from (Bytes bytes) ok = absurd (let f : ⊥ = cc in f)
    body_from (Names directory) ok = looked_from at node.linked directory name inode (is_dot name) (is_dots name) none other ok

-- a step along a plain name goes to the entry of that name
step_named : (nodes : List (ℕ × Node)) (at : ℕ) (name : List ℕ) (inode : ℕ) → is_plain name ≡ true → step nodes at name ≡ Ok inode → entry_named name (names_in nodes at) ≡ Some inode
unfolding step
step_named nodes at name inode plain ok = long_from (nat_lt 255 (length name)) ok
  where
    long_from : (long : Bool) → (if long then Err ENAMETOOLONG else step_at at (node_in nodes at) name) ≡ Ok inode → entry_named name (names_in nodes at) ≡ Some inode
    long_from true ok = absurd (let f : ⊥ = cc in f)
    long_from false ok =
        let both = and_true (not (is_itself name)) (not (is_dots name)) plain in
        node_from at name inode (node_in nodes at) (or_false (length name == 0) (is_dot name) (not_false (is_itself name) both.0)).1 (not_false (is_dots name) both.1) ok

map_contains : (path : List ℕ) (keys : List (List ℕ)) (name : List ℕ) → Contains keys name → Contains (map (path_under path) keys) (path_under path name)
map_contains path keys name has =
    (has.0, rw (length-map keys (path_under path)) has.1, get_or-map (path_under path) keys has.0 name (path_under path name) has.1 ∙ ap (path_under path) has.2)

under_has : (path : List ℕ) (entries : Entries) (name : List ℕ) (inode : ℕ) → entry_named name entries ≡ Some inode → Contains (paths_under path entries) (path_under path name)
under_has path entries name inode same =
    map_contains path (keys_of entries) name (Contains-keys_from_lookup {eq = eq_by_cmp (slice_cmp nat_cmp)} same_name name entries (is_some_from (entry_named name entries) inode same))

then_from : (nodes : List (ℕ × Node)) (first : Result ℕ Errno) (name : List ℕ) (inode : ℕ) → and_then first (λ at. follow nodes at (name ∷ [])) ≡ Ok inode → (at : ℕ) × (first ≡ Ok at) × (step nodes at name ≡ Ok inode)
then_from nodes (Err errno) name inode ok = absurd (let f : ⊥ = cc in f)
then_from nodes (Ok at) name inode ok = (at, refl, sym (follow_one nodes at name) ∙ ok)

-- ---- paths that are closed

-- those of the root's entries are there, and those below the first ones
pub record AreClosed (tree : Tree) (paths : List (List ℕ)) (place : ℕ) : Type 0 where
  pub root : (path : List ℕ) → Contains (paths_under [] (names_in tree.nodes 1)) path → Contains paths path
  pub under : (k : ℕ) (d : List ℕ) → k < place → (path : List ℕ) → Contains (below tree (get_or paths k d)) path → Contains paths path
  pub straight : AllPass is_straight paths
  pub within : place ≤ length paths

under_some : (front name : List ℕ) → 0 < length front → path_under front name ≡ front ++ 47 ∷ name
under_some [] name some = absurd (omega arith)
under_some (byte ∷ front) name some = refl

below_walked : (tree : Tree) (path : List ℕ) (at : ℕ) → walked tree 1 path ≡ Ok at → below tree path ≡ paths_under path (names_in tree.nodes at)
below_walked tree path at ok = ap (below_by tree path) ok

all_from : (n : ℕ) (tree : Tree) (paths : List (List ℕ)) → AreClosed tree paths (length paths)
    → (path : List ℕ) (inode : ℕ) → length path < n → is_straight path ≡ true → walked tree 1 path ≡ Ok inode → Contains paths path
all_from zero tree paths closed path inode short straight ok = absurd (omega arith)
all_from (suc n) tree paths closed path inode short straight ok = all_by (λ front at less is there. all_from n tree paths closed front at less is there) (slashed path) refl
  where
    all_by : ((front : List ℕ) (at : ℕ) → length front < n → is_straight front ≡ true → walked tree 1 front ≡ Ok at → Contains paths front)
        → (more : Bool) → slashed path ≡ more → Contains paths path
    all_by before false none =
        let parts = pieces_plain path none in
        let along : follow tree.nodes 1 (path ∷ []) ≡ Ok inode = subst (λ (p : List (List ℕ)). follow tree.nodes 1 p ≡ Ok inode) parts (followed tree path inode straight ok) in
        let plain : (is_plain path && true) ≡ true = subst (λ (p : List (List ℕ)). list_all is_plain p ≡ true) parts straight in
        let named = step_named tree.nodes 1 path inode (and_true (is_plain path) true plain).0 (sym (follow_one tree.nodes 1 path) ∙ along) in
        closed.root path (under_has [] (names_in tree.nodes 1) path inode named)
    all_by before true some =
        let cut = last_cut path some in
        let whole : is_straight (cut.front ++ 47 ∷ cut.name) ≡ true = subst (λ (p : List ℕ). is_straight p ≡ true) cut.is straight in
        let parts = parts_of cut.front cut.name cut.plain whole in
        let long : length path ≡ length cut.front + suc (length cut.name) = ap length cut.is ∙ length-append cut.front (47 ∷ cut.name) in
        let low = within_of path (walked_some tree path inode ok) in
        let along : follow tree.nodes 1 (pieces cut.front ++ cut.name ∷ []) ≡ Ok inode =
        subst (λ (p : List (List ℕ)). follow tree.nodes 1 p ≡ Ok inode) (ap pieces cut.is ∙ parts.pieces_are) (followed tree path inode straight ok) in
        let last = then_from tree.nodes (follow tree.nodes 1 (pieces cut.front)) cut.name inode (sym (follow-append tree.nodes 1 (pieces cut.front) (cut.name ∷ [])) ∙ along) in
        let there = walks tree cut.front last.0 parts.front_straight (omega arith) last.1 in
        let front = before cut.front last.0 (omega arith) parts.front_straight there in
        let named = step_named tree.nodes last.0 cut.name inode parts.name_plain last.2 in
        let has : Contains (below tree (get_or paths front.0 cut.front)) (path_under cut.front cut.name) =
        subst (λ (p : List ℕ). Contains (below tree p) (path_under cut.front cut.name)) (sym front.2)
        (subst (λ (ps : List (List ℕ)). Contains ps (path_under cut.front cut.name)) (sym (below_walked tree cut.front last.0 there)) (under_has cut.front (names_in tree.nodes last.0) cut.name inode named)) in
        subst (Contains paths) (under_some cut.front cut.name (some_path cut.front parts.front_straight) ∙ sym cut.is) (closed.under front.0 cut.front front.1 (path_under cut.front cut.name) has)

pub closed_all : (tree : Tree) (paths : List (List ℕ)) (place : ℕ) → place ≡ length paths → AreClosed tree paths place → HaveAll tree paths
closed_all tree paths place end closed = record {
  straight = closed.straight;
  all = λ path inode straight ok. all_from (length path + 1) tree paths (subst (AreClosed tree paths) end closed) path inode (omega arith) straight ok;
}

-- ---- names under straight paths are straight

straight_name : (name : List ℕ) → is_plain name ≡ true → slashed name ≡ false → is_straight name ≡ true
straight_name name plain none = ap (list_all is_plain) (pieces_plain name none) ∙ both_true (is_plain name) true plain refl

straight_under : (path name : List ℕ) → (0 < length path → is_straight path ≡ true) → is_plain name ≡ true → slashed name ≡ false → is_straight (path_under path name) ≡ true
straight_under [] name straight plain none = straight_name name plain none
straight_under (byte ∷ path) name straight plain none =
    ap (list_all is_plain) (pieces_append (byte ∷ path) name)
    ∙ (list_all-append is_plain (pieces (byte ∷ path)) (pieces name)
    ∙ both_true (list_all is_plain (pieces (byte ∷ path))) (list_all is_plain (pieces name)) (straight (omega arith)) (straight_name name plain none))

some_of : (entry : Option ℕ) → IsSome entry → (inode : ℕ) × (entry ≡ Some inode)
some_of None some = absurd (let f : ⊥ = cc in f)
some_of (Some inode) some = (inode, refl)

names_are_straight : (tree : Tree) → IsSound tree → (path : List ℕ) (at : ℕ) → (0 < length path → is_straight path ≡ true) → AllPass is_straight (paths_under path (names_in tree.nodes at))
names_are_straight tree sound path at straight =
    All-map (λ p. is_straight p ≡ true) (path_under path) (keys_of (names_in tree.nodes at))
    (All-keys_from_lookup (eq_by_cmp_equiv nat_list_cmp_total) (λ name. is_straight (path_under path name) ≡ true) (names_in tree.nodes at)
    (λ name some.
    let entry = some_of (entry_named name (names_in tree.nodes at)) some in
    let named = (sound.leads at name entry.0 entry.1).named in
    straight_under path name straight (both_true (not (is_itself name)) (not (is_dots name)) (not_true (is_itself name) named.other) (not_true (is_dots name) named.not_dots)) named.plain))

below_straight : (tree : Tree) → IsSound tree → (path : List ℕ) → is_straight path ≡ true → AllPass is_straight (below tree path)
below_straight tree sound path straight = below_from (walked tree 1 path)
  where
    below_from : (at : Result ℕ Errno) → AllPass is_straight (below_by tree path at)
    below_from (Err errno) = λ k d within. absurd (omega arith)
    below_from (Ok at) = names_are_straight tree sound path at (λ some. straight)

pub closed_first : (tree : Tree) (start paths : List (List ℕ)) (root : ℕ) → IsSound tree → root ≡ 1 → start ≡ [] → paths ≡ start ++ paths_under [] (names_in tree.nodes root) → AreClosed tree paths 0
closed_first tree start paths root sound is none are =
    let whole : paths ≡ paths_under [] (names_in tree.nodes 1) =
    are ∙ (ap (λ (s : List (List ℕ)). s ++ paths_under [] (names_in tree.nodes root)) none ∙ ap (λ (n : ℕ). paths_under [] (names_in tree.nodes n)) is) in
    subst (λ (ps : List (List ℕ)). AreClosed tree ps 0) (sym whole) (record {
      root = λ path has. has;
      under = λ k d low path has. absurd (omega arith);
      straight = names_are_straight tree sound [] 1 (λ some. absurd (omega arith));
      within = omega arith;
    })

pub closed_next : (tree : Tree) (paths more : List (List ℕ)) (place : ℕ) → IsSound tree → place < length paths → AreClosed tree paths place → more ≡ paths ++ below tree (get_or paths place []) → AreClosed tree more (place + 1)
closed_next tree paths more place sound low closed are = subst (λ (ps : List (List ℕ)). AreClosed tree ps (place + 1)) (sym are) (record {
  root = λ path has. Contains-append_left paths (below tree (get_or paths place [])) path (closed.root path has);
  under = λ k d within path has. under_at k d within path has (cases_order k place);
  straight = All-append (λ p. is_straight p ≡ true) paths (below tree (get_or paths place [])) closed.straight (below_straight tree sound (get_or paths place []) (closed.straight place [] low));
  within = omega (arith, length-append paths (below tree (get_or paths place [])));
})
  where
    under_at : (k : ℕ) (d : List ℕ) → k < place + 1 → (path : List ℕ) → Contains (below tree (get_or (paths ++ below tree (get_or paths place [])) k d)) path
        → (k ≡ place) ⊎ ((k < place) ⊎ (place < k)) → Contains (paths ++ below tree (get_or paths place [])) path
    under_at k d within path has (inl last) =
        let short : k < length paths = omega arith in
        let same : get_or (paths ++ below tree (get_or paths place [])) k d ≡ get_or paths place [] =
        get_or_append_left paths (below tree (get_or paths place [])) d k short ∙ (get_or_default paths k d [] short ∙ ap (λ (n : ℕ). get_or paths n []) last) in
        Contains-append_right paths (below tree (get_or paths place [])) path (subst (λ (p : List ℕ). Contains (below tree p) path) same has)
    under_at k d within path has (inr (inl less)) =
        let short : k < length paths = omega arith in
        let same : get_or (paths ++ below tree (get_or paths place [])) k d ≡ get_or paths k d = get_or_append_left paths (below tree (get_or paths place [])) d k short in
        Contains-append_left paths (below tree (get_or paths place [])) path (closed.under k d less path (subst (λ (p : List ℕ). Contains (below tree p) path) same has))
    under_at k d within path has (inr (inr more)) = absurd (omega arith)

-- a file has no names
file_names_by : (node : Option Node) → kind_by node ≡ Some nodes.File → names_by node ≡ []
file_names_by None file = absurd (let f : ⊥ = cc in f)
file_names_by (Some node) file = names_from node.body file
  where
    names_from : (body : Body) → kind_by (Some (record node { body = body })) ≡ Some nodes.File → names_by (Some (record node { body = body })) ≡ []
    names_from (Bytes bytes) file = refl
    names_from (Names directory) file = absurd (let f : ⊥ = cc in f)

file_names : (tree : Tree) (inode : ℕ) → kind_in tree inode ≡ Some nodes.File → names_in tree.nodes inode ≡ []
unfolding kind_in
file_names tree inode file = file_names_by (node_in tree.nodes inode) file

pub file_below : (tree : Tree) (path : List ℕ) (inode : ℕ) → walked tree 1 path ≡ Ok inode → kind_in tree inode ≡ Some nodes.File → below tree path ≡ []
file_below tree path inode ok file = below_walked tree path inode ok ∙ ap (paths_under path) (file_names tree inode file)

pub file_pushed : (tree : Tree) (paths : List (List ℕ)) (place root inode : ℕ) (path bytes : List ℕ) → place < length paths → root ≡ 1 → path ≡ get_or paths place path → bytes ≡ path
    → Ok inode ≡ walked tree root bytes → kind_in tree inode ≡ Some nodes.File → paths ≡ paths ++ below tree (get_or paths place [])
file_pushed tree paths place root inode path bytes low is read same ok file =
    let here : path ≡ get_or paths place [] = read ∙ get_or_default paths place path [] low in
    let there : walked tree 1 (get_or paths place []) ≡ Ok inode =
    ap (λ (n : ℕ). walked tree n (get_or paths place [])) (sym is) ∙ (ap (walked tree root) (sym (same ∙ here)) ∙ sym ok) in
    sym (ap (λ (more : List (List ℕ)). paths ++ more) (file_below tree (get_or paths place []) inode there file) ∙ append-nil paths)

-- one name more
pub names_more : (old names : List (List ℕ)) (path : List ℕ) (i : ℕ) (d : List ℕ) → i < length names
    → old ++ map (path_under path) (take (i + 1) names) ≡ (old ++ map (path_under path) (take i names)) ++ path_under path (get_or names i d) ∷ []
names_more old names path i d within =
    ap (λ (front : List (List ℕ)). old ++ map (path_under path) front) (take_more names i d within)
    ∙ (ap (λ (more : List (List ℕ)). old ++ more) (map-append (path_under path) (take i names) (get_or names i d ∷ []))
    ∙ sym (append_assoc old (map (path_under path) (take i names)) (path_under path (get_or names i d) ∷ [])))

-- ---- sorted, each once

pub sorted_all : (tree : Tree) (found moved kept : List (List ℕ)) → HaveAll tree found → IsPermutation found moved → IsSorted (slice_cmp nat_cmp) moved → kept ≡ dedup (eq_by_cmp (slice_cmp nat_cmp)) moved → AreAllPaths tree kept
sorted_all tree found moved kept all permuted sorted are = subst (AreAllPaths tree) (sym are) (record {
  rising = IsStrictlySortedBy-dedup nat_list_cmp_total (λ x y. refl) moved sorted;
  have = record {
    straight = All-dedup (eq_by_cmp (slice_cmp nat_cmp)) (λ p. is_straight p ≡ true) moved (All-permutation (λ p. is_straight p ≡ true) found moved permuted all.straight);
    all = λ path inode straight ok. Contains-dedup (eq_by_cmp_equiv nat_list_cmp_total) same_name moved path (Contains-permutation found moved path permuted (all.all path inode straight ok));
  };
})
