-- What callers know of every tree; and that a walk finds what is linked, or where it began.
use Rattle.std.proofs.Common.{◌≡◌, ◌≢◌, ℕ, ◌==◌, nat_lt, Bool, true, false, not, if◌then◌else◌, List, [], ◌∷◌, length, Option, Some, None, IsSome, Result, Ok, Err, inl, inr, refl, sym, ap, subst, ◌∙◌, arith}
use Rattle.std.specs.Prelude.{IfOk}
use Rattle.std.proofs.lemmas.Bool.{cases_eq}
use Rattle.file_tree.specs.declared.errno.Errno.{Errno}
use Rattle.file_tree.specs.declared.errno.Errno.TheVariants.{ENOENT, ENAMETOOLONG}
use Rattle.file_tree.specs.declared.node.Node.{Node}
use Rattle.file_tree.specs.declared.node.Directory.{Directory}
use Rattle.file_tree.specs.declared.node.Body.{Body}
use Rattle.file_tree.specs.declared.node.Body.TheVariants.{Bytes, Names}
use Rattle.file_tree.specs.Entries.{entry_named, AreRising}
use Rattle.file_tree.specs.Paths.{parts, is_dot, is_dots, path_refused}
use Rattle.file_tree.specs.Nodes.{Tree, Has, node_in, without_node, kind_in, kind_by, linked_in, linked_by, names_of, names_by, names_in}
use Rattle.file_tree.specs.Walk.{step, step_at, step_in, found, follow, and_then, unless, start_of, walked}
use Rattle.file_tree.specs.Whole.{Place, Dir, linked_place, place_by, places, entries_in, child, IsWhole, IsLed, IsSound}
use Rattle.file_tree.proofs.TreeFacts.{is_some_from, a_parent_is_linked}
use Rattle.file_tree.proofs.NodeFacts.{cut_there}
use Rattle.file_tree.proofs.StepFacts.{parent_there, root_kind}

-- ---- what is in a tree has a kind

node_by_kind : (o : Option Node) → IsSome (kind_by o) → IsSome o
node_by_kind None some = absurd (let f : ⊥ = cc in f)
node_by_kind (Some node) some = refl

kind_by_node : (o : Option Node) → IsSome o → IsSome (kind_by o)
kind_by_node None some = absurd (let f : ⊥ = cc in f)
kind_by_node (Some node) some = refl

pub has_node : (tree : Tree) (inode : ℕ) → Has tree inode → IsSome (node_in tree.nodes inode)
unfolding kind_in
has_node tree inode has = node_by_kind (node_in tree.nodes inode) has

pub node_has : (tree : Tree) (inode : ℕ) → IsSome (node_in tree.nodes inode) → Has tree inode
unfolding kind_in
node_has tree inode some = kind_by_node (node_in tree.nodes inode) some

-- the same of what an answer tells
pub answer_has : (tree : Tree) (r : Result ℕ Errno) → IfOk r (λ n. IsSome (node_in tree.nodes n)) → IfOk r (λ n. Has tree n)
answer_has tree (Err errno) some = tt
answer_has tree (Ok n) some = node_has tree n some

-- ---- what callers know of every tree

pub linked_from : (o : Option Node) → IsSome (place_by o) → linked_by o ≡ true
linked_from None some = absurd (let f : ⊥ = cc in f)
linked_from (Some node) some = by_linked node.linked node.body some
  where
    by_linked : (linked : Bool) (body : Body) → IsSome (linked_place linked body) → linked ≡ true
    by_linked true body some = refl
    by_linked false body some = absurd (let f : ⊥ = cc in f)

names_by_body : (linked : Bool) (body : Body) → (linked ≡ false → names_of body ≡ []) → names_of body ≡ entries_in (linked_place linked body)
names_by_body false body empty = empty refl
names_by_body true (Bytes bytes) empty = refl
names_by_body true (Names d) empty = refl

names_by_node : (nodes : List (ℕ × Node)) (next count bytes k : ℕ) (o : Option Node) → IsWhole nodes next count bytes → node_in nodes k ≡ o → names_by o ≡ entries_in (place_by o)
names_by_node nodes next count bytes k None is same = refl
names_by_node nodes next count bytes k (Some node) is same = names_by_body node.linked node.body (λ lost. (is.kept k node same lost).empty)

pub names_places : (nodes : List (ℕ × Node)) (next count bytes k : ℕ) → IsWhole nodes next count bytes → names_in nodes k ≡ entries_in (places nodes k)
names_places nodes next count bytes k is = names_by_node nodes next count bytes k (node_in nodes k) is refl

module _ (nodes : List (ℕ × Node)) (next count bytes : ℕ) (is : IsWhole nodes next count bytes) where
  is_led : (at : ℕ) (name : List ℕ) (inode : ℕ) → entry_named name (names_in nodes at) ≡ Some inode → IsLed (record { nodes = nodes; next = next }) at name inode
  is_led at name inode found =
      let below : child (places nodes) at name ≡ Some inode = ap (entry_named name) (sym (names_places nodes next count bytes at is)) ∙ found in
      let placed = is.tree.placed at name inode below in
      record {
        named = placed.named;
        from = linked_from (node_in nodes at) (a_parent_is_linked (places nodes) at name inode below);
        to = linked_from (node_in nodes inode) placed.linked;
      }

  pub sound_whole : IsSound (record { nodes = nodes; next = next })
  unfolding kind_in
  sound_whole =
      let counted = is.counted in
      let summed = is.summed in
      let few = is.few in
      let within = is.within in
      record {
        root = root_kind nodes next count bytes is;
        linked = is.tree;
        rising = λ at. subst AreRising (sym (names_places nodes next count bytes at is)) (is.tree.rising at);
        leads = is_led;
        kept = is.kept;
        unused = λ inode high. ap kind_by (is.unused inode high);
        sorted = is.sorted;
        small = is.small;
        few = omega arith;
        within = omega arith;
      }

  -- ---- what a walk finds elsewhere is linked

  abbrev Linked : ℕ → Type 0
  Linked n = linked_by (node_in nodes n) ≡ true

  found_linked : (at : ℕ) (part : List ℕ) (d : Directory) (target : Option ℕ) → places nodes at ≡ Some (Dir d) → entry_named part d.names ≡ target → IfOk (found target) (λ n. n ≢ at → Linked n)
  found_linked at part d None here same = tt
  found_linked at part d (Some n) here same =
      λ apart. linked_from (node_in nodes n) (is.tree.placed at part n (ap (λ (p : Option Place). entry_named part (entries_in p)) here ∙ same)).linked

  looked_linked : (at : ℕ) (part : List ℕ) (linked : Bool) (d : Directory) (is_it is_up : Bool) → places nodes at ≡ linked_place linked (Names d)
      → IfOk (if is_it then Ok at else if not linked then Err ENOENT else if is_up then Ok d.parent else found (entry_named part d.names)) (λ n. n ≢ at → Linked n)
  looked_linked at part linked d true is_up place = λ apart. absurd (apart refl)
  looked_linked at part false d false is_up place = tt
  looked_linked at part true d false true place = λ apart. linked_from (node_in nodes d.parent) (parent_there (places nodes) is.tree at d place)
  looked_linked at part true d false false place = found_linked at part d (entry_named part d.names) place refl

  body_linked : (at : ℕ) (part : List ℕ) (linked : Bool) (body : Body) → places nodes at ≡ linked_place linked body → IfOk (step_in at linked body part) (λ n. n ≢ at → Linked n)
  body_linked at part linked (Bytes bytes) place = tt
  body_linked at part linked (Names d) place = looked_linked at part linked d (is_dot part) (is_dots part) place

  node_linked : (at : ℕ) (part : List ℕ) (node : Option Node) → node_in nodes at ≡ node → IfOk (step_at at node part) (λ n. n ≢ at → Linked n)
  node_linked at part None same = tt
  node_linked at part (Some node) same = body_linked at part node.linked node.body (ap place_by same)

  long_linked : (long : Bool) (at : ℕ) (part : List ℕ) → IfOk (if long then Err ENAMETOOLONG else step_at at (node_in nodes at) part) (λ n. n ≢ at → Linked n)
  long_linked true at part = tt
  long_linked false at part = node_linked at part (node_in nodes at) refl

  step_linked : (at : ℕ) (part : List ℕ) → IfOk (step nodes at part) (λ n. n ≢ at → Linked n)
  unfolding step
  step_linked at part = long_linked (nat_lt 255 (length part)) at part

  further : (at n : ℕ) (r : Result ℕ Errno) → (n ≢ at → Linked n) → IfOk r (λ m. m ≢ n → Linked m) → IfOk r (λ m. m ≢ at → Linked m)
  further at n (Err errno) first rest = tt
  further at n (Ok m) first rest =
      λ apart. elim (cases_eq m n) [ inl same ↦ subst Linked (sym same) (first (λ e. apart (same ∙ e))) | inr other ↦ rest other ]

  then_linked : (at : ℕ) (r : Result ℕ Errno) (go : ℕ → Result ℕ Errno) → IfOk r (λ n. n ≢ at → Linked n) → ((n : ℕ) → IfOk (go n) (λ m. m ≢ n → Linked m)) → IfOk (and_then r go) (λ m. m ≢ at → Linked m)
  then_linked at (Err errno) go first rest = tt
  then_linked at (Ok n) go first rest = further at n (go n) first (rest n)

  follow_linked : (at : ℕ) (parts : List (List ℕ)) → IfOk (follow nodes at parts) (λ n. n ≢ at → Linked n)
  unfolding follow
  follow_linked at [] = λ apart. absurd (apart refl)
  follow_linked at (part ∷ rest) = then_linked at (step nodes at part) (λ next. follow nodes next rest) (step_linked at part) (λ n. follow_linked n rest)

  root_linked : Linked 1
  root_linked = linked_from (node_in nodes 1) (is_some_from (places nodes 1) (Dir is.tree.root.directory) is.tree.root.is)

  start_linked : (from : ℕ) (path : List ℕ) → start_of from path ≢ from → Linked (start_of from path)
  start_linked from [] apart = absurd (apart refl)
  start_linked from (byte ∷ path) apart = by_slash (byte == 47) apart
    where
      by_slash : (slash : Bool) → (if slash then 1 else from) ≢ from → Linked (if slash then 1 else from)
      by_slash true apart = root_linked
      by_slash false apart = absurd (apart refl)

  unless_linked : (from : ℕ) (o : Option Errno) (r : Result ℕ Errno) → IfOk r (λ n. n ≢ from → Linked n) → IfOk (unless o r) (λ n. n ≢ from → Linked n)
  unless_linked from None r all = all
  unless_linked from (Some errno) r all = tt

  pub walked_linked : (from : ℕ) (path : List ℕ) → IfOk (walked (record { nodes = nodes; next = next }) from path) (λ n. n ≢ from → Linked n)
  unfolding walked
  walked_linked from path =
      unless_linked from (path_refused path) (follow nodes (start_of from path) (parts path))
      (further from (start_of from path) (follow nodes (start_of from path) (parts path)) (start_linked from path) (follow_linked (start_of from path) (parts path)))

  -- ---- without what was unlinked each walk that begins elsewhere finds the same

  module _ (i : ℕ) (v : Node) (here : node_in nodes i ≡ Some v) (lost : v.linked ≡ false) where
    not_linked : (n : ℕ) → Linked n → n ≢ i
    not_linked n linked same =
        let both : true ≡ false = sym linked ∙ (ap (λ (x : ℕ). linked_by (node_in nodes x)) same ∙ (ap linked_by here ∙ lost)) in
        let f : ⊥ = cc in f

    step_left : (at : ℕ) (part : List ℕ) → at ≢ i → step (without_node i nodes) at part ≡ step nodes at part
    unfolding step
    step_left at part apart = ap (λ (o : Option Node). if nat_lt 255 (length part) then Err ENAMETOOLONG else step_at at o part) (cut_there nodes i at is.sorted (λ same. apart (sym same)))

    next_apart : (at n : ℕ) → at ≢ i → (n ≢ at → Linked n) → n ≢ i
    next_apart at n apart first = elim (cases_eq n at) [ inl same ↦ λ e. apart (sym same ∙ e) | inr other ↦ not_linked n (first other) ]

    then_left : (at : ℕ) (r : Result ℕ Errno) (f g : ℕ → Result ℕ Errno) → at ≢ i → IfOk r (λ n. n ≢ at → Linked n) → ((n : ℕ) → n ≢ i → f n ≡ g n) → and_then r f ≡ and_then r g
    then_left at (Err errno) f g apart first rest = refl
    then_left at (Ok n) f g apart first rest = rest n (next_apart at n apart first)

    follow_left : (at : ℕ) (parts : List (List ℕ)) → at ≢ i → follow (without_node i nodes) at parts ≡ follow nodes at parts
    unfolding follow
    follow_left at [] apart = refl
    follow_left at (part ∷ rest) apart =
        ap (λ (r : Result ℕ Errno). and_then r (λ n. follow (without_node i nodes) n rest)) (step_left at part apart)
        ∙ then_left at (step nodes at part) (λ n. follow (without_node i nodes) n rest) (λ n. follow nodes n rest) apart (step_linked at part) (λ n other. follow_left n rest other)

    pub walked_left : (from : ℕ) (path : List ℕ) → from ≢ i → walked (record { nodes = without_node i nodes; next = next }) from path ≡ walked (record { nodes = nodes; next = next }) from path
    unfolding walked
    walked_left from path apart =
        ap (unless (path_refused path)) (follow_left (start_of from path) (parts path) (next_apart from (start_of from path) apart (start_linked from path)))

pub sound_view : (tree : Tree) (nodes : List (ℕ × Node)) (next count bytes : ℕ) → record { nodes = nodes; next = next } ≡ tree → IsWhole nodes next count bytes → IsSound tree
sound_view tree nodes next count bytes view is = subst IsSound view (sound_whole nodes next count bytes is)

answer_by : (nodes : List (ℕ × Node)) (next count bytes from : ℕ) (path : List ℕ) (r : Result ℕ Errno) → IsWhole nodes next count bytes → r ≡ walked (record { nodes = nodes; next = next }) from path
    → IfOk r (λ n. n ≢ from → linked_by (node_in nodes n) ≡ true)
answer_by nodes next count bytes from path r is same = subst (λ (x : Result ℕ Errno). IfOk x (λ n. n ≢ from → linked_by (node_in nodes n) ≡ true)) (sym same) (walked_linked nodes next count bytes is from path)

pub answer_linked : (tree : Tree) (nodes : List (ℕ × Node)) (next count bytes from : ℕ) (path : List ℕ) (r : Result ℕ Errno) → record { nodes = nodes; next = next } ≡ tree → IsWhole nodes next count bytes
    → r ≡ walked tree from path → IfOk r (λ n. n ≢ from → linked_in tree n ≡ true)
answer_linked tree nodes next count bytes from path r view is =
    subst (λ (t : Tree). r ≡ walked t from path → IfOk r (λ n. n ≢ from → linked_in t n ≡ true)) view (answer_by nodes next count bytes from path r is)
