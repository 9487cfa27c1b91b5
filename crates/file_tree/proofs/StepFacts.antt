-- What a walk finds is in the tree; and its steps by the last name of a path.
use Rattle.std.proofs.Common.{◌≡◌, ℕ, ◌==◌, nat_lt, Bool, true, false, not, if◌then◌else◌, List, [], ◌∷◌, length, Option, Some, None, IsSome, Result, Ok, Err, ◌⊎◌, inl, inr, refl, sym, ap, subst, ◌∙◌}
use Rattle.std.specs.Prelude.{IfOk}
use Rattle.std.proofs.lemmas.Bool.{cases_eq}
use Rattle.file_tree.specs.declared.errno.Errno.{Errno}
use Rattle.file_tree.specs.declared.errno.Errno.TheVariants.{ENOENT, ENAMETOOLONG}
use Rattle.file_tree.specs.declared.node.Node.{Node}
use Rattle.file_tree.specs.declared.node.Directory.{Directory}
use Rattle.file_tree.specs.declared.node.Body.{Body}
use Rattle.file_tree.specs.declared.node.Body.TheVariants.{Bytes, Names}
use Rattle.file_tree.specs.declared.kind.Kind.TheVariants as kinds
use Rattle.file_tree.specs.Entries.{entry_named}
use Rattle.file_tree.specs.Paths.{parts, is_dot, is_dots, path_refused}
use Rattle.file_tree.specs.Nodes.{Tree, node_in, kind_in, kind_by, kind_of}
use Rattle.file_tree.specs.Walk.{step, step_at, step_in, found, follow, and_then, unless, start_of, walked}
use Rattle.file_tree.specs.Whole.{Place, Dir, linked_place, place_by, places, entries_in, IsTree, IsWhole}
use Rattle.file_tree.proofs.TreeFacts.{is_some_from, a_parent_is_linked}

place_there : (o : Option Node) → IsSome (place_by o) → IsSome o
place_there None some = absurd (let f : ⊥ = cc in f)
place_there (Some node) some = refl

-- where a linked directory's parent stands
pub parent_there : (tree : ℕ → Option Place) → IsTree tree → (at : ℕ) (d : Directory) → tree at ≡ Some (Dir d) → IsSome (tree d.parent)
parent_there tree is at d here =
    elim (cases_eq at 1) [
      | inl same ↦
          let r = is.root in
          let e : d ≡ r.directory = (let a : tree 1 ≡ Some (Dir d) = ap tree (sym same) ∙ here in let b = r.is in cc) in
          subst (λ (x : ℕ). IsSome (tree x)) (sym (ap (λ (x : Directory). x.parent) e ∙ r.parent)) (is_some_from (tree 1) (Dir r.directory) r.is)
      | inr apart ↦
          let home = is.homed at apart (is_some_from (tree at) (Dir d) here) in
          let p = (is.placed home.at home.name at home.is).below d here in
          subst (λ (x : ℕ). IsSome (tree x)) (sym p.0) (a_parent_is_linked tree home.at home.name at home.is)
    ]

module _ (nodes : List (ℕ × Node)) (next count bytes : ℕ) (is : IsWhole nodes next count bytes) where
  found_there : (at : ℕ) (part : List ℕ) (d : Directory) (target : Option ℕ) → places nodes at ≡ Some (Dir d) → entry_named part d.names ≡ target → IfOk (found target) (λ n. IsSome (node_in nodes n))
  found_there at part d None here same = tt
  found_there at part d (Some n) here same =
      place_there (node_in nodes n) (is.tree.placed at part n (ap (λ (p : Option Place). entry_named part (entries_in p)) here ∙ same)).linked

  looked_there : (at : ℕ) (part : List ℕ) (linked : Bool) (d : Directory) (is_it is_up : Bool) → node_in nodes at ≡ Some (record { holds = 0; linked = linked; body = Names d }) ⊎ (places nodes at ≡ linked_place linked (Names d))
      → IsSome (node_in nodes at) → places nodes at ≡ linked_place linked (Names d)
      → IfOk (if is_it then Ok at else if not linked then Err ENOENT else if is_up then Ok d.parent else found (entry_named part d.names)) (λ n. IsSome (node_in nodes n))
  looked_there at part linked d true is_up either some place = some
  looked_there at part false d false is_up either some place = tt
  looked_there at part true d false true either some place = place_there (node_in nodes d.parent) (parent_there (places nodes) is.tree at d place)
  looked_there at part true d false false either some place = found_there at part d (entry_named part d.names) place refl

  body_there : (at : ℕ) (part : List ℕ) (linked : Bool) (body : Body) → IsSome (node_in nodes at) → places nodes at ≡ linked_place linked body → IfOk (step_in at linked body part) (λ n. IsSome (node_in nodes n))
  body_there at part linked (Bytes bytes) some place = tt
  body_there at part linked (Names d) some place = looked_there at part linked d (is_dot part) (is_dots part) (inr place) some place

  node_there : (at : ℕ) (part : List ℕ) (node : Option Node) → node_in nodes at ≡ node → IsSome (node_in nodes at) → IfOk (step_at at node part) (λ n. IsSome (node_in nodes n))
  node_there at part None same some = tt
  node_there at part (Some node) same some = body_there at part node.linked node.body some (ap place_by same)

  step_by : (long : Bool) (at : ℕ) (part : List ℕ) → IsSome (node_in nodes at) → IfOk (if long then Err ENAMETOOLONG else step_at at (node_in nodes at) part) (λ n. IsSome (node_in nodes n))
  step_by true at part some = tt
  step_by false at part some = node_there at part (node_in nodes at) refl some

  pub step_there : (at : ℕ) (part : List ℕ) → IsSome (node_in nodes at) → IfOk (step nodes at part) (λ n. IsSome (node_in nodes n))
  unfolding step
  step_there at part some = step_by (nat_lt 255 (length part)) at part some

  then_there : (r : Result ℕ Errno) (go : ℕ → Result ℕ Errno) → IfOk r (λ n. IsSome (node_in nodes n)) → ((n : ℕ) → IsSome (node_in nodes n) → IfOk (go n) (λ n. IsSome (node_in nodes n)))
      → IfOk (and_then r go) (λ n. IsSome (node_in nodes n))
  then_there (Err errno) go first rest = tt
  then_there (Ok n) go first rest = rest n first

  pub follow_there : (at : ℕ) (parts : List (List ℕ)) → IsSome (node_in nodes at) → IfOk (follow nodes at parts) (λ n. IsSome (node_in nodes n))
  unfolding follow
  follow_there at [] some = some
  follow_there at (part ∷ rest) some = then_there (step nodes at part) (λ next. follow nodes next rest) (step_there at part some) (λ n there. follow_there n rest there)

  -- the root is a directory
  pub root_there : IsSome (node_in nodes 1)
  root_there = place_there (node_in nodes 1) (is_some_from (places nodes 1) (Dir is.tree.root.directory) is.tree.root.is)

  pub start_there : (from : ℕ) (path : List ℕ) → IsSome (node_in nodes from) → IsSome (node_in nodes (start_of from path))
  start_there from [] some = some
  start_there from (byte ∷ path) some = start_by (byte == 47) some
    where
      start_by : (slash : Bool) → IsSome (node_in nodes from) → IsSome (node_in nodes (if slash then 1 else from))
      start_by true some = root_there
      start_by false some = some

  pub walked_there : (from : ℕ) (path : List ℕ) → IsSome (node_in nodes from) → IfOk (walked (record { nodes = nodes; next = next }) from path) (λ n. IsSome (node_in nodes n))
  unfolding walked
  walked_there from path some = unless_there (path_refused path) (follow_there (start_of from path) (parts path) (start_there from path some))
    where
      unless_there : (o : Option Errno) → IfOk (follow nodes (start_of from path) (parts path)) (λ n. IsSome (node_in nodes n)) → IfOk (unless o (follow nodes (start_of from path) (parts path))) (λ n. IsSome (node_in nodes n))
      unless_there None all = all
      unless_there (Some errno) all = tt

dir_by : (o : Option Node) (d : Directory) → place_by o ≡ Some (Dir d) → kind_by o ≡ Some kinds.Dir
dir_by None d same = absurd (let f : ⊥ = cc in f)
dir_by (Some node) d same = dir_body node.linked node.body d same
  where
    dir_body : (linked : Bool) (body : Body) (d : Directory) → linked_place linked body ≡ Some (Dir d) → Some (kind_of body) ≡ Some kinds.Dir
    dir_body false body d same = absurd (let f : ⊥ = cc in f)
    dir_body true (Bytes bytes) d same = absurd (let f : ⊥ = cc in f)
    dir_body true (Names directory) d same = refl

pub root_kind : (nodes : List (ℕ × Node)) (next count bytes : ℕ) → IsWhole nodes next count bytes → kind_in (record { nodes = nodes; next = next }) 1 ≡ Some kinds.Dir
unfolding kind_in
root_kind nodes next count bytes is = dir_by (node_in nodes 1) is.tree.root.directory is.tree.root.is

walks_from : (nodes : List (ℕ × Node)) (next count bytes from : ℕ) (path : List ℕ) (r : Result ℕ Errno) → IsWhole nodes next count bytes → IsSome (node_in nodes from)
    → r ≡ walked (record { nodes = nodes; next = next }) from path → IfOk r (λ n. IsSome (node_in nodes n))
walks_from nodes next count bytes from path r is some same = subst (λ (x : Result ℕ Errno). IfOk x (λ n. IsSome (node_in nodes n))) (sym same) (walked_there nodes next count bytes is from path some)

pub walks_there : (tree : Tree) (nodes : List (ℕ × Node)) (next count bytes from : ℕ) (path : List ℕ) (r : Result ℕ Errno) → record { nodes = nodes; next = next } ≡ tree → IsWhole nodes next count bytes
    → IsSome (node_in tree.nodes from) → r ≡ walked tree from path → IfOk r (λ n. IsSome (node_in tree.nodes n))
walks_there tree nodes next count bytes from path r view is =
    subst (λ (t : Tree). IsSome (node_in t.nodes from) → r ≡ walked t from path → IfOk r (λ n. IsSome (node_in t.nodes n))) view (walks_from nodes next count bytes from path r is)
