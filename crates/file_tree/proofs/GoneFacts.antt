-- What is kept where an entry is taken away, and where one that was unlinked goes.
use Rattle.std.proofs.Common.{◌≡◌, ◌≢◌, ℕ, zero, suc, ◌+◌, ◌-◌, ◌<◌, ◌≤◌, ◌==◌, Bool, true, false, if◌then◌else◌, List, [], length, Option, Some, None, IsSome, ◌⊎◌, inl, inr, refl, sym, ap, subst, ◌∙◌, arith}
use Rattle.std.specs.Ordering.{nat_cmp}
use Rattle.std.specs.Map.{keys_of}
use Rattle.std.specs.List.Sorted.{IsStrictlySortedBy}
use Rattle.std.proofs.lemmas.Bool.{cases_eq}
use Rattle.file_tree.specs.declared.node.Node.{Node}
use Rattle.file_tree.specs.declared.node.Directory.{Directory}
use Rattle.file_tree.specs.declared.node.Body.{Body}
use Rattle.file_tree.specs.declared.node.Body.TheVariants.{Bytes, Names}
use Rattle.file_tree.specs.Entries.{entry_named}
use Rattle.file_tree.specs.Nodes.{node_in, changed_node, without_node, bytes_of, bytes_by, file_bytes, names_of, weight, tree_bytes, one_linked, tree_count, holds_by}
use Rattle.file_tree.specs.Unlinking.{without_name, node_without, unnamed_by, unnamed, marked, marked_by, gone, with_unlinked}
use Rattle.file_tree.specs.Whole.{Place, Dir, place_of, linked_place, place_by, places, entries_in, child, IsTree, IsKept, IsWhole}
use Rattle.file_tree.proofs.TreeFacts.{none_some, left_tree, less_named, a_child_is_below}
use Rattle.file_tree.proofs.NodeFacts.{set_here, set_there, cut_here, cut_there, sorted_set, sorted_cut, bytes_set, bytes_cut, count_set, count_cut, node_same, same_tree}

is_zero : (n : ℕ) → (n == 0) ≡ true → n ≡ 0
is_zero n same = grind arith

-- ---- the last hold of what was unlinked goes

module _ (nodes : List (ℕ × Node)) (next count bytes i : ℕ) (v : Node) (is : IsWhole nodes next count bytes) (found : node_in nodes i ≡ Some v) (lost : v.linked ≡ false) where
  dropped_at : (k : ℕ) → ((i ≡ k) × (node_in (without_node i nodes) k ≡ None)) ⊎ ((i ≡ k → ⊥) × (node_in (without_node i nodes) k ≡ node_in nodes k))
  dropped_at k =
      elim (cases_eq i k) [
        | inl same ↦ inl (same, ap (λ (x : ℕ). node_in (without_node i nodes) x) (sym same) ∙ cut_here nodes i is.sorted)
        | inr apart ↦ inr (apart, cut_there nodes i k is.sorted apart)
      ]

  dropped_places : (k : ℕ) → places (without_node i nodes) k ≡ places nodes k
  dropped_places k =
      elim (dropped_at k) [
        | inl gone ↦ ap place_by gone.1 ∙ sym (ap (places nodes) (sym gone.0) ∙ (ap place_by found ∙ ap (λ (b : Bool). linked_place b v.body) lost))
        | inr left ↦ ap place_by left.1
      ]

  dropped_unused : (k : ℕ) → next ≤ k → node_in (without_node i nodes) k ≡ None
  dropped_unused k high = elim (dropped_at k) [ inl gone ↦ gone.1 | inr left ↦ left.1 ∙ is.unused k high ]

  dropped_kept : (k : ℕ) (node : Node) → node_in (without_node i nodes) k ≡ Some node → node.linked ≡ false → IsKept node
  dropped_kept k node here unlinked =
      elim (dropped_at k) [
        | inl gone ↦ absurd (none_some (node_in (without_node i nodes) k) node gone.1 here)
        | inr left ↦ is.kept k node (sym left.1 ∙ here) unlinked
      ]

  dropped_small : (k : ℕ) → length (file_bytes (without_node i nodes) k) ≤ 16777216
  dropped_small k =
      elim (dropped_at k) [
        | inl gone ↦ subst (λ (o : Option Node). length (bytes_by o) ≤ 16777216) (sym gone.1) (omega arith)
        | inr left ↦ subst (λ (o : Option Node). length (bytes_by o) ≤ 16777216) (sym left.1) (is.small k)
      ]

  pub dropped_whole : IsWhole (without_node i nodes) next count bytes
  dropped_whole =
      let c = count_cut nodes i v found in
      let b = bytes_cut nodes i v found in
      let one : one_linked v ≡ 0 = ap (λ (b : Bool). if b then 1 else 0) lost in
      let none : weight v ≡ 0 = ap (λ (b : Bool). if b then length (bytes_of v.body) else 0) lost in
      let counted = is.counted in
      let summed = is.summed in
      record {
        sorted = sorted_cut nodes i is.sorted;
        unused = dropped_unused;
        tree = same_tree (places nodes) (places (without_node i nodes)) dropped_places is.tree;
        kept = dropped_kept;
        small = dropped_small;
        counted = omega arith;
        few = is.few;
        summed = omega arith;
        within = is.within;
      }

-- ---- a name is taken away, and what it leads to

module _ (nodes : List (ℕ × Node)) (next count bytes at inode : ℕ) (name : List ℕ) (v u : Node) (d : Directory) (is : IsWhole nodes next count bytes)
    (found : node_in nodes at ≡ Some v) (linked : v.linked ≡ true) (body : v.body ≡ Names d) (entry : entry_named name d.names ≡ Some inode)
    (target : node_in nodes inode ≡ Some u) (empty : names_of u.body ≡ []) where
  abbrev after : Node
  after = node_without name v

  abbrev mid : List (ℕ × Node)
  mid = changed_node at after nodes

  place_at : places nodes at ≡ Some (Dir d)
  place_at = ap place_by found ∙ (ap (λ (b : Bool). linked_place b v.body) linked ∙ ap (λ (b : Body). Some (place_of b)) body)

  is_child : child (places nodes) at name ≡ Some inode
  is_child = ap (λ (p : Option Place). entry_named name (entries_in p)) place_at ∙ entry

  low : at < inode
  low = a_child_is_below (places nodes) is.tree at name inode is_child

  at_apart : at ≡ inode → ⊥
  at_apart same = let l = low in absurd (omega arith)

  mid_is : unnamed at name nodes ≡ mid
  mid_is = ap (λ (o : Option Node). unnamed_by at name o nodes) found

  mid_target : node_in mid inode ≡ Some u
  mid_target = set_there nodes at inode v after found at_apart ∙ target

  target_linked : u.linked ≡ true
  target_linked = by_linked u.linked u.body refl (ap place_by target) (is.tree.placed at name inode is_child).linked
    where
      by_linked : (b : Bool) (body : Body) → u.linked ≡ b → places nodes inode ≡ linked_place u.linked u.body → IsSome (places nodes inode) → u.linked ≡ true
      by_linked true body same place some = same
      by_linked false body same place some =
          let none : places nodes inode ≡ None = place ∙ ap (λ (b : Bool). linked_place b u.body) same in
          absurd (let f : ⊥ = cc in f)

  -- what the nodes are afterwards: the target is gone or marked, its directory has a name less, and others stay
  pub record IsLeft (new : List (ℕ × Node)) : Type 0 where
    pub sorted : IsStrictlySortedBy nat_cmp (keys_of new)
    pub here : node_in new at ≡ Some after
    pub others : (k : ℕ) → k ≢ inode → k ≢ at → node_in new k ≡ node_in nodes k
    pub taken : ((node_in new inode ≡ None) × (u.holds ≡ 0)) ⊎ ((node_in new inode ≡ Some (marked u)) × (0 < u.holds))
    pub counted : tree_count new + 1 ≡ tree_count nodes
    pub summed : tree_bytes new + length (bytes_of u.body) ≡ tree_bytes nodes

  one_target : one_linked u ≡ 1
  one_target = ap (λ (b : Bool). if b then 1 else 0) target_linked

  weight_target : weight u ≡ length (bytes_of u.body)
  weight_target = ap (λ (b : Bool). if b then length (bytes_of u.body) else 0) target_linked

  weight_after : weight after ≡ weight v
  weight_after = ap (λ (bytes : List ℕ). if v.linked then length bytes else 0) (ap (λ (b : Body). bytes_of (without_name name b)) body ∙ sym (ap bytes_of body))

  mid_sorted : IsStrictlySortedBy nat_cmp (keys_of mid)
  mid_sorted = sorted_set nodes at after is.sorted

  mid_other : (k : ℕ) → k ≢ at → node_in mid k ≡ node_in nodes k
  mid_other k apart = set_there nodes at k v after found (λ same. apart (sym same))

  left_cut : u.holds ≡ 0 → IsLeft (without_node inode mid)
  left_cut free =
      let c = count_cut mid inode u mid_target in
      let c2 = count_set nodes at v after found in
      let b = bytes_cut mid inode u mid_target in
      let b2 = bytes_set nodes at v after found in
      let one = one_target in
      let w = weight_target in
      let w2 = weight_after in
      record {
        sorted = sorted_cut mid inode mid_sorted;
        here = cut_there mid inode at mid_sorted (λ same. at_apart (sym same)) ∙ set_here nodes at v after found;
        others = λ k a b. cut_there mid inode k mid_sorted (λ same. a (sym same)) ∙ mid_other k b;
        taken = inl (cut_here mid inode mid_sorted, free);
        counted = omega arith;
        summed = omega arith;
      }

  left_marked : 0 < u.holds → IsLeft (changed_node inode (marked u) mid)
  left_marked held =
      let c = count_set mid inode u (marked u) mid_target in
      let c2 = count_set nodes at v after found in
      let b = bytes_set mid inode u (marked u) mid_target in
      let b2 = bytes_set nodes at v after found in
      let one = one_target in
      let w = weight_target in
      let w2 = weight_after in
      record {
        sorted = sorted_set mid inode (marked u) mid_sorted;
        here = set_there mid inode at u (marked u) mid_target (λ same. at_apart (sym same)) ∙ set_here nodes at v after found;
        others = λ k a b. set_there mid inode k u (marked u) mid_target (λ same. a (sym same)) ∙ mid_other k b;
        taken = inr (set_here mid inode u (marked u) mid_target, held);
        counted = omega arith;
        summed = omega arith;
      }

  left_by : (b : Bool) → (u.holds == 0) ≡ b → IsLeft (if b then without_node inode mid else changed_node inode (marked u) mid)
  left_by true same = left_cut (is_zero u.holds same)
  left_by false same = left_marked (above_zero u.holds same)
    where
      above_zero : (n : ℕ) → (n == 0) ≡ false → 0 < n
      above_zero zero same = absurd (let f : ⊥ = cc in f)
      above_zero (suc n) same = omega arith

  gone_is : with_unlinked at name inode nodes ≡ (if u.holds == 0 then without_node inode mid else changed_node inode (marked u) mid)
  unfolding with_unlinked
  gone_is = ap (gone inode) mid_is ∙ ap (λ (o : Option Node). if holds_by o == 0 then without_node inode mid else marked_by inode o mid) mid_target

  pub left : IsLeft (with_unlinked at name inode nodes)
  left = subst IsLeft (sym gone_is) (left_by (u.holds == 0) refl)

  -- the root is no child
  pub not_root : 1 ≢ inode
  not_root same =
      let l = low in
      let r = is.tree.root in
      let p = (is.tree.placed at name inode is_child).below r.directory (ap (places nodes) (sym same) ∙ r.is) in
      let e : at ≡ 1 = sym p.0 ∙ r.parent in
      absurd (omega arith)

  entries_of : (b : Body) → entries_in (Some (place_of b)) ≡ names_of b
  entries_of (Bytes bytes) = refl
  entries_of (Names directory) = refl

  module _ (new : List (ℕ × Node)) (so : IsLeft new) where
    place_gone : places new inode ≡ None
    place_gone = elim so.taken [ inl none ↦ ap place_by none.0 | inr kept ↦ ap place_by kept.0 ]

    place_after : places new at ≡ Some (Dir (less_named name d))
    place_after = ap place_by so.here ∙ (ap (λ (b : Bool). linked_place b (without_name name v.body)) linked ∙ ap (λ (b : Body). Some (place_of (without_name name b))) body)

    place_target : places nodes inode ≡ Some (place_of u.body)
    place_target = ap place_by target ∙ ap (λ (b : Bool). linked_place b u.body) target_linked

    left_places : IsTree (places new)
    left_places =
        left_tree (places nodes) (places new) at inode name d is.tree place_at entry (ap entries_in place_target ∙ (entries_of u.body ∙ empty)) place_gone place_after
        (λ k a b. ap place_by (so.others k a b)) not_root

    left_unused : (k : ℕ) → next ≤ k → node_in new k ≡ None
    left_unused k high =
        so.others k (λ same. none_some (node_in nodes inode) u (ap (node_in nodes) (sym same) ∙ is.unused k high) target)
        (λ same. none_some (node_in nodes at) v (ap (node_in nodes) (sym same) ∙ is.unused k high) found) ∙ is.unused k high

    left_kept : (k : ℕ) (n : Node) → node_in new k ≡ Some n → n.linked ≡ false → IsKept n
    left_kept k n has lost =
        elim (cases_eq k inode) [
          | inl same ↦ elim so.taken [
            | inl none ↦ absurd (none_some (node_in new k) n (ap (node_in new) same ∙ none.0) has)
            | inr kept ↦ subst IsKept (node_same (marked u) n (node_in new inode) kept.0 (ap (node_in new) (sym same) ∙ has)) (record { held = kept.1; empty = empty })
          ]
          | inr apart ↦ elim (cases_eq k at) [
            | inl same ↦
                let e : after ≡ n = node_same after n (node_in new at) so.here (ap (node_in new) (sym same) ∙ has) in
                let both : true ≡ false = sym linked ∙ (ap (λ (x : Node). x.linked) e ∙ lost) in
                absurd (let f : ⊥ = cc in f)
            | inr away ↦ is.kept k n (sym (so.others k apart away) ∙ has) lost
          ]
        ]

    left_small : (k : ℕ) → length (file_bytes new k) ≤ 16777216
    left_small k =
        elim (cases_eq k inode) [
          | inl same ↦ elim so.taken [
            | inl none ↦ subst (λ (o : Option Node). length (bytes_by o) ≤ 16777216) (sym (ap (node_in new) same ∙ none.0)) (omega arith)
            | inr kept ↦ subst (λ (o : Option Node). length (bytes_by o) ≤ 16777216) (sym (ap (node_in new) same ∙ kept.0)) (subst (λ (o : Option Node). length (bytes_by o) ≤ 16777216) target (is.small inode))
          ]
          | inr apart ↦ elim (cases_eq k at) [
            | inl same ↦ subst (λ (bytes : List ℕ). length bytes ≤ 16777216) (sym (ap (file_bytes new) same ∙ (ap bytes_by so.here ∙ ap (λ (b : Body). bytes_of (without_name name b)) body))) (omega arith)
            | inr away ↦ subst (λ (o : Option Node). length (bytes_by o) ≤ 16777216) (sym (so.others k apart away)) (is.small k)
          ]
        ]

    pub left_whole : IsWhole new next (count - 1) (bytes - length (bytes_of u.body))
    left_whole =
        let c = so.counted in
        let b = so.summed in
        let counted = is.counted in
        let summed = is.summed in
        let few = is.few in
        let within = is.within in
        record {
          sorted = so.sorted;
          unused = left_unused;
          tree = left_places;
          kept = left_kept;
          small = left_small;
          counted = omega arith;
          few = omega arith;
          summed = omega arith;
          within = omega arith;
        }

    -- what is taken from the sums is in them
    pub enough : (1 ≤ count) × (length (bytes_of u.body) ≤ bytes)
    enough =
        let c = so.counted in
        let b = so.summed in
        let counted = is.counted in
        let summed = is.summed in
        (omega arith, omega arith)

    -- what doesn't tell a directory with one name less apart
    pub left_by_other : {X : Type 0} (f : Option Node → X) → f (Some (node_without name v)) ≡ f (Some v) → (k : ℕ) → k ≢ inode → f (node_in new k) ≡ f (node_in nodes k)
    left_by_other f same k apart =
        elim (cases_eq k at) [
          | inl eq ↦ ap (λ (x : ℕ). f (node_in new x)) eq ∙ (ap f so.here ∙ (same ∙ (ap f (sym found) ∙ sym (ap (λ (x : ℕ). f (node_in nodes x)) eq))))
          | inr away ↦ ap f (so.others k apart away)
        ]

    pub left_target : ((node_in new inode ≡ None) × (u.holds ≡ 0)) ⊎ ((node_in new inode ≡ Some (marked u)) × (0 < u.holds))
    left_target = so.taken

    pub left_here : node_in new at ≡ Some (node_without name v)
    left_here = so.here

    pub left_other : (k : ℕ) → k ≢ inode → k ≢ at → node_in new k ≡ node_in nodes k
    left_other = so.others

  pub parts_apart : at ≡ inode → ⊥
  parts_apart = at_apart
