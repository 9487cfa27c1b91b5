-- Look-ups of inodes after a change, and what is kept where a node is changed in place.
use Rattle.std.proofs.Common.{◌≡◌, ℕ, ◌+◌, ◌≤◌, Bool, false, cond, if◌then◌else◌, List, length, Option, Some, None, inl, inr, sym, ap, subst, ◌∙◌, arith}
use Rattle.std.specs.Prelude.{sum_by, unwrap_or}
use Rattle.std.specs.Option.{option_map}
use Rattle.std.specs.Ordering.{nat_cmp}
use Rattle.std.specs.Map.{keys_of, values_of}
use Rattle.std.specs.BTreeMap.{is_at}
use Rattle.std.specs.List.Sorted.{IsStrictlySortedBy}
use Rattle.std.proofs.lemmas.Cmp.{nat_cmp_total}
use Rattle.std.proofs.lemmas.Bool.{cases_eq}
use Rattle.std.proofs.lemmas.Map.{keys-set_value}
use Rattle.std.proofs.lemmas.Map.Entries.{sum_by-set_value, sum_by-insert_entry, sum_by-remove_entry}
use mathlib.Core.Path.{fun_ext}
use Rattle.file_tree.specs.declared.node.Node.{Node}
use Rattle.file_tree.specs.Nodes.{node_in, with_node, changed_node, without_node, bytes_of, bytes_by, file_bytes, weight, tree_bytes, one_linked, tree_count}
use Rattle.file_tree.specs.Whole.{Place, place_by, places, IsTree, IsKept, IsWhole}
use Rattle.file_tree.proofs.LookFacts.{lookup-insert_entry, lookup-set, lookup-removed, sorted-insert, sorted-remove, self_number, other_number}
use Rattle.file_tree.proofs.TreeFacts.{is_some_from, none_some}

pub set_here : (nodes : List (ℕ × Node)) (i : ℕ) (v w : Node) → node_in nodes i ≡ Some v → node_in (changed_node i w nodes) i ≡ Some w
set_here nodes i v w found = lookup-set nat_cmp_total i i w nodes (is_some_from (node_in nodes i) v found) ∙ ap (λ (b : Bool). cond b (Some w) (node_in nodes i)) (self_number i)

pub set_there : (nodes : List (ℕ × Node)) (i q : ℕ) (v w : Node) → node_in nodes i ≡ Some v → (i ≡ q → ⊥) → node_in (changed_node i w nodes) q ≡ node_in nodes q
set_there nodes i q v w found apart = lookup-set nat_cmp_total i q w nodes (is_some_from (node_in nodes i) v found) ∙ ap (λ (b : Bool). cond b (Some w) (node_in nodes q)) (other_number i q apart)

pub put_here : (nodes : List (ℕ × Node)) (i : ℕ) (w : Node) → node_in (with_node i w nodes) i ≡ Some w
put_here nodes i w = lookup-insert_entry nat_cmp_total i i w nodes ∙ ap (λ (b : Bool). cond b (Some w) (node_in nodes i)) (self_number i)

pub put_there : (nodes : List (ℕ × Node)) (i q : ℕ) (w : Node) → (q ≡ i → ⊥) → node_in (with_node i w nodes) q ≡ node_in nodes q
put_there nodes i q w apart = lookup-insert_entry nat_cmp_total i q w nodes ∙ ap (λ (b : Bool). cond b (Some w) (node_in nodes q)) (other_number q i apart)

pub cut_here : (nodes : List (ℕ × Node)) (i : ℕ) → IsStrictlySortedBy nat_cmp (keys_of nodes) → node_in (without_node i nodes) i ≡ None
cut_here nodes i sorted = lookup-removed nat_cmp_total i i nodes sorted ∙ ap (λ (b : Bool). cond b None (node_in nodes i)) (self_number i)

pub cut_there : (nodes : List (ℕ × Node)) (i q : ℕ) → IsStrictlySortedBy nat_cmp (keys_of nodes) → (i ≡ q → ⊥) → node_in (without_node i nodes) q ≡ node_in nodes q
cut_there nodes i q sorted apart = lookup-removed nat_cmp_total i q nodes sorted ∙ ap (λ (b : Bool). cond b None (node_in nodes q)) (other_number i q apart)

pub sorted_set : (nodes : List (ℕ × Node)) (i : ℕ) (w : Node) → IsStrictlySortedBy nat_cmp (keys_of nodes) → IsStrictlySortedBy nat_cmp (keys_of (changed_node i w nodes))
sorted_set nodes i w sorted = rw (keys-set_value (is_at (nat_cmp i)) nodes w) sorted

pub sorted_put : (nodes : List (ℕ × Node)) (i : ℕ) (w : Node) → IsStrictlySortedBy nat_cmp (keys_of nodes) → IsStrictlySortedBy nat_cmp (keys_of (with_node i w nodes))
sorted_put nodes i w sorted = sorted-insert nat_cmp_total i w nodes sorted

pub sorted_cut : (nodes : List (ℕ × Node)) (i : ℕ) → IsStrictlySortedBy nat_cmp (keys_of nodes) → IsStrictlySortedBy nat_cmp (keys_of (without_node i nodes))
sorted_cut nodes i sorted = sorted-remove nat_cmp_total (is_at (nat_cmp i)) nodes sorted

-- a sum over the nodes
module _ (f : Node → ℕ) where
  pub sum_set : (nodes : List (ℕ × Node)) (i : ℕ) (v w : Node) → node_in nodes i ≡ Some v → sum_by f (values_of (changed_node i w nodes)) + f v ≡ sum_by f (values_of nodes) + f w
  sum_set nodes i v w found = sum_by-set_value f (is_at (nat_cmp i)) nodes v w found

  pub sum_put : (nodes : List (ℕ × Node)) (i : ℕ) (w : Node) → IsStrictlySortedBy nat_cmp (keys_of nodes) → node_in nodes i ≡ None → sum_by f (values_of (with_node i w nodes)) ≡ sum_by f (values_of nodes) + f w
  sum_put nodes i w sorted none =
      let t = sum_by-insert_entry f nat_cmp_total nodes i w sorted in
      let z : unwrap_or (option_map f (node_in nodes i)) 0 ≡ 0 = ap (λ (o : Option Node). unwrap_or (option_map f o) 0) none in
      omega arith

  pub sum_cut : (nodes : List (ℕ × Node)) (i : ℕ) (v : Node) → node_in nodes i ≡ Some v → sum_by f (values_of (without_node i nodes)) + f v ≡ sum_by f (values_of nodes)
  sum_cut nodes i v found =
      let t = sum_by-remove_entry f (is_at (nat_cmp i)) nodes in
      let z : unwrap_or (option_map f (node_in nodes i)) 0 ≡ f v = ap (λ (o : Option Node). unwrap_or (option_map f o) 0) found in
      omega arith

pub bytes_set : (nodes : List (ℕ × Node)) (i : ℕ) (v w : Node) → node_in nodes i ≡ Some v → tree_bytes (changed_node i w nodes) + weight v ≡ tree_bytes nodes + weight w
unfolding tree_bytes
bytes_set nodes i v w found = sum_set weight nodes i v w found

pub bytes_put : (nodes : List (ℕ × Node)) (i : ℕ) (w : Node) → IsStrictlySortedBy nat_cmp (keys_of nodes) → node_in nodes i ≡ None → tree_bytes (with_node i w nodes) ≡ tree_bytes nodes + weight w
unfolding tree_bytes
bytes_put nodes i w sorted none = sum_put weight nodes i w sorted none

pub bytes_cut : (nodes : List (ℕ × Node)) (i : ℕ) (v : Node) → node_in nodes i ≡ Some v → tree_bytes (without_node i nodes) + weight v ≡ tree_bytes nodes
unfolding tree_bytes
bytes_cut nodes i v found = sum_cut weight nodes i v found

pub count_set : (nodes : List (ℕ × Node)) (i : ℕ) (v w : Node) → node_in nodes i ≡ Some v → tree_count (changed_node i w nodes) + one_linked v ≡ tree_count nodes + one_linked w
unfolding tree_count
count_set nodes i v w found = sum_set one_linked nodes i v w found

pub count_put : (nodes : List (ℕ × Node)) (i : ℕ) (w : Node) → IsStrictlySortedBy nat_cmp (keys_of nodes) → node_in nodes i ≡ None → tree_count (with_node i w nodes) ≡ tree_count nodes + one_linked w
unfolding tree_count
count_put nodes i w sorted none = sum_put one_linked nodes i w sorted none

pub count_cut : (nodes : List (ℕ × Node)) (i : ℕ) (v : Node) → node_in nodes i ≡ Some v → tree_count (without_node i nodes) + one_linked v ≡ tree_count nodes
unfolding tree_count
count_cut nodes i v found = sum_cut one_linked nodes i v found

pub node_same : (a b : Node) (o : Option Node) → o ≡ Some a → o ≡ Some b → a ≡ b
node_same a b o one two = cc

-- what doesn't tell two nodes apart is as before where one takes the other's place
pub set_by : {X : Type 0} (f : Option Node → X) (nodes : List (ℕ × Node)) (i : ℕ) (v w : Node) → node_in nodes i ≡ Some v → f (Some w) ≡ f (Some v) → (k : ℕ) → f (node_in (changed_node i w nodes) k) ≡ f (node_in nodes k)
set_by f nodes i v w found same k =
    elim (cases_eq i k) [
      | inl eq ↦ ap (λ (x : ℕ). f (node_in (changed_node i w nodes) x)) (sym eq) ∙ (ap f (set_here nodes i v w found) ∙ (same ∙ (ap f (sym found) ∙ ap (λ (x : ℕ). f (node_in nodes x)) eq)))
      | inr apart ↦ ap f (set_there nodes i k v w found apart)
    ]

-- equal places are one tree
pub same_tree : (f g : ℕ → Option Place) → ((k : ℕ) → g k ≡ f k) → IsTree f → IsTree g
same_tree f g same is = subst IsTree (sym (fun_ext same)) is

-- ---- a node is changed in place, and stays linked as it was, with the same names

module _ (nodes : List (ℕ × Node)) (next count bytes total i : ℕ) (v w : Node) (is : IsWhole nodes next count bytes) (found : node_in nodes i ≡ Some v)
    (place : place_by (Some w) ≡ place_by (Some v)) (linked : w.linked ≡ v.linked) (keeps : w.linked ≡ false → IsKept w)
    (small : length (bytes_of w.body) ≤ 16777216) (sum : total + weight v ≡ bytes + weight w) (within : total ≤ 268435456) where
  changed_places : (k : ℕ) → places (changed_node i w nodes) k ≡ places nodes k
  changed_places k =
      elim (cases_eq i k) [
        | inl same ↦ ap place_by (sym (ap (λ (x : ℕ). node_in (changed_node i w nodes) x) same) ∙ set_here nodes i v w found) ∙ (place ∙ ap place_by (sym found ∙ ap (node_in nodes) same))
        | inr apart ↦ ap place_by (set_there nodes i k v w found apart)
      ]

  changed_unused : (k : ℕ) → next ≤ k → node_in (changed_node i w nodes) k ≡ None
  changed_unused k high =
      elim (cases_eq i k) [
        | inl same ↦ absurd (none_some (node_in nodes i) v (ap (node_in nodes) same ∙ is.unused k high) found)
        | inr apart ↦ set_there nodes i k v w found apart ∙ is.unused k high
      ]

  changed_kept : (k : ℕ) (node : Node) → node_in (changed_node i w nodes) k ≡ Some node → node.linked ≡ false → IsKept node
  changed_kept k node here lost =
      elim (cases_eq i k) [
        | inl same ↦
            let e : w ≡ node = node_same w node (node_in (changed_node i w nodes) i) (set_here nodes i v w found) (ap (λ (x : ℕ). node_in (changed_node i w nodes) x) same ∙ here) in
            subst IsKept e (keeps (ap (λ (x : Node). x.linked) e ∙ lost))
        | inr apart ↦ is.kept k node (sym (set_there nodes i k v w found apart) ∙ here) lost
      ]

  changed_small : (k : ℕ) → length (file_bytes (changed_node i w nodes) k) ≤ 16777216
  changed_small k =
      elim (cases_eq i k) [
        | inl same ↦ subst (λ (o : Option Node). length (bytes_by o) ≤ 16777216) (sym (sym (ap (λ (x : ℕ). node_in (changed_node i w nodes) x) same) ∙ set_here nodes i v w found)) small
        | inr apart ↦ subst (λ (o : Option Node). length (bytes_by o) ≤ 16777216) (sym (set_there nodes i k v w found apart)) (is.small k)
      ]

  pub changed_whole : IsWhole (changed_node i w nodes) next count total
  changed_whole =
      let one : one_linked w ≡ one_linked v = ap (λ (b : Bool). if b then 1 else 0) linked in
      let c = count_set nodes i v w found in
      let b = bytes_set nodes i v w found in
      let old = is.summed in
      let of = is.counted in
      record {
        sorted = sorted_set nodes i w is.sorted;
        unused = changed_unused;
        tree = same_tree (places nodes) (places (changed_node i w nodes)) changed_places is.tree;
        kept = changed_kept;
        small = changed_small;
        counted = omega arith;
        few = is.few;
        summed = omega arith;
        within = within;
      }
