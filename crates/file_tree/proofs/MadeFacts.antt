-- What is kept where an entry is made.
use Rattle.std.proofs.Common.{◌≡◌, ◌≢◌, ℕ, ◌+◌, ◌<◌, ◌≤◌, ◌==◌, ◌&&◌, nat_lt, Bool, true, false, not, if◌then◌else◌, List, [], length, Option, Some, None, is_some, inl, inr, refl, sym, ap, subst, ◌∙◌, arith}
use Rattle.std.specs.List.{list_any}
use Rattle.std.specs.Str.{is_utf8}
use Rattle.std.proofs.lemmas.Bool.{cases_eq, cases_lt}
use Rattle.file_tree.specs.declared.errno.Errno.{Errno}
use Rattle.file_tree.specs.declared.node.Node.{Node}
use Rattle.file_tree.specs.declared.node.Body.{Body}
use Rattle.file_tree.specs.declared.node.Body.TheVariants.{Bytes, Names}
use Rattle.file_tree.specs.Entries.{entry_named}
use Rattle.file_tree.specs.Paths.{is_dots}
use Rattle.file_tree.specs.Nodes.{node_in, with_node, changed_node, bytes_of, bytes_by, file_bytes, weight, tree_bytes, one_linked, tree_count, path_by, path_of}
use Rattle.file_tree.specs.Making.{is_own, is_itself, path_below, refused_in, refused_at, make_refused, with_name, node_with, named_by, with_made}
use Rattle.file_tree.specs.Ready.{IsMakeable}
use Rattle.file_tree.specs.Whole.{Dir, place_of, linked_place, place_by, places, IsTree, IsKept, IsWhole}
use Rattle.file_tree.proofs.TreeFacts.{none_some, IsNew, made_tree, more_named}
use Rattle.file_tree.proofs.NodeFacts.{set_here, set_there, put_here, put_there, sorted_set, sorted_put, bytes_set, bytes_put, count_set, count_put, node_same}

passes : (b : Bool) (errno : Errno) (rest : Option Errno) → (if b then Some errno else rest) ≡ None → (b ≡ false) × (rest ≡ None)
passes true errno rest none = absurd (let f : ⊥ = cc in f)
passes false errno rest none = (refl, none)

not_false : (b : Bool) → not b ≡ false → b ≡ true
not_false true same = refl
not_false false same = absurd (let f : ⊥ = cc in f)

absent_from : {X : Type 0} (x : Option X) → is_some x ≡ false → x ≡ None
absent_from None same = refl
absent_from (Some v) same = absurd (let f : ⊥ = cc in f)

free_from : (at : ℕ) (own : Bool) → (at == 1) && own ≡ false → at ≡ 1 → own ≡ false
free_from at own none root = sym (ap (λ (x : ℕ). (x == 1) && own) root) ∙ none

low_from : (a b : ℕ) → nat_lt a b ≡ false → b ≤ a
low_from a b none = grind arith

none_by_body : (nodes : List (ℕ × Node)) (at : ℕ) (name : List ℕ) (ends : Bool) (node : Node) (body : Body) → node_in nodes at ≡ Some node → node.body ≡ body
    → length name ≤ 255 → refused_in at node.linked body name ends (tree_count nodes) ≡ None → IsMakeable nodes at name
none_by_body nodes at name ends node (Bytes bytes) found same short none = absurd (let f : ⊥ = cc in f)
none_by_body nodes at name ends node (Names d) found same short none =
    let a = passes (is_itself name) _ _ none in
    let b = passes (not node.linked) _ _ a.1 in
    let e = passes (is_dots name) _ _ b.1 in
    let f = passes (not (is_utf8 name)) _ _ e.1 in
    let g = passes ((at == 1) && is_own name) _ _ f.1 in
    let h = passes (is_some (entry_named name d.names)) _ _ g.1 in
    let i = passes ends _ _ h.1 in
    let j = passes (nat_lt 4095 (path_below d.path name)) _ _ i.1 in
    let k = passes (nat_lt 4096 (tree_count nodes)) _ _ j.1 in
    record {
      node = node;
      directory = d;
      found = found;
      linked = not_false node.linked b.0;
      body = same;
      utf8 = not_false (is_utf8 name) f.0;
      short = short;
      other = a.0;
      not_dots = e.0;
      free = free_from at (is_own name) g.0;
      absent = absent_from (entry_named name d.names) h.0;
      path = low_from 4095 (path_below d.path name) j.0;
      few = low_from 4096 (tree_count nodes) k.0;
    }

none_by_node : (nodes : List (ℕ × Node)) (at : ℕ) (name : List ℕ) (ends : Bool) (node : Option Node) → node_in nodes at ≡ node → length name ≤ 255
    → refused_at at node name ends (tree_count nodes) ≡ None → IsMakeable nodes at name
none_by_node nodes at name ends None found short none = absurd (let f : ⊥ = cc in f)
none_by_node nodes at name ends (Some node) found short none = none_by_body nodes at name ends node node.body found refl short none

pub makeable : (nodes : List (ℕ × Node)) (at : ℕ) (name : List ℕ) (ends : Bool) → make_refused nodes at name ends ≡ None → IsMakeable nodes at name
unfolding make_refused
makeable nodes at name ends none =
    let a = passes (nat_lt 255 (length name)) _ _ none in
    none_by_node nodes at name ends (node_in nodes at) refl (low_from 255 (length name) a.0) a.1

ends_by_body : (ends : Bool) (at count : ℕ) (name : List ℕ) (linked : Bool) (body : Body) → refused_in at linked body name ends count ≡ None → ends ≡ false
ends_by_body ends at count name linked (Bytes bytes) none = absurd (let f : ⊥ = cc in f)
ends_by_body ends at count name linked (Names d) none =
    let a = passes (is_itself name) _ _ none in
    let b = passes (not linked) _ _ a.1 in
    let e = passes (is_dots name) _ _ b.1 in
    let f = passes (not (is_utf8 name)) _ _ e.1 in
    let g = passes ((at == 1) && is_own name) _ _ f.1 in
    let h = passes (is_some (entry_named name d.names)) _ _ g.1 in
    (passes ends _ _ h.1).0

ends_by_node : (ends : Bool) (at count : ℕ) (name : List ℕ) (node : Option Node) → refused_at at node name ends count ≡ None → ends ≡ false
ends_by_node ends at count name None none = absurd (let f : ⊥ = cc in f)
ends_by_node ends at count name (Some node) none = ends_by_body ends at count name node.linked node.body none

-- what is made has no path that may not end in a slash
pub not_ends : (nodes : List (ℕ × Node)) (at : ℕ) (name : List ℕ) (ends : Bool) → make_refused nodes at name ends ≡ None → ends ≡ false
unfolding make_refused
not_ends nodes at name ends none = ends_by_node ends at (tree_count nodes) name (node_in nodes at) (passes (nat_lt 255 (length name)) _ _ none).1

-- the path of what is made is short
pub makeable_path : (nodes : List (ℕ × Node)) (at : ℕ) (name : List ℕ) → IsMakeable nodes at name → path_below (path_by (node_in nodes at)) name ≤ 4095
makeable_path nodes at name can =
    let e : path_by (node_in nodes at) ≡ can.directory.path = ap path_by can.found ∙ ap path_of can.body in
    rw e can.path

-- ---- the new nodes

module _ (nodes : List (ℕ × Node)) (next count bytes at : ℕ) (name : List ℕ) (node : Node) (is : IsWhole nodes next count bytes) (can : IsMakeable nodes at name)
    (plain : list_any (λ byte. byte == 47) name ≡ false) (linked : node.linked ≡ true) (fresh : IsNew at (path_below can.directory.path name) (place_of node.body))
    (light : bytes_of node.body ≡ []) where
  abbrev mid : List (ℕ × Node)
  mid = with_node next node nodes

  abbrev after : Node
  after = node_with name next can.node

  abbrev grown : List (ℕ × Node)
  grown = changed_node at after mid

  next_free : node_in nodes next ≡ None
  next_free = is.unused next (omega arith)

  at_apart : at ≢ next
  at_apart same = absurd (none_some (node_in nodes at) can.node (ap (node_in nodes) same ∙ next_free) can.found)

  mid_at : node_in mid at ≡ Some can.node
  mid_at = put_there nodes next at node at_apart ∙ can.found

  pub made_is : with_made at name next node nodes ≡ grown
  unfolding with_made
  made_is = ap (λ (o : Option Node). named_by at name next o mid) mid_at

  new_at : node_in grown at ≡ Some after
  new_at = set_here mid at can.node after mid_at

  new_next : node_in grown next ≡ Some node
  new_next = set_there mid at next can.node after mid_at at_apart ∙ put_here nodes next node

  new_other : (k : ℕ) → k ≢ next → k ≢ at → node_in grown k ≡ node_in nodes k
  new_other k not_next not_at = set_there mid at k can.node after mid_at (λ same. not_at (sym same)) ∙ put_there nodes next k node not_next

  place_at : places nodes at ≡ Some (Dir can.directory)
  place_at = ap place_by can.found ∙ (ap (λ (b : Bool). linked_place b can.node.body) can.linked ∙ ap (λ (b : Body). Some (place_of b)) can.body)

  place_after : places grown at ≡ Some (Dir (more_named name next can.directory))
  place_after = ap place_by new_at ∙ (ap (λ (b : Bool). linked_place b (with_name name next can.node.body)) can.linked ∙ ap (λ (b : Body). Some (place_of (with_name name next b))) can.body)

  place_next : places grown next ≡ Some (place_of node.body)
  place_next = ap place_by new_next ∙ ap (λ (b : Bool). linked_place b node.body) linked

  made_places : IsTree (places grown)
  made_places =
      made_tree (places nodes) (places grown) at next name can.directory (place_of node.body) is.tree place_at can.absent (λ k high. ap place_by (is.unused k high))
      (record { utf8 = can.utf8; short = can.short; plain = plain; other = can.other; not_dots = can.not_dots; free = can.free }) can.path fresh place_next place_after
      (λ k a b. ap place_by (new_other k a b))

  at_low : at < next
  at_low = elim (cases_lt at next) [ inl low ↦ low | inr high ↦ absurd (none_some (node_in nodes at) can.node (is.unused at high) can.found) ]

  made_unused : (k : ℕ) → next + 1 ≤ k → node_in grown k ≡ None
  made_unused k high =
      let low = at_low in
      new_other k (λ same. absurd (omega arith)) (λ same. absurd (omega arith)) ∙ is.unused k (omega arith)

  made_kept : (k : ℕ) (n : Node) → node_in grown k ≡ Some n → n.linked ≡ false → IsKept n
  made_kept k n here lost =
      elim (cases_eq k next) [
        | inl same ↦
            let e : node ≡ n = node_same node n (node_in grown next) new_next (ap (node_in grown) (sym same) ∙ here) in
            let both : true ≡ false = sym linked ∙ (ap (λ (x : Node). x.linked) e ∙ lost) in
            absurd (let f : ⊥ = cc in f)
        | inr apart ↦ elim (cases_eq k at) [
          | inl same ↦
              let e : after ≡ n = node_same after n (node_in grown at) new_at (ap (node_in grown) (sym same) ∙ here) in
              let both : true ≡ false = sym can.linked ∙ (ap (λ (x : Node). x.linked) e ∙ lost) in
              absurd (let f : ⊥ = cc in f)
          | inr away ↦ is.kept k n (sym (new_other k apart away) ∙ here) lost
        ]
      ]

  made_small : (k : ℕ) → length (file_bytes grown k) ≤ 16777216
  made_small k =
      elim (cases_eq k next) [
        | inl same ↦ subst (λ (bytes : List ℕ). length bytes ≤ 16777216) (sym (ap (file_bytes grown) same ∙ (ap bytes_by new_next ∙ light))) (omega arith)
        | inr apart ↦ elim (cases_eq k at) [
          | inl same ↦ subst (λ (bytes : List ℕ). length bytes ≤ 16777216) (sym (ap (file_bytes grown) same ∙ (ap bytes_by new_at ∙ ap (λ (b : Body). bytes_of (with_name name next b)) can.body))) (omega arith)
          | inr away ↦ subst (λ (o : Option Node). length (bytes_by o) ≤ 16777216) (sym (new_other k apart away)) (is.small k)
        ]
      ]

  made_count : tree_count grown ≡ tree_count nodes + 1
  made_count =
      let a = count_put nodes next node is.sorted next_free in
      let b = count_set mid at can.node after mid_at in
      let one : one_linked node ≡ 1 = ap (λ (b : Bool). if b then 1 else 0) linked in
      omega arith

  made_bytes : tree_bytes grown ≡ tree_bytes nodes
  made_bytes =
      let a = bytes_put nodes next node is.sorted next_free in
      let b = bytes_set mid at can.node after mid_at in
      let zero : weight node ≡ 0 = ap (λ (b : Bool). if b then length (bytes_of node.body) else 0) linked ∙ ap (λ (bytes : List ℕ). length bytes) light in
      let same : weight after ≡ weight can.node = ap (λ (bytes : List ℕ). if can.node.linked then length bytes else 0) (ap (λ (b : Body). bytes_of (with_name name next b)) can.body ∙ sym (ap bytes_of can.body)) in
      omega arith

  pub made_whole : IsWhole (with_made at name next node nodes) (next + 1) (count + 1) bytes
  made_whole =
      let c = made_count in
      let b = made_bytes in
      let counted = is.counted in
      let summed = is.summed in
      let few = can.few in
      subst (λ (nodes : List (ℕ × Node)). IsWhole nodes (next + 1) (count + 1) bytes) (sym made_is) (record {
        sorted = sorted_set mid at after (sorted_put nodes next node is.sorted);
        unused = made_unused;
        tree = made_places;
        kept = made_kept;
        small = made_small;
        counted = omega arith;
        few = omega arith;
        summed = omega arith;
        within = is.within;
      })

  pub made_next : node_in (with_made at name next node nodes) next ≡ Some node
  made_next = ap (λ (n : List (ℕ × Node)). node_in n next) made_is ∙ new_next

  pub made_at_is : node_in (with_made at name next node nodes) at ≡ Some (node_with name next can.node)
  made_at_is = ap (λ (n : List (ℕ × Node)). node_in n at) made_is ∙ new_at

  pub made_other : (k : ℕ) → k ≢ next → k ≢ at → node_in (with_made at name next node nodes) k ≡ node_in nodes k
  made_other k a b = ap (λ (n : List (ℕ × Node)). node_in n k) made_is ∙ new_other k a b

  pub is_free_next : node_in nodes next ≡ None
  is_free_next = next_free

  pub made_by : {X : Type 0} (f : Option Node → X) → f (Some (node_with name next can.node)) ≡ f (Some can.node) → (k : ℕ) → k ≢ next → f (node_in (with_made at name next node nodes) k) ≡ f (node_in nodes k)
  made_by f same k apart =
      elim (cases_eq k at) [
        | inl eq ↦ ap (λ (x : ℕ). f (node_in (with_made at name next node nodes) x)) eq ∙ (ap f made_at_is ∙ (same ∙ (ap f (sym can.found) ∙ sym (ap (λ (x : ℕ). f (node_in nodes x)) eq))))
        | inr away ↦ ap f (made_other k apart away)
      ]
