-- A new node that is taken back.
use Rattle.std.proofs.Common.{◌≡◌, ℕ, true, cond, List, [], ◌∷◌, Option, Some, None, refl, sym, ap, ◌∙◌, Ordering, Less, Equal, Greater}
use Rattle.std.specs.Ordering.{nat_cmp, is_eq, match_ordering}
use Rattle.std.specs.Cmp.{nat_cmp_is}
use Rattle.std.specs.Map.{lookup, remove_entry}
use Rattle.std.specs.BTreeMap.{is_at, insert_entry}
use Rattle.file_tree.specs.declared.node.Node.{Node}
use Rattle.file_tree.specs.Nodes.{node_in, with_node, without_node, changed_node}
use Rattle.file_tree.specs.Making.{node_with, named_by, with_made}

self_eq : (n : ℕ) → is_eq (nat_cmp n n) ≡ true
self_eq n = ap is_eq (sym (nat_cmp_is n n Equal refl))

back_by : (o : Ordering) (inode : ℕ) (node : Node) (e : ℕ × Node) (es rest : List (ℕ × Node))
    → o ≡ nat_cmp inode e.0
    → cond (is_eq o) (Some e.1) (lookup (is_at (nat_cmp inode)) es) ≡ None
    → (lookup (is_at (nat_cmp inode)) es ≡ None → remove_entry (is_at (nat_cmp inode)) rest ≡ es)
    → remove_entry (is_at (nat_cmp inode)) (match_ordering o ((inode, node) ∷ e ∷ es) ((e.0, node) ∷ es) (e ∷ rest)) ≡ e ∷ es
back_by Less inode node e es rest same none go = rw (self_eq inode) refl
back_by Equal inode node e es rest same none go = absurd (let f : ⊥ = cc in f)
back_by Greater inode node e es rest same none go = rw (← same) (ap (λ (t : List (ℕ × Node)). e ∷ t) (go none))

-- a node that was put in and is taken out
pub taken_back : (inode : ℕ) (node : Node) (es : List (ℕ × Node)) → node_in es inode ≡ None → without_node inode (with_node inode node es) ≡ es
taken_back inode node [] none = rw (self_eq inode) refl
taken_back inode node (e ∷ es) none =
    back_by (nat_cmp inode e.0) inode node e es (insert_entry nat_cmp es inode node) refl none (taken_back inode node es)

pub made_put : (nodes mid new : List (ℕ × Node)) (at inode : ℕ) (name bytes : List ℕ) (node : Node) → mid ≡ with_node inode node nodes → name ≡ bytes
    → new ≡ named_by at name inode (node_in mid at) mid → new ≡ with_made at bytes inode node nodes
unfolding with_made
made_put nodes mid new at inode name bytes node same named put = put ∙ rw (same, named) refl

pub back_put : (nodes mid mid2 new : List (ℕ × Node)) (inode : ℕ) (node : Node) → node_in nodes inode ≡ None → mid ≡ with_node inode node nodes → mid2 ≡ mid
    → new ≡ without_node inode mid2 → new ≡ nodes
back_put nodes mid mid2 new inode node fresh same kept put = put ∙ (ap (without_node inode) (kept ∙ same) ∙ taken_back inode node nodes fresh)

pub link_put : (nodes new : List (ℕ × Node)) (at inode : ℕ) (name : List ℕ) (node now : Node) → Some node ≡ node_in nodes at
    → now ≡ node_with name inode node → new ≡ changed_node at now nodes → new ≡ named_by at name inode (node_in nodes at) nodes
link_put nodes new at inode name node now found same put =
    put ∙ (ap (λ (n : Node). changed_node at n nodes) same ∙ ap (λ (o : Option Node). named_by at name inode o nodes) found)
