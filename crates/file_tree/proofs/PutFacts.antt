-- What is kept where a file or a directory is put in.
use Rattle.std.proofs.Common.{◌≡◌, ℕ, ◌+◌, true, false, List, [], refl, ap, subst, ◌∙◌}
use Rattle.file_tree.specs.declared.node.Node.{Node}
use Rattle.file_tree.specs.declared.kind.Kind.{Kind}
use Rattle.file_tree.specs.declared.kind.Kind.TheVariants.{File, Dir}
use Rattle.file_tree.specs.Nodes.{Tree, node_in, path_by, path_of, bytes_of, kind_of}
use Rattle.file_tree.specs.Walk.{Spot}
use Rattle.file_tree.specs.Making.{path_below, new_node, with_made}
use Rattle.file_tree.specs.Ready.{has_slash, IsMakeable}
use Rattle.file_tree.specs.Whole.{place_of, IsWhole}
use Rattle.file_tree.proofs.TreeFacts.{IsNew}
use Rattle.file_tree.proofs.MadeFacts.{made_whole}

path_is : (nodes : List (ℕ × Node)) (at : ℕ) (name : List ℕ) → (can : IsMakeable nodes at name) → path_by (node_in nodes at) ≡ can.directory.path
path_is nodes at name can = ap path_by can.found ∙ ap path_of can.body

pub is_new : (nodes : List (ℕ × Node)) (at : ℕ) (name : List ℕ) (kind : Kind) → (can : IsMakeable nodes at name) → IsNew at (path_below can.directory.path name) (place_of (new_node kind (record { at = at; name = name }) nodes).body)
is_new nodes at name File can = tt
is_new nodes at name Dir can = (refl, ap (λ (path : ℕ). path_below path name) (path_is nodes at name can), refl)

pub is_linked : (nodes : List (ℕ × Node)) (spot : Spot) (kind : Kind) → (new_node kind spot nodes).linked ≡ true
is_linked nodes spot File = refl
is_linked nodes spot Dir = refl

pub is_light : (nodes : List (ℕ × Node)) (spot : Spot) (kind : Kind) → bytes_of (new_node kind spot nodes).body ≡ []
is_light nodes spot File = refl
is_light nodes spot Dir = refl

pub is_free : (nodes : List (ℕ × Node)) (spot : Spot) (kind : Kind) → (new_node kind spot nodes).holds ≡ 0
is_free nodes spot File = refl
is_free nodes spot Dir = refl

pub has_kind : (nodes : List (ℕ × Node)) (spot : Spot) (kind : Kind) → kind_of (new_node kind spot nodes).body ≡ kind
has_kind nodes spot File = refl
has_kind nodes spot Dir = refl

pub put_from : (nodes : List (ℕ × Node)) (next count bytes at : ℕ) (name : List ℕ) (kind : Kind) → IsWhole nodes next count bytes → IsMakeable nodes at name → has_slash name ≡ false
    → IsWhole (with_made at name next (new_node kind (record { at = at; name = name }) nodes) nodes) (next + 1) (count + 1) bytes
put_from nodes next count bytes at name kind is can plain =
    let spot : Spot = record { at = at; name = name } in
    made_whole nodes next count bytes at name (new_node kind spot nodes) is can plain (is_linked nodes spot kind) (is_new nodes at name kind can) (is_light nodes spot kind)

pub put_whole : (tree : Tree) (nodes : List (ℕ × Node)) (next count bytes at : ℕ) (name : List ℕ) (kind : Kind) → record { nodes = nodes; next = next } ≡ tree → IsWhole nodes next count bytes
    → IsMakeable tree.nodes at name → has_slash name ≡ false → IsWhole (with_made at name next (new_node kind (record { at = at; name = name }) tree.nodes) nodes) (next + 1) (count + 1) bytes
put_whole tree nodes next count bytes at name kind view is =
    subst (λ (t : Tree). IsMakeable t.nodes at name → has_slash name ≡ false → IsWhole (with_made at name next (new_node kind (record { at = at; name = name }) t.nodes) nodes) (next + 1) (count + 1) bytes) view
    (put_from nodes next count bytes at name kind is)
