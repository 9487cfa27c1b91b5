-- A file whose bytes are changed through the node that was found.
use Rattle.std.proofs.Common.{◌≡◌, ℕ, List, Some, None, Result, Ok, Err, refl, sym, ap, ◌∙◌}
use Rattle.std.specs.Prelude.{OnOk, OnErr}
use Rattle.std.specs.Ordering.{nat_cmp}
use Rattle.std.specs.BTreeMap.{is_at}
use Rattle.std.proofs.lemmas.Map.Steps.{set_value_same}
use Rattle.file_tree.specs.declared.node.Node.{Node}
use Rattle.file_tree.specs.Nodes.{node_in, changed_node, file_bytes, bytes_of}
use Rattle.file_tree.specs.Files.{refilled, with_bytes}

pub put_bytes : (nodes new : List (ℕ × Node)) (inode : ℕ) (node now : Node) (f : List ℕ → List ℕ) → Some node ≡ node_in nodes inode
    → now ≡ refilled (f (bytes_of node.body)) node → new ≡ changed_node inode now nodes → new ≡ with_bytes inode (f (file_bytes nodes inode)) nodes
unfolding with_bytes
put_bytes nodes new inode node now f found same put = rw (put, ← found, same) refl

-- nothing was written through it
pub put_none : (nodes new : List (ℕ × Node)) (inode : ℕ) (node now : Node) → Some node ≡ node_in nodes inode
    → now ≡ node → new ≡ changed_node inode now nodes → new ≡ nodes
put_none nodes new inode node now found same put = put ∙ (ap (λ (n : Node). changed_node inode n nodes) same ∙ set_value_same (is_at (nat_cmp inode)) nodes node (sym found))

pub on_err : {A E : Type 0} (result : Result A E) (P Q : Type 0) → OnErr result P → (P → Q) → OnErr result Q
on_err (Ok value) P Q told go = tt
on_err (Err error) P Q told go = go told

pub on_ok : {A E : Type 0} (result : Result A E) (P Q : Type 0) → OnOk result P → (P → Q) → OnOk result Q
on_ok (Ok value) P Q told go = go told
on_ok (Err error) P Q told go = tt

pub put_absent : (nodes new : List (ℕ × Node)) (inode : ℕ) (f : List ℕ → List ℕ) → None ≡ node_in nodes inode → new ≡ nodes → new ≡ with_bytes inode (f (file_bytes nodes inode)) nodes
unfolding with_bytes
put_absent nodes new inode f none same = rw (← none) same
