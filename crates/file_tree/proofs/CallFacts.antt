-- What the calls of the tree rest on, with what their code has in hand.
use Rattle.std.proofs.Common.{◌≡◌, ◌≢◌, ℕ, suc, ◌+◌, ◌-◌, ◌<◌, ◌≤◌, ◌==◌, ◌^◌, nat_lt, max, Bool, true, false, cond, if◌then◌else◌, List, [], ◌∷◌, length, Option, Some, None, IsSome, Result, Ok, Err, refl, sym, ap, subst, ◌∙◌, arith, length-append, length-take, length-drop}
use Rattle.std.proofs.lemmas.List.{length-replicate}
use Rattle.std.specs.Prelude.{MatchResult, All, IsOk}
use Rattle.std.specs.Ordering.{nat_cmp, is_eq}
use Rattle.std.specs.Map.{keys_of}
use Rattle.std.specs.Cmp.Lexicographic.{slice_cmp}
use Rattle.std.specs.Str.{IsUtf8}
use Rattle.std.specs.List.Sorted.{IsStrictlySortedBy}
use Rattle.std.proofs.lemmas.Str.{IsUtf8-from_is_utf8}
use Rattle.std.proofs.lemmas.Cmp.{nat_list_cmp_total, eq_by_cmp_equiv}
use Rattle.std.proofs.lemmas.Map.Views.{All-keys_from_lookup}
use Rattle.std.proofs.lemmas.List.Elements.{All-nil}
use Rattle.file_tree.specs.declared.errno.Errno.{Errno}
use Rattle.file_tree.specs.declared.node.Node.{Node}
use Rattle.file_tree.specs.declared.node.Directory.{Directory}
use Rattle.file_tree.specs.declared.node.Body.{Body}
use Rattle.file_tree.specs.declared.node.Body.TheVariants.{Bytes, Names}
use Rattle.file_tree.specs.declared.kind.Kind.{Kind}
use Rattle.file_tree.specs.declared.kind.Kind.TheVariants as kinds
use Rattle.file_tree.specs.Entries.{Entries, entry_named}
use Rattle.file_tree.specs.Nodes.{Tree, node_in, new_tree, new_directory, bytes_of, bytes_by, file_bytes, names_of, weight, tree_bytes, tree_count, kind_of, kind_by, kind_in, linked_by}
use Rattle.file_tree.specs.Files.{resized, overwritten, with_bytes, too_many, filled_with, fitting, size_written, total_after}
use Rattle.file_tree.specs.Ready.{IsEntry, IsTakeable}
use Rattle.file_tree.specs.Unlinking.{with_unlinked}
use Rattle.file_tree.specs.Whole.{Place, Dir, linked_place, place_by, places, entries_in, child, IsTree, IsWhole}
use Rattle.file_tree.proofs.TreeFacts.{none_some}
use Rattle.file_tree.proofs.LookFacts.{other_number, sorted-nil}
use Rattle.file_tree.proofs.NodeFacts.{bytes_cut}
use Rattle.file_tree.proofs.GoneFacts.{left, left_whole, enough}
use Rattle.file_tree.proofs.FillFacts.{is_file, filled, filled_ok, filled_err}

pub kind_found : (tree : Tree) (nodes : List (ℕ × Node)) (next k : ℕ) (node : Node) (kind : Kind) → record { nodes = nodes; next = next } ≡ tree → Some node ≡ node_in nodes k → kind ≡ kind_of node.body → kind_in tree k ≡ Some kind
unfolding kind_in
kind_found tree nodes next k node kind view found same = rw (← view, ← found, same) refl

some_kind : (o : Option Node) (kind : Kind) → kind_by o ≡ Some kind → IsSome o
some_kind None kind same = absurd (let f : ⊥ = cc in f)
some_kind (Some node) kind same = refl

-- what has a kind is there
pub kind_there : (tree : Tree) (k : ℕ) (kind : Kind) → kind_in tree k ≡ Some kind → IsSome (node_in tree.nodes k)
unfolding kind_in
kind_there tree k kind same = some_kind (node_in tree.nodes k) kind same

-- ---- the names of a directory are texts

linked_utf8 : (nodes : List (ℕ × Node)) (next count bytes k : ℕ) (d : Directory) → IsWhole nodes next count bytes → places nodes k ≡ Some (Dir d) → All IsUtf8 (keys_of d.names)
linked_utf8 nodes next count bytes k d is here =
    All-keys_from_lookup (eq_by_cmp_equiv nat_list_cmp_total) IsUtf8 d.names (λ name some. by_name name (entry_named name d.names) refl some)
  where
    by_name : (name : List ℕ) (o : Option ℕ) → entry_named name d.names ≡ o → IsSome o → IsUtf8 name
    by_name name None same some = absurd (let f : ⊥ = cc in f)
    by_name name (Some inode) same some =
        IsUtf8-from_is_utf8 name ((is.tree.placed k name inode (ap (λ (p : Option Place). entry_named name (entries_in p)) here ∙ same)).named.utf8)

body_utf8 : (nodes : List (ℕ × Node)) (next count bytes k : ℕ) (linked : Bool) (body : Body) → IsWhole nodes next count bytes → places nodes k ≡ linked_place linked body → (linked ≡ false → names_of body ≡ []) → All IsUtf8 (keys_of (names_of body))
body_utf8 nodes next count bytes k linked (Bytes old) is place empty = All-nil IsUtf8
body_utf8 nodes next count bytes k true (Names d) is place empty = linked_utf8 nodes next count bytes k d is place
body_utf8 nodes next count bytes k false (Names d) is place empty = subst (λ (e : Entries). All IsUtf8 (keys_of e)) (sym (empty refl)) (All-nil IsUtf8)

pub names_utf8 : (nodes : List (ℕ × Node)) (next count bytes k : ℕ) (node : Node) → IsWhole nodes next count bytes → Some node ≡ node_in nodes k → All IsUtf8 (keys_of (names_of node.body))
names_utf8 nodes next count bytes k node is found =
    body_utf8 nodes next count bytes k node.linked node.body is (ap place_by (sym found)) (λ lost. (is.kept k node (sym found) lost).empty)

-- ---- the root alone

only : List (ℕ × Node)
only = new_tree.nodes

new_entries : (k : ℕ) → entries_in (places new_tree.nodes k) ≡ []
new_entries k = by_test (is_eq (nat_cmp k 1))
  where
    by_test : (b : Bool) → entries_in (place_by (cond b (Some (new_directory 1 0)) None)) ≡ []
    by_test true = refl
    by_test false = refl

new_none : (k : ℕ) → k ≢ 1 → node_in new_tree.nodes k ≡ None
new_none k other = ap (λ (b : Bool). cond b (Some (new_directory 1 0)) None) (other_number k 1 other)

new_child : (at : ℕ) (name : List ℕ) (inode : ℕ) → child (places new_tree.nodes) at name ≡ Some inode → ⊥
new_child at name inode found = none_some None inode refl (sym (ap (entry_named name) (new_entries at)) ∙ found)

new_linked : (k : ℕ) (node : Node) → node_in new_tree.nodes k ≡ Some node → node.linked ≡ true
new_linked k node found = by_test (is_eq (nat_cmp k 1)) found
  where
    by_test : (b : Bool) → cond b (Some (new_directory 1 0)) None ≡ Some node → node.linked ≡ true
    by_test true found = (let e : new_directory 1 0 ≡ node = cc in ap (λ (n : Node). n.linked) (sym e))
    by_test false found = absurd (let f : ⊥ = cc in f)

new_small : (k : ℕ) → length (file_bytes new_tree.nodes k) ≤ 16777216
new_small k = by_test (is_eq (nat_cmp k 1))
  where
    by_test : (b : Bool) → length (bytes_by (cond b (Some (new_directory 1 0)) None)) ≤ 16777216
    by_test true = omega arith
    by_test false = omega arith

new_is_tree : IsTree (places new_tree.nodes)
new_is_tree = record {
  root = record { directory = record { parent = 1; path = 0; names = [] }; is = refl; parent = refl; path = refl };
  rising = λ at. subst (λ (e : Entries). IsStrictlySortedBy (slice_cmp nat_cmp) (keys_of e)) (sym (new_entries at)) (sorted-nil (slice_cmp nat_cmp));
  placed = λ at name inode found. absurd (new_child at name inode found);
  once = λ at other name second inode found again. absurd (new_child at name inode found);
  homed = λ inode other some. absurd (let none : places new_tree.nodes inode ≡ None = ap place_by (new_none inode other) in let f : ⊥ = cc in f);
}

sorted_one : (k : ℕ) (node : Node) → IsStrictlySortedBy nat_cmp (keys_of ((k, node) ∷ []))
unfolding IsStrictlySortedBy
sorted_one k node = (tt, tt)

count_one : tree_count new_tree.nodes ≡ 1
unfolding tree_count
count_one = refl

bytes_one : tree_bytes new_tree.nodes ≡ 0
unfolding tree_bytes
bytes_one = refl

pub new_whole : (nodes : List (ℕ × Node)) → nodes ≡ new_tree.nodes → IsWhole nodes 2 1 0
new_whole nodes same = subst (λ (n : List (ℕ × Node)). IsWhole n 2 1 0) (sym same) (record {
  sorted = sorted_one 1 (new_directory 1 0);
  unused = λ k high. new_none k (λ one. absurd (omega arith));
  tree = new_is_tree;
  kept = λ k node found lost. absurd (let l = new_linked k node found in let f : ⊥ = cc in f);
  small = new_small;
  counted = sym count_one;
  few = omega arith;
  summed = sym bytes_one;
  within = omega arith;
})

-- ---- an entry is taken away

pub take_from : (nodes : List (ℕ × Node)) (next count bytes at inode : ℕ) (name : List ℕ) → IsWhole nodes next count bytes → IsEntry nodes at name inode → IsTakeable nodes name inode
    → (1 ≤ count) × (length (file_bytes nodes inode) ≤ bytes) × IsWhole (with_unlinked at name inode nodes) next (count - 1) (bytes - length (file_bytes nodes inode))
take_from nodes next count bytes at inode name is e t =
    let so = left nodes next count bytes at inode name e.node t.node e.directory is e.found e.linked e.body e.entry t.found t.empty in
    let can = enough nodes next count bytes at inode name e.node t.node e.directory is e.found e.linked e.body e.entry t.found t.empty (with_unlinked at name inode nodes) so in
    let whole = left_whole nodes next count bytes at inode name e.node t.node e.directory is e.found e.linked e.body e.entry t.found t.empty (with_unlinked at name inode nodes) so in
    let size : length (file_bytes nodes inode) ≡ length (bytes_of t.node.body) = ap (λ (o : Option Node). length (bytes_by o)) t.found in
    (can.0, rw size can.1, rw size whole)

pub taken_whole : (tree : Tree) (nodes : List (ℕ × Node)) (next count bytes at inode : ℕ) (name : List ℕ) → record { nodes = nodes; next = next } ≡ tree → IsWhole nodes next count bytes
    → IsEntry tree.nodes at name inode → IsTakeable tree.nodes name inode
    → (1 ≤ count) × (length (file_bytes nodes inode) ≤ bytes) × IsWhole (with_unlinked at name inode nodes) next (count - 1) (bytes - length (file_bytes nodes inode))
taken_whole tree nodes next count bytes at inode name view is =
    subst (λ (t : Tree). IsEntry t.nodes at name inode → IsTakeable t.nodes name inode → (1 ≤ count) × (length (file_bytes nodes inode) ≤ bytes) × IsWhole (with_unlinked at name inode nodes) next (count - 1) (bytes - length (file_bytes nodes inode)))
    view (take_from nodes next count bytes at inode name is)

-- ---- a file gets other bytes

size_by : (nodes : List (ℕ × Node)) (next count bytes i : ℕ) (o : Option Node) → node_in nodes i ≡ o → IsWhole nodes next count bytes → linked_by o ≡ true → length (bytes_by o) ≤ bytes
size_by nodes next count bytes i None found is linked = omega arith
size_by nodes next count bytes i (Some v) found is linked =
    let t = bytes_cut nodes i v found in
    let s = is.summed in
    let w : weight v ≡ length (bytes_of v.body) = ap (λ (b : Bool). if b then length (bytes_of v.body) else 0) linked in
    omega arith

pub size_within : (nodes : List (ℕ × Node)) (next count bytes i : ℕ) → IsWhole nodes next count bytes → linked_by (node_in nodes i) ≡ true → length (file_bytes nodes i) ≤ bytes
size_within nodes next count bytes i is linked = size_by nodes next count bytes i (node_in nodes i) refl is linked

abbrev pub Fills : Tree → List (ℕ × Node) → ℕ → ℕ → ℕ → List ℕ → Result ℕ Errno → Type 0
Fills tree nodes next count i new r =
    MatchResult r (λ total. (filled_with i new tree ≡ Ok (record { nodes = with_bytes i new nodes; next = next })) × IsWhole (with_bytes i new nodes) next count total) (λ errno. filled_with i new tree ≡ Err errno)

fills_by : (nodes : List (ℕ × Node)) (next count i : ℕ) (new : List ℕ) (r : Result ℕ Errno)
    → MatchResult r (λ total. (too_many i new nodes ≡ None) × IsWhole (with_bytes i new nodes) next count total) (λ errno. too_many i new nodes ≡ Some errno)
    → Fills (record { nodes = nodes; next = next }) nodes next count i new r
fills_by nodes next count i new (Ok total) out = (filled_ok (record { nodes = nodes; next = next }) i new out.0, out.1)
fills_by nodes next count i new (Err errno) out = filled_err (record { nodes = nodes; next = next }) i new errno out

fills_from : (nodes : List (ℕ × Node)) (next count bytes i : ℕ) (new : List ℕ) (size : Option ℕ) (r : Result ℕ Errno) → IsWhole nodes next count bytes → size ≡ fitting (length new) → kind_in (record { nodes = nodes; next = next }) i ≡ Some kinds.File
    → r ≡ total_after (linked_by (node_in nodes i)) (length (file_bytes nodes i)) (tree_bytes nodes) size → Fills (record { nodes = nodes; next = next }) nodes next count i new r
fills_from nodes next count bytes i new size r is fits kind same =
    fills_by nodes next count i new r (filled nodes next count bytes i new is (is_file (record { nodes = nodes; next = next }) i kind) size r fits same)

pub fills : (tree : Tree) (nodes : List (ℕ × Node)) (next count bytes i : ℕ) (new : List ℕ) (size : Option ℕ) (r : Result ℕ Errno) → record { nodes = nodes; next = next } ≡ tree → IsWhole nodes next count bytes → size ≡ fitting (length new)
    → kind_in tree i ≡ Some kinds.File → r ≡ total_after (linked_by (node_in tree.nodes i)) (length (file_bytes tree.nodes i)) (tree_bytes tree.nodes) size → Fills tree nodes next count i new r
fills tree nodes next count bytes i new size r view is fits =
    subst (λ (t : Tree). kind_in t i ≡ Some kinds.File → r ≡ total_after (linked_by (node_in t.nodes i)) (length (file_bytes t.nodes i)) (tree_bytes t.nodes) size → Fills t nodes next count i new r)
    view (fills_from nodes next count bytes i new size r is fits)

pub length_resized : (size : ℕ) (old : List ℕ) → length (resized size old) ≡ size
length_resized size old = simp (length-append, length-take, length-replicate) (omega arith)

length_over : (offset : ℕ) (bytes old : List ℕ) → 0 < length bytes → length (overwritten offset bytes old) ≡ max (length old) (offset + length bytes)
length_over offset [] old some = absurd (omega arith)
length_over offset (b ∷ bytes) old some = simp (length-append, length-take, length-replicate, length-drop) (omega arith)

not_zero : (n : ℕ) → (suc n == 0) ≡ false
not_zero n = grind arith

pub length_written : (offset : ℕ) (bytes old : List ℕ) → length (overwritten offset bytes old) ≡ size_written (length old) offset (length bytes)
length_written offset [] old = refl
length_written offset (b ∷ bytes) old =
    let t = length_over offset (b ∷ bytes) old (omega arith) in
    let other : (if suc (length bytes) == 0 then length old else max (length old) (offset + suc (length bytes))) ≡ max (length old) (offset + suc (length bytes)) =
    ap (λ (c : Bool). if c then length old else max (length old) (offset + suc (length bytes))) (not_zero (length bytes)) in
    t ∙ sym other

fits_by : (big : Bool) (size limit : ℕ) (o : Option ℕ) (total : ℕ) → nat_lt 16777216 size ≡ big → o ≡ (if big then None else Some size) → o ≡ Some total → size ≤ 16777216
fits_by true size limit o total same is some = absurd (let f : ⊥ = cc in f)
fits_by false size limit o total same is some = grind arith

after_some : (linked : Bool) (old total new : ℕ) (o : Option ℕ) → Ok new ≡ total_after linked old total o → IsSome o
after_some linked old total new (Some n) same = refl
after_some true old total new None same = absurd (let f : ⊥ = cc in f)
after_some false old total new None same = absurd (let f : ⊥ = cc in f)

some_fits : (size : ℕ) → IsSome (fitting size) → size ≤ 16777216
some_fits size some = by_big (nat_lt 16777216 size) refl some
  where
    by_big : (big : Bool) → nat_lt 16777216 size ≡ big → IsSome (if big then None else Some size) → size ≤ 16777216
    by_big true same some = absurd (let f : ⊥ = cc in f)
    by_big false same some = grind arith

count_by : (none : Bool) (size offset count : ℕ) → (count == 0) ≡ none → offset < 2 ^ 64 → (if none then size else max size (offset + count)) ≤ 16777216 → offset + count < 2 ^ 64
count_by true size offset count same low fits = grind arith
count_by false size offset count same low fits = omega arith

-- the end of a write that is judged to fit
pub write_end : (linked : Bool) (old total new size offset count : ℕ) (o : Option ℕ) → Ok new ≡ total_after linked old total o → o ≡ fitting (size_written size offset count) → offset < 2 ^ 64 → offset + count < 2 ^ 64
write_end linked old total new size offset count o same fits low =
    count_by (count == 0) size offset count refl low (some_fits (size_written size offset count) (subst IsSome fits (after_some linked old total new o same)))

pub is_ok_from : (r : Result Tree Errno) (tree : Tree) → r ≡ Ok tree → IsOk r
is_ok_from (Ok t) tree same = refl
is_ok_from (Err errno) tree same = absurd (let f : ⊥ = cc in f)
