-- What is kept where a file gets other bytes, and where holds change.
use Rattle.std.proofs.Common.{◌≡◌, ℕ, ◌+◌, ◌-◌, ◌^◌, ◌<◌, ◌≤◌, ◌==◌, ◌&&◌, nat_lt, min, Bool, true, false, not, if◌then◌else◌, List, [], length, Option, Some, None, Result, Ok, Err, refl, sym, ap, subst, ◌∙◌, arith}
use Rattle.std.specs.Prelude.{MatchResult}
use Rattle.file_tree.specs.declared.errno.Errno.{Errno}
use Rattle.file_tree.specs.declared.errno.Errno.TheVariants.{EFBIG, ENOSPC}
use Rattle.file_tree.specs.declared.node.Node.{Node}
use Rattle.file_tree.specs.declared.node.Body.{Body}
use Rattle.file_tree.specs.declared.node.Body.TheVariants.{Bytes, Names}
use Rattle.file_tree.specs.declared.kind.Kind.TheVariants as kinds
use Rattle.file_tree.specs.Nodes.{Tree, node_in, names_of, changed_node, without_node, bytes_of, bytes_by, file_bytes, weight, tree_bytes, kind_of, kind_by, kind_in, holds_by, linked_by}
use Rattle.file_tree.specs.Files.{refilled_body, refilled, refilled_by, with_bytes, too_many, filled_with, fitting, total_after}
use Rattle.file_tree.specs.Holds.{with_holds, held_by, released_by}
use Rattle.file_tree.specs.Walk.{unless}
use Rattle.file_tree.specs.Whole.{place_by, linked_place, IsWhole}
use Rattle.file_tree.proofs.NodeFacts.{changed_whole, bytes_set, bytes_cut}
use Rattle.file_tree.proofs.GoneFacts.{dropped_whole}

-- the size of a file that is there
pub small_at : (nodes : List (ℕ × Node)) (next count bytes i : ℕ) (v : Node) → IsWhole nodes next count bytes → node_in nodes i ≡ Some v → length (bytes_of v.body) ≤ 16777216
small_at nodes next count bytes i v is found = subst (λ (o : Option Node). length (bytes_by o) ≤ 16777216) found (is.small i)

-- other holds, which are some where the node was unlinked
pub holds_whole : (nodes : List (ℕ × Node)) (next count bytes i holds : ℕ) (v : Node) → IsWhole nodes next count bytes → node_in nodes i ≡ Some v → (v.linked ≡ false → 0 < holds)
    → IsWhole (changed_node i (with_holds holds v) nodes) next count bytes
holds_whole nodes next count bytes i holds v is found some =
    changed_whole nodes next count bytes bytes i v (with_holds holds v) is found refl refl (λ lost. record { held = some lost; empty = (is.kept i v found lost).empty })
    (small_at nodes next count bytes i v is found) refl is.within

held_from : (nodes : List (ℕ × Node)) (next count bytes i : ℕ) (o : Option Node) → node_in nodes i ≡ o → IsWhole nodes next count bytes → IsWhole (held_by i o nodes) next count bytes
held_from nodes next count bytes i None same is = is
held_from nodes next count bytes i (Some v) same is = holds_whole nodes next count bytes i (min (v.holds + 1) (2 ^ 64 - 1)) v is same (λ lost. omega arith)

pub held_whole : (nodes : List (ℕ × Node)) (next count bytes i : ℕ) → IsWhole nodes next count bytes → IsWhole (held_by i (node_in nodes i) nodes) next count bytes
held_whole nodes next count bytes i is = held_from nodes next count bytes i (node_in nodes i) refl is

goes_lost : (a b : Bool) → a && not b ≡ true → b ≡ false
goes_lost true true goes = absurd (let f : ⊥ = cc in f)
goes_lost true false goes = refl
goes_lost false b goes = absurd (let f : ⊥ = cc in f)

stays_held : (n : ℕ) (linked : Bool) → (n == 1) && not linked ≡ false → 0 < n → linked ≡ false → 0 < n - 1
stays_held n true stays some lost = absurd (let f : ⊥ = cc in f)
stays_held n false stays some lost = many (n == 1) refl stays
  where
    many : (b : Bool) → (n == 1) ≡ b → b && true ≡ false → 0 < n - 1
    many true same stays = absurd (let f : ⊥ = cc in f)
    many false same stays = grind arith

released_by_goes : (nodes : List (ℕ × Node)) (next count bytes i : ℕ) (v : Node) (goes : Bool) → ((v.holds == 1) && not v.linked) ≡ goes → node_in nodes i ≡ Some v → IsWhole nodes next count bytes → 0 < v.holds
    → IsWhole (if goes then without_node i nodes else changed_node i (with_holds (v.holds - 1) v) nodes) next count bytes
released_by_goes nodes next count bytes i v true same found is some = dropped_whole nodes next count bytes i v is found (goes_lost (v.holds == 1) v.linked same)
released_by_goes nodes next count bytes i v false same found is some = holds_whole nodes next count bytes i (v.holds - 1) v is found (stays_held v.holds v.linked same some)

released_from : (nodes : List (ℕ × Node)) (next count bytes i : ℕ) (o : Option Node) → node_in nodes i ≡ o → IsWhole nodes next count bytes → 0 < holds_by o → IsWhole (released_by i o nodes) next count bytes
released_from nodes next count bytes i None same is some = absurd (omega arith)
released_from nodes next count bytes i (Some v) same is some = released_by_goes nodes next count bytes i v ((v.holds == 1) && not v.linked) refl same is some

pub released_whole : (nodes : List (ℕ × Node)) (next count bytes i : ℕ) → IsWhole nodes next count bytes → 0 < holds_by (node_in nodes i) → IsWhole (released_by i (node_in nodes i) nodes) next count bytes
released_whole nodes next count bytes i is some = released_from nodes next count bytes i (node_in nodes i) refl is some

-- ---- other bytes

-- a file that is there
pub record IsFile (nodes : List (ℕ × Node)) (i : ℕ) : Type 0 where
  pub node : Node
  pub old : List ℕ
  pub found : node_in nodes i ≡ Some node
  pub body : node.body ≡ Bytes old

file_body : (nodes : List (ℕ × Node)) (i : ℕ) (node : Node) (body : Body) → node_in nodes i ≡ Some node → node.body ≡ body → Some (kind_of body) ≡ Some kinds.File → IsFile nodes i
file_body nodes i node (Bytes old) found same file = record { node = node; old = old; found = found; body = same }
file_body nodes i node (Names d) found same file = absurd (let f : ⊥ = cc in f)

file_node : (nodes : List (ℕ × Node)) (i : ℕ) (o : Option Node) → node_in nodes i ≡ o → kind_by o ≡ Some kinds.File → IsFile nodes i
file_node nodes i None found file = absurd (let f : ⊥ = cc in f)
file_node nodes i (Some node) found file = file_body nodes i node node.body found refl file

pub is_file : (tree : Tree) (i : ℕ) → kind_in tree i ≡ Some kinds.File → IsFile tree.nodes i
unfolding kind_in
is_file tree i file = file_node tree.nodes i (node_in tree.nodes i) refl file

module _ (nodes : List (ℕ × Node)) (next count bytes i : ℕ) (new : List ℕ) (is : IsWhole nodes next count bytes) (file : IsFile nodes i) where
  abbrev v : Node
  v = file.node

  abbrev w : Node
  w = refilled new file.node

  pub bytes_is : with_bytes i new nodes ≡ changed_node i w nodes
  unfolding with_bytes
  bytes_is = ap (λ (o : Option Node). refilled_by i new o nodes) file.found

  new_bytes : bytes_of w.body ≡ new
  new_bytes = ap (λ (b : Body). bytes_of (refilled_body new b)) file.body

  sum : tree_bytes (with_bytes i new nodes) + weight v ≡ tree_bytes nodes + weight w
  sum = rw bytes_is (bytes_set nodes i v w file.found)

  same_place : (body : Body) (old : List ℕ) → v.body ≡ Bytes old → place_by (Some w) ≡ place_by (Some v)
  same_place body old same = by_body v.linked v.body old same
    where
      by_body : (linked : Bool) (body : Body) (old : List ℕ) → body ≡ Bytes old → linked_place linked (refilled_body new body) ≡ linked_place linked body
      by_body linked (Names d) old same = absurd (let f : ⊥ = cc in f)
      by_body true (Bytes bytes) old same = refl
      by_body false (Bytes bytes) old same = refl

  no_names : (body : Body) (old : List ℕ) → v.body ≡ Bytes old → names_of w.body ≡ []
  no_names body old same = ap (λ (b : Body). names_of (refilled_body new b)) same

  filled_whole : (total : ℕ) → length new ≤ 16777216 → total + weight v ≡ tree_bytes nodes + weight w → total ≤ 268435456 → IsWhole (with_bytes i new nodes) next count total
  filled_whole total small same within =
      let summed = is.summed in
      subst (λ (n : List (ℕ × Node)). IsWhole n next count total) (sym bytes_is)
      (changed_whole nodes next count bytes total i v w is file.found (same_place v.body file.old file.body) refl
      (λ lost. record { held = (is.kept i v file.found lost).held; empty = no_names v.body file.old file.body })
      (subst (λ (b : List ℕ). length b ≤ 16777216) (sym new_bytes) small) (omega arith) within)

  most : weight v ≤ tree_bytes nodes
  most = let t = bytes_cut nodes i v file.found in omega arith

  weight_new : (linked : Bool) → v.linked ≡ linked → weight w ≡ (if linked then length new else 0)
  weight_new linked same = ap (λ (b : Bool). if b then length (bytes_of w.body) else 0) same ∙ ap (λ (b : List ℕ). if linked then length b else 0) new_bytes

  weight_old : (linked : Bool) → v.linked ≡ linked → weight v ≡ (if linked then length (bytes_of v.body) else 0)
  weight_old linked same = ap (λ (b : Bool). if b then length (bytes_of v.body) else 0) same

  too_big : nat_lt 16777216 (length new) ≡ true → too_many i new nodes ≡ Some EFBIG
  unfolding too_many
  too_big big = ap (λ (b : Bool). if b then Some EFBIG else if nat_lt 268435456 (tree_bytes (with_bytes i new nodes)) then Some ENOSPC else None) big

  by_sum : nat_lt 16777216 (length new) ≡ false → (full : Bool) → nat_lt 268435456 (tree_bytes (with_bytes i new nodes)) ≡ full → too_many i new nodes ≡ (if full then Some ENOSPC else None)
  unfolding too_many
  by_sum small full same =
      ap (λ (b : Bool). if b then Some EFBIG else if nat_lt 268435456 (tree_bytes (with_bytes i new nodes)) then Some ENOSPC else None) small ∙ ap (λ (b : Bool). if b then Some ENOSPC else None) same

  low_from : (a b : ℕ) → nat_lt a b ≡ false → b ≤ a
  low_from a b none = grind arith

  not_above : (a b : ℕ) → b ≤ a → nat_lt a b ≡ false
  not_above a b low = grind arith

  abbrev Outcome : Result ℕ Errno → Type 0
  Outcome r = MatchResult r (λ total. (too_many i new nodes ≡ None) × IsWhole (with_bytes i new nodes) next count total) (λ errno. too_many i new nodes ≡ Some errno)

  linked_by_sum : (full : Bool) (total : ℕ) → nat_lt 268435456 total ≡ full → total ≡ tree_bytes (with_bytes i new nodes) → nat_lt 16777216 (length new) ≡ false → total + weight v ≡ tree_bytes nodes + weight w
      → Outcome (if full then Err ENOSPC else Ok total)
  linked_by_sum true total same is_sum small weights = by_sum small true (sym (ap (nat_lt 268435456) is_sum) ∙ same)
  linked_by_sum false total same is_sum small weights =
      (by_sum small false (sym (ap (nat_lt 268435456) is_sum) ∙ same), filled_whole total (low_from 16777216 (length new) small) weights (low_from 268435456 total same))

  by_linked : (linked : Bool) → v.linked ≡ linked → nat_lt 16777216 (length new) ≡ false → Outcome (total_after linked (length (bytes_of v.body)) (tree_bytes nodes) (Some (length new)))
  by_linked true same small =
      let a = weight_new true same in
      let b = weight_old true same in
      let m = most in
      let s = sum in
      linked_by_sum (nat_lt 268435456 (tree_bytes nodes - length (bytes_of v.body) + length new)) (tree_bytes nodes - length (bytes_of v.body) + length new) refl (omega arith) small (omega arith)
  by_linked false same small =
      let a = weight_new false same in
      let b = weight_old false same in
      let s = sum in
      let within = is.within in
      let summed = is.summed in
      let e : tree_bytes (with_bytes i new nodes) ≡ tree_bytes nodes = omega arith in
      (by_sum small false (not_above 268435456 (tree_bytes (with_bytes i new nodes)) (omega arith)), filled_whole (tree_bytes nodes) (low_from 16777216 (length new) small) (omega arith) (omega arith))

  none_after : (linked : Bool) → total_after linked (length (bytes_of v.body)) (tree_bytes nodes) None ≡ Err EFBIG
  none_after true = refl
  none_after false = refl

  by_big : (big linked : Bool) → nat_lt 16777216 (length new) ≡ big → v.linked ≡ linked → Outcome (total_after linked (length (bytes_of v.body)) (tree_bytes nodes) (if big then None else Some (length new)))
  by_big true linked same is_linked = subst Outcome (sym (none_after linked)) (too_big same)
  by_big false linked same is_linked = by_linked linked is_linked same

  -- what is judged of a size that is that of the new bytes
  pub filled : (size : Option ℕ) (r : Result ℕ Errno) → size ≡ fitting (length new) → r ≡ total_after (linked_by (node_in nodes i)) (length (file_bytes nodes i)) (tree_bytes nodes) size → Outcome r
  filled size r fits same =
      subst Outcome (sym (same ∙ (ap (λ (o : Option Node). total_after (linked_by o) (length (bytes_by o)) (tree_bytes nodes) size) file.found ∙ ap (total_after v.linked (length (bytes_of v.body)) (tree_bytes nodes)) fits)))
      (by_big (nat_lt 16777216 (length new)) v.linked refl refl)

pub filled_ok : (tree : Tree) (i : ℕ) (new : List ℕ) → too_many i new tree.nodes ≡ None → filled_with i new tree ≡ Ok (record { nodes = with_bytes i new tree.nodes; next = tree.next })
unfolding filled_with
filled_ok tree i new none = ap (λ (o : Option Errno). unless o (Ok (record { nodes = with_bytes i new tree.nodes; next = tree.next }))) none

pub filled_err : (tree : Tree) (i : ℕ) (new : List ℕ) (errno : Errno) → too_many i new tree.nodes ≡ Some errno → filled_with i new tree ≡ Err errno
unfolding filled_with
filled_err tree i new errno some = ap (λ (o : Option Errno). unless o (Ok (record { nodes = with_bytes i new tree.nodes; next = tree.next }))) some
