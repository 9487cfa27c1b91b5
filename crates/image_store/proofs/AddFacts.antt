-- What one entry more leaves in a tree.
use Rattle.std.proofs.Common.{◌≡◌, ℕ, zero, suc, ◌+◌, List, [], ◌∷◌, length, drop, Option, Some, None, IsSome, Result, Ok, Err, refl, sym, ap, ◌∙◌, subst, Bool}
use Rattle.std.proofs.lemmas.List.{append-nil}
use Rattle.file_tree.specs.declared.errno.Errno.{Errno}
use Rattle.file_tree.specs.declared.node.Node.{Node}
use Rattle.file_tree.specs.declared.kind.Kind.{Kind}
use Rattle.file_tree.specs.declared.kind.Kind.TheVariants as nodes
use Rattle.file_tree.specs.Answers.{IsMade, IsFilled}
use Rattle.file_tree.specs.Files.{overwritten, with_bytes, refilled, too_many, filled_with, written}
use Rattle.file_tree.specs.Making.{made, made_at, make_refused, slash_refused}
use Rattle.file_tree.specs.Nodes.{Tree, Has, kind_in, kind_by, file_bytes, bytes_by, node_in}
use Rattle.file_tree.specs.Walk.{Spot, spot_of, walked, and_then, unless}
use Rattle.file_tree.proofs.NodeFacts.{set_here}
use Rattle.file_tree.proofs.FillFacts.{is_file}
use Rattle.image_store.specs.Loading.{IsAdded}

-- the next inode rises by one

next_unless : (refusal : Option Errno) (old made_tree new : Tree) → made_tree.next ≡ old.next + 1 → unless refusal (Ok made_tree) ≡ Ok new → new.next ≡ old.next + 1
next_unless None old made_tree new rises same = let e : made_tree ≡ new = cc in ap (λ (t : Tree). t.next) (sym e) ∙ rises
next_unless (Some errno) old made_tree new rises same = absurd (let f : ⊥ = cc in f)

next_by : (kind : Kind) (ends : Bool) (old new : Tree) (spot : Result Spot Errno) → and_then spot (made_at kind ends old) ≡ Ok new → new.next ≡ old.next + 1
next_by kind ends old new (Err errno) same = absurd (let f : ⊥ = cc in f)
next_by kind ends old new (Ok spot) same = next_unless (make_refused old.nodes spot.at spot.name ends) old _ new refl same

made_next : (kind : Kind) (path : List ℕ) (old new : Tree) → made kind 1 path old ≡ Ok new → new.next ≡ old.next + 1
unfolding made
made_next kind path old new same = next_by kind (slash_refused kind path) old new (spot_of old 1 path) same

-- what isn't in the tree has no bytes
absent_by : (node : Option Node) → kind_by node ≡ None → bytes_by node ≡ []
absent_by None none = refl
absent_by (Some node) none = absurd (let f : ⊥ = cc in f)

absent : (tree : Tree) (inode : ℕ) → kind_in tree inode ≡ None → file_bytes tree.nodes inode ≡ []
unfolding kind_in
absent tree inode none = absent_by (node_in tree.nodes inode) none

-- what was written into an empty file

drop_none : (n : ℕ) → drop {A = ℕ} n [] ≡ []
drop_none zero = refl
drop_none (suc n) = refl

whole : (bytes : List ℕ) → overwritten 0 bytes [] ≡ bytes
whole [] = refl
whole (byte ∷ bytes) = rw (drop_none (0 + length (byte ∷ bytes))) (append-nil (byte ∷ bytes))

filled_unless : (refusal : Option Errno) (next_tree new : Tree) → unless refusal (Ok next_tree) ≡ Ok new → new ≡ next_tree
filled_unless None next_tree new same = cc
filled_unless (Some errno) next_tree new same = absurd (let f : ⊥ = cc in f)

filled_is : (inode : ℕ) (bytes : List ℕ) (old new : Tree) → filled_with inode bytes old ≡ Ok new → new ≡ record { nodes = with_bytes inode bytes old.nodes; next = old.next }
unfolding filled_with
filled_is inode bytes old new same = filled_unless (too_many inode bytes old.nodes) (record { nodes = with_bytes inode bytes old.nodes; next = old.next }) new same

with_has : (tree : Tree) (inode : ℕ) (bytes : List ℕ) → kind_in tree inode ≡ Some nodes.File → file_bytes (with_bytes inode bytes tree.nodes) inode ≡ bytes
unfolding with_bytes
with_has tree inode bytes file =
    let is = is_file tree inode file in
    rw is.found (ap bytes_by (set_here tree.nodes inode is.node (refilled bytes is.node) is.found) ∙ rw is.body refl)

written_has : (inode : ℕ) (bytes : List ℕ) (old new : Tree) → kind_in old inode ≡ Some nodes.File → file_bytes old.nodes inode ≡ [] → written inode 0 bytes old ≡ Ok new
    → file_bytes new.nodes inode ≡ bytes
written_has inode bytes old new file empty same =
    let over : overwritten 0 bytes (file_bytes old.nodes inode) ≡ bytes = ap (overwritten 0 bytes) empty ∙ whole bytes in
    let is = filled_is inode (overwritten 0 bytes (file_bytes old.nodes inode)) old new same in
    ap (λ (t : Tree). file_bytes t.nodes inode) is ∙ (with_has old inode (overwritten 0 bytes (file_bytes old.nodes inode)) file ∙ over)

written_next : (inode : ℕ) (bytes : List ℕ) (old new : Tree) → written inode 0 bytes old ≡ Ok new → new.next ≡ old.next
written_next inode bytes old new same = ap (λ (t : Tree). t.next) (filled_is inode (overwritten 0 bytes (file_bytes old.nodes inode)) old new same)

apart : (tree : Tree) (inode other : ℕ) → kind_in tree inode ≡ None → Has tree other → other ≡ inode → ⊥
apart tree inode other none has same = apart_by (kind_in tree other) has (ap (kind_in tree) same ∙ none)
  where
    apart_by : (kind : Option Kind) → IsSome kind → kind ≡ None → ⊥
    apart_by None has none = let f : ⊥ = cc in f
    apart_by (Some kind) has none = let f : ⊥ = cc in f

pub dir_added : (path : List ℕ) (old new : Tree) (inode : ℕ) → made nodes.Dir 1 path old ≡ Ok new → inode ≡ old.next → IsMade nodes.Dir inode old new → walked new 1 path ≡ Ok inode
    → IsAdded nodes.Dir path [] old new
dir_added path old new inode due is made_so found = record {
  found = found ∙ ap (λ (n : ℕ). Ok n) is;
  there = subst (λ (n : ℕ). kind_in new n ≡ Some nodes.Dir) is made_so.made;
  has = subst (λ (n : ℕ). file_bytes new.nodes n ≡ []) is (made_so.bytes inode ∙ absent old inode made_so.fresh);
  next = made_next nodes.Dir path old new due;
  holds = made_so.holds;
  kinds = made_so.kinds;
  paths = λ other found_at f. made_so.paths 1 other found_at f;
  others = λ other has. made_so.bytes other;
}

pub file_added : (path bytes : List ℕ) (old mid new : Tree) (inode : ℕ) → made nodes.File 1 path old ≡ Ok mid → inode ≡ old.next → IsMade nodes.File inode old mid → walked mid 1 path ≡ Ok inode
    → written inode 0 bytes mid ≡ Ok new → IsFilled inode mid new → IsAdded nodes.File path bytes old new
file_added path bytes old mid new inode due is made_so found filled filled_so = record {
  found = filled_so.paths 1 path ∙ (found ∙ ap (λ (n : ℕ). Ok n) is);
  there = subst (λ (n : ℕ). kind_in new n ≡ Some nodes.File) is (filled_so.kinds inode nodes.File made_so.made);
  has = subst (λ (n : ℕ). file_bytes new.nodes n ≡ bytes) is (written_has inode bytes mid new made_so.made (made_so.bytes inode ∙ absent old inode made_so.fresh) filled);
  next = written_next inode bytes mid new filled ∙ made_next nodes.File path old mid due;
  holds = λ other. filled_so.holds other ∙ made_so.holds other;
  kinds = λ other kind same. filled_so.kinds other kind (made_so.kinds other kind same);
  paths = λ other found_at f. filled_so.paths 1 other ∙ made_so.paths 1 other found_at f;
  others = λ other has. ap bytes_by (filled_so.others other (apart old inode other made_so.fresh has)) ∙ made_so.bytes other;
}
