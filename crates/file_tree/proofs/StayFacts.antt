-- What the calls leave as it was: kinds, holds, and what paths lead to.
use Rattle.std.proofs.Common.{◌≡◌, ◌≢◌, ℕ, ◌+◌, ◌-◌, ◌^◌, ◌<◌, ◌==◌, ◌&&◌, nat_lt, min, Bool, true, false, cond, not, if◌then◌else◌, List, [], ◌∷◌, length, Option, Some, None, IsSome, Result, Ok, Err, inl, inr, refl, sym, ap, subst, ◌∙◌, arith}
use Rattle.std.specs.Ordering.{nat_cmp, is_eq}
use Rattle.std.specs.Cmp.Lexicographic.{slice_cmp}
use Rattle.std.proofs.lemmas.Cmp.{nat_list_cmp_total}
use Rattle.std.proofs.lemmas.Bool.{cases_eq}
use Rattle.file_tree.specs.declared.errno.Errno.{Errno}
use Rattle.file_tree.specs.declared.errno.Errno.TheVariants.{ENOENT, ENAMETOOLONG}
use Rattle.file_tree.specs.declared.node.Node.{Node}
use Rattle.file_tree.specs.declared.node.Directory.{Directory}
use Rattle.file_tree.specs.declared.node.Body.{Body}
use Rattle.file_tree.specs.declared.node.Body.TheVariants.{Bytes, Names}
use Rattle.file_tree.specs.declared.kind.Kind.{Kind}
use Rattle.file_tree.specs.declared.kind.Kind.TheVariants.{File, Dir}
use Rattle.file_tree.specs.Entries.{entry_named, with_entry}
use Rattle.file_tree.specs.Paths.{parts, is_dot, is_dots, path_refused}
use Rattle.file_tree.specs.Nodes.{Tree, Has, node_in, changed_node, without_node, kind_in, kind_by, kind_of, holds_in, holds_by, bytes_of, bytes_by, names_of, names_by, linked_by}
use Rattle.file_tree.specs.Walk.{Spot, step, step_at, step_in, found, follow, and_then, unless, start_of, walked}
use Rattle.file_tree.specs.Making.{with_name, node_with, with_made, new_node}
use Rattle.file_tree.specs.Ready.{has_slash, IsMakeable}
use Rattle.file_tree.specs.Files.{refilled, refilled_body, refilled_by, with_bytes}
use Rattle.file_tree.specs.Holds.{with_holds, held_by, released_by}
use Rattle.file_tree.specs.Answers.{KindsStay, HoldsStay, PathsStay, IsMade, GainsName, IsFilled, IsHeld, IsReleased}
use Rattle.file_tree.specs.Whole.{IsWhole, IsSound}
use Rattle.file_tree.proofs.TreeFacts.{is_some_from}
use Rattle.file_tree.proofs.LookFacts.{lookup-insert_entry, same_name}
use Rattle.file_tree.proofs.NodeFacts.{set_here, set_there, set_by, cut_here, cut_there}
use Rattle.file_tree.proofs.MadeFacts.{made_next, made_at_is, made_by, made_other}
use Rattle.file_tree.proofs.FillFacts.{held_whole, released_whole}
use Rattle.file_tree.proofs.PutFacts.{is_new, is_linked, is_light, is_free, has_kind, put_from}
use Rattle.file_tree.proofs.SoundFacts.{has_node, node_has, sound_whole, walked_left}

-- ---- walks by equal steps

then_same : (r : Result ℕ Errno) (f g : ℕ → Result ℕ Errno) → ((n : ℕ) → f n ≡ g n) → and_then r f ≡ and_then r g
then_same (Err errno) f g same = refl
then_same (Ok n) f g same = same n

follow_same : (old new : List (ℕ × Node)) → ((at : ℕ) (part : List ℕ) → step new at part ≡ step old at part) → (at : ℕ) (parts : List (List ℕ)) → follow new at parts ≡ follow old at parts
unfolding follow
follow_same old new same at [] = refl
follow_same old new same at (part ∷ rest) =
    ap (λ (r : Result ℕ Errno). and_then r (λ n. follow new n rest)) (same at part) ∙ then_same (step old at part) (λ n. follow new n rest) (λ n. follow old n rest) (λ n. follow_same old new same n rest)

step_same : (old new : List (ℕ × Node)) → ((at k : ℕ) (part : List ℕ) → step_at at (node_in new k) part ≡ step_at at (node_in old k) part) → (at : ℕ) (part : List ℕ) → step new at part ≡ step old at part
unfolding step
step_same old new same at part = ap (λ (r : Result ℕ Errno). if nat_lt 255 (length part) then Err ENAMETOOLONG else r) (same at at part)

paths_same : (old new : Tree) → ((at k : ℕ) (part : List ℕ) → step_at at (node_in new.nodes k) part ≡ step_at at (node_in old.nodes k) part) → PathsStay old new
unfolding walked
paths_same old new same from path =
    ap (unless (path_refused path)) (follow_same old.nodes new.nodes (step_same old.nodes new.nodes same) (start_of from path) (parts path))

kinds_same : (old new : Tree) → ((k : ℕ) → IsSome (node_in old.nodes k) → kind_by (node_in new.nodes k) ≡ kind_by (node_in old.nodes k)) → KindsStay old new
unfolding kind_in
kinds_same old new same inode kind is = same inode (some_kind (node_in old.nodes inode) kind is) ∙ is
  where
    some_kind : (o : Option Node) (kind : Kind) → kind_by o ≡ Some kind → IsSome o
    some_kind None kind is = absurd (let f : ⊥ = cc in f)
    some_kind (Some node) kind is = refl

holds_same : (old new : Tree) → ((k : ℕ) → holds_by (node_in new.nodes k) ≡ holds_by (node_in old.nodes k)) → HoldsStay old new
unfolding holds_in
holds_same old new same inode = same inode

-- ---- a file gets other bytes

refilled_step : (at : ℕ) (linked : Bool) (body : Body) (bytes part : List ℕ) → step_in at linked (refilled_body bytes body) part ≡ step_in at linked body part
refilled_step at linked (Bytes old) bytes part = refl
refilled_step at linked (Names d) bytes part = refl

refilled_kind : (body : Body) (bytes : List ℕ) → kind_of (refilled_body bytes body) ≡ kind_of body
refilled_kind (Bytes old) bytes = refl
refilled_kind (Names d) bytes = refl

refilled_names : (body : Body) (bytes : List ℕ) → names_of (refilled_body bytes body) ≡ names_of body
refilled_names (Bytes old) bytes = refl
refilled_names (Names d) bytes = refl

changed_filled : (nodes : List (ℕ × Node)) (next i : ℕ) (v : Node) (bytes : List ℕ) → node_in nodes i ≡ Some v → IsSound (record { nodes = changed_node i (refilled bytes v) nodes; next = next })
    → IsFilled i (record { nodes = nodes; next = next }) (record { nodes = changed_node i (refilled bytes v) nodes; next = next })
changed_filled nodes next i v bytes is sound = record {
  others = λ other apart. set_there nodes i other v (refilled bytes v) is (λ same. apart (sym same));
  kinds = kinds_same (record { nodes = nodes; next = next }) (record { nodes = changed_node i (refilled bytes v) nodes; next = next })
      (λ k some. set_by kind_by nodes i v (refilled bytes v) is (ap (λ (kind : Kind). Some kind) (refilled_kind v.body bytes)) k);
  holds = holds_same (record { nodes = nodes; next = next }) (record { nodes = changed_node i (refilled bytes v) nodes; next = next }) (λ k. set_by holds_by nodes i v (refilled bytes v) is refl k);
  paths = paths_same (record { nodes = nodes; next = next }) (record { nodes = changed_node i (refilled bytes v) nodes; next = next })
      (λ at k part. set_by (λ (o : Option Node). step_at at o part) nodes i v (refilled bytes v) is (refilled_step at v.linked v.body bytes part) k);
  names = λ k. set_by names_by nodes i v (refilled bytes v) is (refilled_names v.body bytes) k;
  sound = sound;
}

filled_by : (nodes : List (ℕ × Node)) (next i : ℕ) (bytes : List ℕ) (o : Option Node) → node_in nodes i ≡ o → IsSound (record { nodes = with_bytes i bytes nodes; next = next }) → IsSome o
    → IsFilled i (record { nodes = nodes; next = next }) (record { nodes = with_bytes i bytes nodes; next = next })
unfolding with_bytes
filled_by nodes next i bytes None is sound some = absurd (let f : ⊥ = cc in f)
filled_by nodes next i bytes (Some v) is sound some = rw is (changed_filled nodes next i v bytes is (subst (λ (o : Option Node). IsSound (record { nodes = refilled_by i bytes o nodes; next = next })) is sound))

pub file_is_filled : (tree : Tree) (nodes : List (ℕ × Node)) (next count total i : ℕ) (bytes : List ℕ) → record { nodes = nodes; next = next } ≡ tree → IsWhole (with_bytes i bytes nodes) next count total → IsSome (node_in tree.nodes i)
    → IsFilled i tree (record { nodes = with_bytes i bytes nodes; next = next })
file_is_filled tree nodes next count total i bytes view whole =
    subst (λ (t : Tree). IsSome (node_in t.nodes i) → IsFilled i t (record { nodes = with_bytes i bytes nodes; next = next })) view
    (λ some. filled_by nodes next i bytes (node_in nodes i) refl (sound_whole (with_bytes i bytes nodes) next count total whole) some)

-- ---- holds

changed_held : (nodes : List (ℕ × Node)) (next i : ℕ) (v : Node) → node_in nodes i ≡ Some v → IsSound (record { nodes = changed_node i (with_holds (min (v.holds + 1) (2 ^ 64 - 1)) v) nodes; next = next })
    → IsHeld i (record { nodes = nodes; next = next }) (record { nodes = changed_node i (with_holds (min (v.holds + 1) (2 ^ 64 - 1)) v) nodes; next = next })
unfolding holds_in
changed_held nodes next i v is sound =
    let w : Node = with_holds (min (v.holds + 1) (2 ^ 64 - 1)) v in
    record {
      others = λ other apart. set_there nodes i other v w is (λ same. apart (sym same));
      kinds = kinds_same (record { nodes = nodes; next = next }) (record { nodes = changed_node i w nodes; next = next }) (λ k some. set_by kind_by nodes i v w is refl k);
      holds = ap holds_by (set_here nodes i v w is) ∙ ap (λ (o : Option Node). min (holds_by o + 1) (2 ^ 64 - 1)) (sym is);
      paths = paths_same (record { nodes = nodes; next = next }) (record { nodes = changed_node i w nodes; next = next }) (λ at k part. set_by (λ (o : Option Node). step_at at o part) nodes i v w is refl k);
      bytes = λ k. set_by bytes_by nodes i v w is refl k;
      names = λ k. set_by names_by nodes i v w is refl k;
      sound = sound;
    }

held_from : (nodes : List (ℕ × Node)) (next i : ℕ) (o : Option Node) → node_in nodes i ≡ o → IsSound (record { nodes = held_by i o nodes; next = next }) → IsSome o
    → IsHeld i (record { nodes = nodes; next = next }) (record { nodes = held_by i o nodes; next = next })
held_from nodes next i None is sound some = absurd (let f : ⊥ = cc in f)
held_from nodes next i (Some v) is sound some = changed_held nodes next i v is sound

lowered : (nodes : List (ℕ × Node)) (next i : ℕ) (v : Node) → node_in nodes i ≡ Some v → 0 < v.holds → (v.linked ≡ false → v.holds ≡ 1 → ⊥)
    → IsSound (record { nodes = changed_node i (with_holds (v.holds - 1) v) nodes; next = next })
    → IsReleased i (record { nodes = nodes; next = next }) (record { nodes = changed_node i (with_holds (v.holds - 1) v) nodes; next = next })
unfolding holds_in kind_in
lowered nodes next i v is some stays sound =
    let w : Node = with_holds (v.holds - 1) v in
    let now : holds_by (node_in (changed_node i w nodes) i) ≡ v.holds - 1 = ap holds_by (set_here nodes i v w is) in
    let was : holds_by (node_in nodes i) ≡ v.holds = ap holds_by is in
    record {
      others = λ other apart. set_there nodes i other v w is (λ same. apart (sym same));
      kinds = λ kind many same. set_by kind_by nodes i v w is refl i ∙ same;
      linked = λ linked. set_by kind_by nodes i v w is refl i;
      gone = λ lost last. absurd (stays (sym (ap linked_by is) ∙ lost) (sym was ∙ last));
      holds = omega arith;
      bytes = λ has. set_by bytes_by nodes i v w is refl i;
      names = λ k. set_by names_by nodes i v w is refl k;
      paths = λ from path apart. paths_same (record { nodes = nodes; next = next }) (record { nodes = changed_node i w nodes; next = next })
          (λ at k part. set_by (λ (o : Option Node). step_at at o part) nodes i v w is refl k) from path;
      sound = sound;
    }

no_kind : (o : Option Node) → o ≡ None → IsSome (kind_by o) → ⊥
no_kind None none some = let f : ⊥ = cc in f
no_kind (Some node) none some = let f : ⊥ = cc in f

dropped_names : (nodes : List (ℕ × Node)) (next count bytes i k : ℕ) (v : Node) → IsWhole nodes next count bytes → node_in nodes i ≡ Some v → v.linked ≡ false → names_by (node_in (without_node i nodes) k) ≡ names_by (node_in nodes k)
dropped_names nodes next count bytes i k v whole is lost =
    elim (cases_eq i k) [
      | inl same ↦
          ap names_by (sym (ap (λ (x : ℕ). node_in (without_node i nodes) x) same) ∙ cut_here nodes i whole.sorted)
          ∙ sym (ap names_by (ap (node_in nodes) (sym same) ∙ is) ∙ (whole.kept i v is lost).empty)
      | inr apart ↦ ap names_by (cut_there nodes i k whole.sorted apart)
    ]

dropped : (nodes : List (ℕ × Node)) (next count bytes i : ℕ) (v : Node) → IsWhole nodes next count bytes → node_in nodes i ≡ Some v → v.holds ≡ 1 → v.linked ≡ false
    → IsSound (record { nodes = without_node i nodes; next = next })
    → IsReleased i (record { nodes = nodes; next = next }) (record { nodes = without_node i nodes; next = next })
unfolding holds_in kind_in
dropped nodes next count bytes i v whole is one lost sound =
    let now : holds_by (node_in (without_node i nodes) i) ≡ 0 = ap holds_by (cut_here nodes i whole.sorted) in
    let was : holds_by (node_in nodes i) ≡ v.holds = ap holds_by is in
    record {
      others = λ other apart. cut_there nodes i other whole.sorted (λ same. apart (sym same));
      kinds = λ kind many same. absurd (omega arith);
      linked = λ linked. absurd (let both : true ≡ false = sym linked ∙ (ap linked_by is ∙ lost) in let f : ⊥ = cc in f);
      gone = λ left last. ap kind_by (cut_here nodes i whole.sorted);
      holds = omega arith;
      bytes = λ has. absurd (no_kind (node_in (without_node i nodes) i) (cut_here nodes i whole.sorted) has);
      names = λ k. dropped_names nodes next count bytes i k v whole is lost;
      paths = walked_left nodes next count bytes whole i v is lost;
      sound = sound;
    }

one_from : (n : ℕ) (b : Bool) → (n == 1) && b ≡ true → n ≡ 1
one_from n b goes = by_test (n == 1) refl goes
  where
    by_test : (t : Bool) → (n == 1) ≡ t → t && b ≡ true → n ≡ 1
    by_test true same goes = grind arith
    by_test false same goes = absurd (let f : ⊥ = cc in f)

lost_from : (a b : Bool) → a && not b ≡ true → b ≡ false
lost_from true true goes = absurd (let f : ⊥ = cc in f)
lost_from true false goes = refl
lost_from false b goes = absurd (let f : ⊥ = cc in f)

stays_from : (n : ℕ) (b : Bool) → (n == 1) && not b ≡ false → b ≡ false → n ≡ 1 → ⊥
stays_from n true stays lost one = let f : ⊥ = cc in f
stays_from n false stays lost one = let t : (1 == 1) && true ≡ false = subst (λ (x : ℕ). (x == 1) && true ≡ false) one stays in let f : ⊥ = cc in f

released_goes : (nodes : List (ℕ × Node)) (next count bytes i : ℕ) (v : Node) (goes : Bool) → IsWhole nodes next count bytes → node_in nodes i ≡ Some v → ((v.holds == 1) && not v.linked) ≡ goes → 0 < v.holds
    → IsSound (record { nodes = if goes then without_node i nodes else changed_node i (with_holds (v.holds - 1) v) nodes; next = next })
    → IsReleased i (record { nodes = nodes; next = next }) (record { nodes = if goes then without_node i nodes else changed_node i (with_holds (v.holds - 1) v) nodes; next = next })
released_goes nodes next count bytes i v true whole is same some sound = dropped nodes next count bytes i v whole is (one_from v.holds (not v.linked) same) (lost_from (v.holds == 1) v.linked same) sound
released_goes nodes next count bytes i v false whole is same some sound = lowered nodes next i v is some (stays_from v.holds v.linked same) sound

released_from : (nodes : List (ℕ × Node)) (next count bytes i : ℕ) (o : Option Node) → IsWhole nodes next count bytes → node_in nodes i ≡ o → 0 < holds_by o → IsSound (record { nodes = released_by i o nodes; next = next })
    → IsReleased i (record { nodes = nodes; next = next }) (record { nodes = released_by i o nodes; next = next })
released_from nodes next count bytes i None whole is some sound = absurd (omega arith)
released_from nodes next count bytes i (Some v) whole is some sound = released_goes nodes next count bytes i v ((v.holds == 1) && not v.linked) whole is refl some sound

-- ---- an entry is made

named_kind : (name : List ℕ) (inode : ℕ) (body : Body) → kind_of (with_name name inode body) ≡ kind_of body
named_kind name inode (Bytes bytes) = refl
named_kind name inode (Names d) = refl

named_bytes : (name : List ℕ) (inode : ℕ) (body : Body) → bytes_of (with_name name inode body) ≡ bytes_of body
named_bytes name inode (Bytes bytes) = refl
named_bytes name inode (Names d) = refl

no_names : (nodes : List (ℕ × Node)) (spot : Spot) (kind : Kind) → names_of (new_node kind spot nodes).body ≡ []
no_names nodes spot File = refl
no_names nodes spot Dir = refl

entry_kept : (name part : List ℕ) (inode n : ℕ) (d : Directory) (hit : Bool) → is_eq (slice_cmp nat_cmp part name) ≡ hit → entry_named name d.names ≡ None → found (entry_named part d.names) ≡ Ok n
    → found (cond hit (Some inode) (entry_named part d.names)) ≡ Ok n
entry_kept name part inode n d true same none ok =
    let e : entry_named part d.names ≡ None = ap (λ (x : List ℕ). entry_named x d.names) (same_name part name same) ∙ none in
    absurd (let g : found (entry_named part d.names) ≡ Err ENOENT = ap found e in let f : ⊥ = cc in f)
entry_kept name part inode n d false same none ok = ok

pub looked_kept : (a b linked : Bool) (at n : ℕ) (parent : ℕ) (old new : Result ℕ Errno) → (old ≡ Ok n → new ≡ Ok n)
    → (if a then Ok at else if not linked then Err ENOENT else if b then Ok parent else old) ≡ Ok n → (if a then Ok at else if not linked then Err ENOENT else if b then Ok parent else new) ≡ Ok n
looked_kept true b linked at n parent old new go ok = ok
looked_kept false b false at n parent old new go ok = absurd (let f : ⊥ = cc in f)
looked_kept false true true at n parent old new go ok = ok
looked_kept false false true at n parent old new go ok = go ok

more_kept : (at inode n : ℕ) (name part : List ℕ) (linked : Bool) (d : Directory) (body : Body) → body ≡ Names d → entry_named name d.names ≡ None → step_in at linked body part ≡ Ok n
    → step_in at linked (with_name name inode body) part ≡ Ok n
more_kept at inode n name part linked d (Bytes bytes) same none ok = absurd (let f : ⊥ = cc in f)
more_kept at inode n name part linked d (Names e) same none ok =
    let eq : e ≡ d = cc in
    let empty : entry_named name e.names ≡ None = ap (λ (x : Directory). entry_named name x.names) eq ∙ none in
    looked_kept (is_dot part) (is_dots part) linked at n e.parent (found (entry_named part e.names)) (found (entry_named part (with_entry name inode e.names)))
    (λ old. ap found (lookup-insert_entry nat_list_cmp_total name part inode e.names) ∙ entry_kept name part inode n e (is_eq (slice_cmp nat_cmp part name)) refl empty old) ok

pub long_kept : (long : Bool) (old new : Result ℕ Errno) (n : ℕ) → (old ≡ Ok n → new ≡ Ok n) → (if long then Err ENAMETOOLONG else old) ≡ Ok n → (if long then Err ENAMETOOLONG else new) ≡ Ok n
long_kept true old new n go ok = absurd (let f : ⊥ = cc in f)
long_kept false old new n go ok = go ok

then_kept : (r s : Result ℕ Errno) (f g : ℕ → Result ℕ Errno) (n : ℕ) → ((m : ℕ) → r ≡ Ok m → s ≡ Ok m) → ((m : ℕ) → f m ≡ Ok n → g m ≡ Ok n) → and_then r f ≡ Ok n → and_then s g ≡ Ok n
then_kept (Err errno) s f g n first rest ok = absurd (let f : ⊥ = cc in f)
then_kept (Ok m) s f g n first rest ok = ap (λ (x : Result ℕ Errno). and_then x g) (first m refl) ∙ rest m ok

pub follow_kept : (old new : List (ℕ × Node)) → ((at n : ℕ) (part : List ℕ) → step old at part ≡ Ok n → step new at part ≡ Ok n) → (at n : ℕ) (parts : List (List ℕ)) → follow old at parts ≡ Ok n → follow new at parts ≡ Ok n
unfolding follow
follow_kept old new kept at n [] ok = ok
follow_kept old new kept at n (part ∷ rest) ok =
    then_kept (step old at part) (step new at part) (λ m. follow old m rest) (λ m. follow new m rest) n (λ m same. kept at m part same) (λ m same. follow_kept old new kept m n rest same) ok

pub unless_kept : (o : Option Errno) (old new : Result ℕ Errno) (n : ℕ) → (old ≡ Ok n → new ≡ Ok n) → unless o old ≡ Ok n → unless o new ≡ Ok n
unless_kept None old new n go ok = go ok
unless_kept (Some errno) old new n go ok = absurd (let f : ⊥ = cc in f)

module _ (nodes : List (ℕ × Node)) (next count bytes at : ℕ) (name : List ℕ) (kind : Kind) (is : IsWhole nodes next count bytes) (can : IsMakeable nodes at name) (plain : has_slash name ≡ false) where
  abbrev node : Node
  node = new_node kind (record { at = at; name = name }) nodes

  abbrev grown : List (ℕ × Node)
  grown = with_made at name next node nodes

  abbrev old_tree : Tree
  old_tree = record { nodes = nodes; next = next }

  abbrev new_tree : Tree
  new_tree = record { nodes = grown; next = next + 1 }

  put_by : {X : Type 0} (f : Option Node → X) → f (Some (node_with name next can.node)) ≡ f (Some can.node) → (k : ℕ) → k ≢ next → f (node_in grown k) ≡ f (node_in nodes k)
  put_by f same k apart = made_by nodes next count bytes at name node is can plain (is_linked nodes (record { at = at; name = name }) kind) (is_new nodes at name kind can) (is_light nodes (record { at = at; name = name }) kind) f same k apart

  put_next : node_in grown next ≡ Some node
  put_next = made_next nodes next count bytes at name node is can plain (is_linked nodes (record { at = at; name = name }) kind) (is_new nodes at name kind can) (is_light nodes (record { at = at; name = name }) kind)

  put_at : node_in grown at ≡ Some (node_with name next can.node)
  put_at = made_at_is nodes next count bytes at name node is can plain (is_linked nodes (record { at = at; name = name }) kind) (is_new nodes at name kind can) (is_light nodes (record { at = at; name = name }) kind)

  put_other : (k : ℕ) → k ≢ next → k ≢ at → node_in grown k ≡ node_in nodes k
  put_other = made_other nodes next count bytes at name node is can plain (is_linked nodes (record { at = at; name = name }) kind) (is_new nodes at name kind can) (is_light nodes (record { at = at; name = name }) kind)

  next_none : node_in nodes next ≡ None
  next_none = is.unused next (omega arith)

  not_next : (k : ℕ) → IsSome (node_in nodes k) → k ≢ next
  not_next k some same = let none : node_in nodes k ≡ None = ap (node_in nodes) same ∙ next_none in let f : ⊥ = cc in f

  put_kind : kind_in new_tree next ≡ Some kind
  unfolding kind_in
  put_kind = ap kind_by put_next ∙ ap (λ (x : Kind). Some x) (has_kind nodes (record { at = at; name = name }) kind)

  put_holds : (k : ℕ) → holds_by (node_in grown k) ≡ holds_by (node_in nodes k)
  put_holds k =
      elim (cases_eq k next) [
        | inl same ↦ ap (λ (x : ℕ). holds_by (node_in grown x)) same ∙ (ap holds_by put_next ∙ (is_free nodes (record { at = at; name = name }) kind ∙ sym (ap (λ (x : ℕ). holds_by (node_in nodes x)) same ∙ ap holds_by next_none)))
        | inr apart ↦ put_by holds_by refl k apart
      ]

  at_kept : (k n : ℕ) (part : List ℕ) → step_at k (node_in nodes k) part ≡ Ok n → step_at k (node_in grown k) part ≡ Ok n
  at_kept k n part ok =
      elim (cases_eq k next) [
        | inl same ↦ absurd (let none : step_at k (node_in nodes k) part ≡ Err ENOENT = ap (λ (o : Option Node). step_at k o part) (ap (node_in nodes) same ∙ next_none) in let f : ⊥ = cc in f)
        | inr apart ↦ elim (cases_eq k at) [
          | inl same ↦
              let here : node_in nodes k ≡ Some can.node = ap (node_in nodes) same ∙ can.found in
              let after : node_in grown k ≡ Some (node_with name next can.node) = ap (node_in grown) same ∙ put_at in
              ap (λ (o : Option Node). step_at k o part) after ∙ more_kept k next n name part can.node.linked can.directory can.node.body can.body can.absent (sym (ap (λ (o : Option Node). step_at k o part) here) ∙ ok)
          | inr away ↦ ap (λ (o : Option Node). step_at k o part) (put_other k apart away) ∙ ok
        ]
      ]

  pub step_kept : (k n : ℕ) (part : List ℕ) → step nodes k part ≡ Ok n → step grown k part ≡ Ok n
  unfolding step
  step_kept k n part ok = long_kept (nat_lt 255 (length part)) (step_at k (node_in nodes k) part) (step_at k (node_in grown k) part) n (at_kept k n part) ok

  put_paths : (from : ℕ) (path : List ℕ) (n : ℕ) → walked old_tree from path ≡ Ok n → walked new_tree from path ≡ Ok n
  unfolding walked
  put_paths from path n ok =
      unless_kept (path_refused path) (follow nodes (start_of from path) (parts path)) (follow grown (start_of from path) (parts path)) n (follow_kept nodes grown step_kept (start_of from path) n (parts path)) ok

  put_bytes : (k : ℕ) → bytes_by (node_in grown k) ≡ bytes_by (node_in nodes k)
  put_bytes k =
      elim (cases_eq k next) [
        | inl same ↦ ap (λ (x : ℕ). bytes_by (node_in grown x)) same ∙ (ap bytes_by put_next ∙ (is_light nodes (record { at = at; name = name }) kind ∙ sym (ap (λ (x : ℕ). bytes_by (node_in nodes x)) same ∙ ap bytes_by next_none)))
        | inr apart ↦ put_by bytes_by (named_bytes name next can.node.body) k apart
      ]

  put_names : (k : ℕ) → k ≢ at → names_by (node_in grown k) ≡ names_by (node_in nodes k)
  put_names k away =
      elim (cases_eq k next) [
        | inl same ↦ ap (λ (x : ℕ). names_by (node_in grown x)) same ∙ (ap names_by put_next ∙ (no_names nodes (record { at = at; name = name }) kind ∙ sym (ap (λ (x : ℕ). names_by (node_in nodes x)) same ∙ ap names_by next_none)))
        | inr apart ↦ ap names_by (put_other k apart away)
      ]

  put_free : names_by (node_in nodes at) ≡ can.directory.names
  put_free = ap names_by can.found ∙ ap names_of can.body

  pub put_gains : GainsName (record { at = at; name = name }) next old_tree new_tree
  put_gains = record {
    free = ap (entry_named name) put_free ∙ can.absent;
    here = ap names_by put_at ∙ (ap (λ (b : Body). names_of (with_name name next b)) can.body ∙ ap (with_entry name next) (sym put_free));
    others = put_names;
  }

  pub put_made : IsMade kind next old_tree new_tree
  unfolding kind_in
  put_made = record {
    made = put_kind;
    there = node_has new_tree next (is_some_from (node_in grown next) node put_next);
    fresh = ap kind_by next_none;
    bytes = put_bytes;
    sound = sound_whole grown (next + 1) (count + 1) bytes (put_from nodes next count bytes at name kind is can plain);
    kinds = kinds_same old_tree new_tree (λ k some. put_by kind_by (ap (λ (x : Kind). Some x) (named_kind name next can.node.body)) k (not_next k some));
    holds = holds_same old_tree new_tree put_holds;
    paths = put_paths;
  }

pub is_made : (tree : Tree) (nodes : List (ℕ × Node)) (next count bytes at : ℕ) (name : List ℕ) (kind : Kind) → record { nodes = nodes; next = next } ≡ tree → IsWhole nodes next count bytes
    → IsMakeable tree.nodes at name → has_slash name ≡ false
    → IsMade kind next tree (record { nodes = with_made at name next (new_node kind (record { at = at; name = name }) tree.nodes) nodes; next = next + 1 })
is_made tree nodes next count bytes at name kind view is =
    subst (λ (t : Tree). IsMakeable t.nodes at name → has_slash name ≡ false → IsMade kind next t (record { nodes = with_made at name next (new_node kind (record { at = at; name = name }) t.nodes) nodes; next = next + 1 })) view
    (put_made nodes next count bytes at name kind is)

pub has_gained : (tree : Tree) (nodes : List (ℕ × Node)) (next count bytes at : ℕ) (name : List ℕ) (kind : Kind) → record { nodes = nodes; next = next } ≡ tree → IsWhole nodes next count bytes
    → IsMakeable tree.nodes at name → has_slash name ≡ false
    → GainsName (record { at = at; name = name }) next tree (record { nodes = with_made at name next (new_node kind (record { at = at; name = name }) tree.nodes) nodes; next = next + 1 })
has_gained tree nodes next count bytes at name kind view is =
    subst (λ (t : Tree). IsMakeable t.nodes at name → has_slash name ≡ false → GainsName (record { at = at; name = name }) next t (record { nodes = with_made at name next (new_node kind (record { at = at; name = name }) t.nodes) nodes; next = next + 1 })) view
    (put_gains nodes next count bytes at name kind is)

-- ---- with what the code has in hand

pub is_held_in : (tree : Tree) (nodes : List (ℕ × Node)) (next count bytes i : ℕ) → record { nodes = nodes; next = next } ≡ tree → IsWhole nodes next count bytes → Has tree i → IsHeld i tree (record { nodes = held_by i (node_in nodes i) nodes; next = next })
is_held_in tree nodes next count bytes i view whole =
    subst (λ (t : Tree). Has t i → IsHeld i t (record { nodes = held_by i (node_in nodes i) nodes; next = next })) view
    (λ has. held_from nodes next i (node_in nodes i) refl (sound_whole (held_by i (node_in nodes i) nodes) next count bytes (held_whole nodes next count bytes i whole)) (has_node (record { nodes = nodes; next = next }) i has))

pub is_released_in : (tree : Tree) (nodes : List (ℕ × Node)) (next count bytes i : ℕ) → record { nodes = nodes; next = next } ≡ tree → IsWhole nodes next count bytes → 0 < holds_in tree i
    → IsReleased i tree (record { nodes = released_by i (node_in nodes i) nodes; next = next })
unfolding holds_in
is_released_in tree nodes next count bytes i view whole =
    subst (λ (t : Tree). 0 < holds_in t i → IsReleased i t (record { nodes = released_by i (node_in nodes i) nodes; next = next })) view
    (λ some. released_from nodes next count bytes i (node_in nodes i) whole refl some (sound_whole (released_by i (node_in nodes i) nodes) next count bytes (released_whole nodes next count bytes i whole some)))
