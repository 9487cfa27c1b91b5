-- What the calls leave as it was where an entry is taken away.
use Rattle.std.proofs.Common.{◌≡◌, ◌≢◌, ℕ, ◌-◌, ◌<◌, nat_lt, Bool, true, false, cond, not, if◌then◌else◌, List, [], length, Option, Some, None, Result, Ok, Err, ◌⊎◌, inl, inr, refl, sym, ap, subst, ◌∙◌, arith}
use Rattle.std.specs.Prelude.{IfOk}
use Rattle.std.specs.Ordering.{nat_cmp, is_eq}
use Rattle.std.specs.Cmp.Lexicographic.{slice_cmp}
use Rattle.std.proofs.lemmas.Cmp.{nat_list_cmp_total}
use Rattle.std.proofs.lemmas.Bool.{cases_eq}
use Rattle.file_tree.specs.declared.errno.Errno.{Errno}
use Rattle.file_tree.specs.declared.errno.Errno.TheVariants.{ENOENT}
use Rattle.file_tree.specs.declared.node.Node.{Node}
use Rattle.file_tree.specs.declared.node.Directory.{Directory}
use Rattle.file_tree.specs.declared.node.Body.{Body}
use Rattle.file_tree.specs.declared.node.Body.TheVariants.{Bytes, Names}
use Rattle.file_tree.specs.declared.kind.Kind.{Kind}
use Rattle.file_tree.specs.Entries.{entry_named, without_entry, AreRising}
use Rattle.file_tree.specs.Paths.{parts, is_dot, is_dots, path_refused}
use Rattle.file_tree.specs.Nodes.{Tree, node_in, kind_in, kind_by, kind_of, holds_in, holds_by, bytes_of, bytes_by, names_of, names_by, linked_by}
use Rattle.file_tree.specs.Walk.{step, step_at, step_in, found, follow, start_of, walked}
use Rattle.file_tree.specs.Unlinking.{without_name, node_without, marked, with_unlinked}
use Rattle.file_tree.specs.Ready.{IsEntry, IsTakeable}
use Rattle.file_tree.specs.Answers.{IsTaken, LosesName}
use Rattle.file_tree.specs.Whole.{Dir, place_of, linked_place, place_by, places, entries_in, IsWhole}
use Rattle.file_tree.proofs.LookFacts.{lookup-removed}
use Rattle.file_tree.proofs.GoneFacts.{left, left_by_other, left_target, left_here, left_other}
use Rattle.file_tree.proofs.CallFacts.{take_from}
use Rattle.file_tree.proofs.SoundFacts.{sound_whole, walked_linked}
use Rattle.file_tree.proofs.StayFacts.{looked_kept, long_kept, unless_kept, follow_kept}

less_kind : (name : List ℕ) (body : Body) → kind_of (without_name name body) ≡ kind_of body
less_kind name (Bytes bytes) = refl
less_kind name (Names d) = refl

less_bytes : (name : List ℕ) (body : Body) → bytes_of (without_name name body) ≡ bytes_of body
less_bytes name (Bytes bytes) = refl
less_bytes name (Names d) = refl

-- ---- what a step finds afterwards it found before

was_named : (n : ℕ) (hit : Bool) (old : Option ℕ) → found (cond hit None old) ≡ Ok n → found old ≡ Ok n
was_named n true old ok = absurd (let f : ⊥ = cc in f)
was_named n false old ok = ok

was_less : (at n : ℕ) (name part : List ℕ) (linked : Bool) (d : Directory) → AreRising d.names → step_in at linked (without_name name (Names d)) part ≡ Ok n → step_in at linked (Names d) part ≡ Ok n
was_less at n name part linked d rising ok =
    looked_kept (is_dot part) (is_dots part) linked at n d.parent (found (entry_named part (without_entry name d.names))) (found (entry_named part d.names))
    (λ now. was_named n (is_eq (slice_cmp nat_cmp name part)) (entry_named part d.names) (sym (ap found (lookup-removed nat_list_cmp_total name part d.names rising)) ∙ now)) ok

was_marked : (at n : ℕ) (part : List ℕ) (dotted linked : Bool) (body : Body) → is_dot part ≡ dotted → step_in at false body part ≡ Ok n → step_in at linked body part ≡ Ok n
was_marked at n part dotted linked (Bytes bytes) same ok = absurd (let f : ⊥ = cc in f)
was_marked at n part true linked (Names d) same ok =
    let now : step_in at false (Names d) part ≡ Ok at = ap (λ (c : Bool). if c then Ok at else Err ENOENT) same in
    let was : step_in at linked (Names d) part ≡ Ok at = ap (λ (c : Bool). if c then Ok at else if not linked then Err ENOENT else if is_dots part then Ok d.parent else found (entry_named part d.names)) same in
    was ∙ (sym now ∙ ok)
was_marked at n part false linked (Names d) same ok =
    absurd (let now : step_in at false (Names d) part ≡ Err ENOENT = ap (λ (c : Bool). if c then Ok at else Err ENOENT) same in let f : ⊥ = cc in f)

-- ---- all but the entry and its name stay

module _ (nodes : List (ℕ × Node)) (next count bytes at inode : ℕ) (name : List ℕ) (is : IsWhole nodes next count bytes) (e : IsEntry nodes at name inode) (t : IsTakeable nodes name inode) where
  abbrev gone_nodes : List (ℕ × Node)
  gone_nodes = with_unlinked at name inode nodes

  other_by : {X : Type 0} (f : Option Node → X) → f (Some (node_without name e.node)) ≡ f (Some e.node) → (k : ℕ) → k ≢ inode → f (node_in gone_nodes k) ≡ f (node_in nodes k)
  other_by f same k apart =
      left_by_other nodes next count bytes at inode name e.node t.node e.directory is e.found e.linked e.body e.entry t.found t.empty gone_nodes
      (left nodes next count bytes at inode name e.node t.node e.directory is e.found e.linked e.body e.entry t.found t.empty) f same k apart

  at_target : ((node_in gone_nodes inode ≡ None) × (t.node.holds ≡ 0)) ⊎ ((node_in gone_nodes inode ≡ Some (marked t.node)) × (0 < t.node.holds))
  at_target =
      left_target nodes next count bytes at inode name e.node t.node e.directory is e.found e.linked e.body e.entry t.found t.empty gone_nodes
      (left nodes next count bytes at inode name e.node t.node e.directory is e.found e.linked e.body e.entry t.found t.empty)

  gone_kind_other : (k : ℕ) → k ≢ inode → kind_by (node_in gone_nodes k) ≡ kind_by (node_in nodes k)
  gone_kind_other k apart = other_by kind_by (ap (λ (x : Kind). Some x) (less_kind name e.node.body)) k apart

  gone_kind : (k : ℕ) → 0 < holds_by (node_in nodes k) → kind_by (node_in gone_nodes k) ≡ kind_by (node_in nodes k)
  gone_kind k some =
      elim (cases_eq k inode) [
        | inl same ↦
            let was : node_in nodes k ≡ Some t.node = ap (node_in nodes) same ∙ t.found in
            let held : holds_by (node_in nodes k) ≡ t.node.holds = ap holds_by was in
            elim at_target [
              | inl none ↦ absurd (let z = none.1 in omega arith)
              | inr kept ↦ ap kind_by (ap (node_in gone_nodes) same ∙ kept.0) ∙ sym (ap kind_by was)
            ]
        | inr apart ↦ gone_kind_other k apart
      ]

  gone_holds : (k : ℕ) → holds_by (node_in gone_nodes k) ≡ holds_by (node_in nodes k)
  gone_holds k =
      elim (cases_eq k inode) [
        | inl same ↦
            let was : holds_by (node_in nodes k) ≡ t.node.holds = ap holds_by (ap (node_in nodes) same ∙ t.found) in
            elim at_target [
              | inl none ↦ ap holds_by (ap (node_in gone_nodes) same ∙ none.0) ∙ sym (was ∙ none.1)
              | inr kept ↦ ap holds_by (ap (node_in gone_nodes) same ∙ kept.0) ∙ sym was
            ]
        | inr apart ↦ other_by holds_by refl k apart
      ]

  gone_here : node_in gone_nodes at ≡ Some (node_without name e.node)
  gone_here =
      left_here nodes next count bytes at inode name e.node t.node e.directory is e.found e.linked e.body e.entry t.found t.empty gone_nodes
      (left nodes next count bytes at inode name e.node t.node e.directory is e.found e.linked e.body e.entry t.found t.empty)

  gone_other : (k : ℕ) → k ≢ inode → k ≢ at → node_in gone_nodes k ≡ node_in nodes k
  gone_other =
      left_other nodes next count bytes at inode name e.node t.node e.directory is e.found e.linked e.body e.entry t.found t.empty gone_nodes
      (left nodes next count bytes at inode name e.node t.node e.directory is e.found e.linked e.body e.entry t.found t.empty)

  target_holds : holds_by (node_in nodes inode) ≡ t.node.holds
  target_holds = ap holds_by t.found

  gone_bytes : 0 < holds_by (node_in nodes inode) → bytes_by (node_in gone_nodes inode) ≡ bytes_by (node_in nodes inode)
  gone_bytes some =
      let held = target_holds in
      elim at_target [
        | inl none ↦ absurd (let z = none.1 in omega arith)
        | inr kept ↦ ap bytes_by kept.0 ∙ sym (ap bytes_by t.found)
      ]

  gone_gone : holds_by (node_in nodes inode) ≡ 0 → kind_by (node_in gone_nodes inode) ≡ None
  gone_gone free =
      let held = target_holds in
      elim at_target [
        | inl none ↦ ap kind_by none.0
        | inr kept ↦ absurd (let z = kept.1 in omega arith)
      ]

  gone_unlinked : linked_by (node_in gone_nodes inode) ≡ false
  gone_unlinked = elim at_target [ inl none ↦ ap linked_by none.0 | inr kept ↦ ap linked_by kept.0 ]

  place_at : places nodes at ≡ Some (Dir e.directory)
  place_at = ap place_by e.found ∙ (ap (λ (b : Bool). linked_place b e.node.body) e.linked ∙ ap (λ (b : Body). Some (place_of b)) e.body)

  was_at : (k n : ℕ) (part : List ℕ) → step_at k (node_in gone_nodes k) part ≡ Ok n → step_at k (node_in nodes k) part ≡ Ok n
  was_at k n part ok =
      elim (cases_eq k inode) [
        | inl same ↦ elim at_target [
          | inl none ↦ absurd (let lost : step_at k (node_in gone_nodes k) part ≡ Err ENOENT = ap (λ (o : Option Node). step_at k o part) (ap (node_in gone_nodes) same ∙ none.0) in let f : ⊥ = cc in f)
          | inr kept ↦
              let now : step_in k false t.node.body part ≡ Ok n = sym (ap (λ (o : Option Node). step_at k o part) (ap (node_in gone_nodes) same ∙ kept.0)) ∙ ok in
              ap (λ (o : Option Node). step_at k o part) (ap (node_in nodes) same ∙ t.found) ∙ was_marked k n part (is_dot part) t.node.linked t.node.body refl now
        ]
        | inr apart ↦ elim (cases_eq k at) [
          | inl same ↦
              let now : step_in k e.node.linked (without_name name e.node.body) part ≡ Ok n = sym (ap (λ (o : Option Node). step_at k o part) (ap (node_in gone_nodes) same ∙ gone_here)) ∙ ok in
              let less : step_in k e.node.linked (without_name name (Names e.directory)) part ≡ Ok n = sym (ap (λ (b : Body). step_in k e.node.linked (without_name name b) part) e.body) ∙ now in
              ap (λ (o : Option Node). step_at k o part) (ap (node_in nodes) same ∙ e.found)
              ∙ (ap (λ (b : Body). step_in k e.node.linked b part) e.body ∙ was_less k n name part e.node.linked e.directory (subst AreRising (ap entries_in place_at) (is.tree.rising at)) less)
          | inr away ↦ sym (ap (λ (o : Option Node). step_at k o part) (gone_other k apart away)) ∙ ok
        ]
      ]

  was_step : (k n : ℕ) (part : List ℕ) → step gone_nodes k part ≡ Ok n → step nodes k part ≡ Ok n
  unfolding step
  was_step k n part ok = long_kept (nat_lt 255 (length part)) (step_at k (node_in gone_nodes k) part) (step_at k (node_in nodes k) part) n (was_at k n part) ok

  was_walked : (from : ℕ) (path : List ℕ) (n : ℕ) → walked (record { nodes = gone_nodes; next = next }) from path ≡ Ok n → walked (record { nodes = nodes; next = next }) from path ≡ Ok n
  unfolding walked
  was_walked from path n ok =
      unless_kept (path_refused path) (follow gone_nodes (start_of from path) (parts path)) (follow nodes (start_of from path) (parts path)) n (follow_kept gone_nodes nodes was_step (start_of from path) n (parts path)) ok

  gone_whole : IsWhole gone_nodes next (count - 1) (bytes - length (bytes_by (node_in nodes inode)))
  gone_whole = (take_from nodes next count bytes at inode name is e t).2

  gone_lost : (from : ℕ) (path : List ℕ) → walked (record { nodes = gone_nodes; next = next }) from path ≡ Ok inode → from ≡ inode
  gone_lost from path ok =
      elim (cases_eq from inode) [
        | inl same ↦ same
        | inr apart ↦
            let linked : linked_by (node_in gone_nodes inode) ≡ true = by_answer (walked (record { nodes = gone_nodes; next = next }) from path) ok (walked_linked gone_nodes next (count - 1) (bytes - length (bytes_by (node_in nodes inode))) gone_whole from path) (λ e. apart (sym e)) in
            let both : true ≡ false = sym linked ∙ gone_unlinked in
            absurd (let f : ⊥ = cc in f)
      ]
    where
      by_answer : (r : Result ℕ Errno) → r ≡ Ok inode → IfOk r (λ n. n ≢ from → linked_by (node_in gone_nodes n) ≡ true) → inode ≢ from → linked_by (node_in gone_nodes inode) ≡ true
      by_answer (Err errno) same told apart = absurd (let f : ⊥ = cc in f)
      by_answer (Ok n) same told apart =
          let e : n ≡ inode = cc in
          subst (λ (x : ℕ). x ≢ from → linked_by (node_in gone_nodes x) ≡ true) e told apart

  gone_names : (k : ℕ) → k ≢ at → names_by (node_in gone_nodes k) ≡ names_by (node_in nodes k)
  gone_names k away =
      elim (cases_eq k inode) [
        | inl same ↦
            let was : names_by (node_in nodes k) ≡ [] = ap names_by (ap (node_in nodes) same ∙ t.found) ∙ t.empty in
            elim at_target [
              | inl none ↦ ap names_by (ap (node_in gone_nodes) same ∙ none.0) ∙ sym was
              | inr kept ↦ ap names_by (ap (node_in gone_nodes) same ∙ kept.0) ∙ (t.empty ∙ sym was)
            ]
        | inr apart ↦ ap names_by (gone_other k apart away)
      ]

  names_at : names_by (node_in nodes at) ≡ e.directory.names
  names_at = ap names_by e.found ∙ ap names_of e.body

  gone_loses : LosesName (record { at = at; name = name }) inode (record { nodes = nodes; next = next }) (record { nodes = gone_nodes; next = next })
  gone_loses = record {
    was = ap (entry_named name) names_at ∙ e.entry;
    here = ap names_by gone_here ∙ (ap (λ (b : Body). names_of (without_name name b)) e.body ∙ ap (without_entry name) (sym names_at));
    others = gone_names;
  }

  gone_taken : IsTaken inode (record { nodes = nodes; next = next }) (record { nodes = gone_nodes; next = next })
  unfolding kind_in holds_in
  gone_taken = record {
    kinds = λ other kind some same. gone_kind other some ∙ same;
    others = λ other apart. gone_kind_other other apart;
    holds = gone_holds;
    bytes = λ other apart. other_by bytes_by (less_bytes name e.node.body) other apart;
    kept = gone_bytes;
    gone = gone_gone;
    unlinked = gone_unlinked;
    paths = was_walked;
    lost = gone_lost;
    sound = sound_whole gone_nodes next (count - 1) (bytes - length (bytes_by (node_in nodes inode))) gone_whole;
  }

pub is_taken : (tree : Tree) (nodes : List (ℕ × Node)) (next count bytes at inode : ℕ) (name : List ℕ) → record { nodes = nodes; next = next } ≡ tree → IsWhole nodes next count bytes
    → IsEntry tree.nodes at name inode → IsTakeable tree.nodes name inode → IsTaken inode tree (record { nodes = with_unlinked at name inode nodes; next = next })
is_taken tree nodes next count bytes at inode name view is =
    subst (λ (u : Tree). IsEntry u.nodes at name inode → IsTakeable u.nodes name inode → IsTaken inode u (record { nodes = with_unlinked at name inode nodes; next = next })) view
    (λ e t. gone_taken nodes next count bytes at inode name is e t)

pub has_lost : (tree : Tree) (nodes : List (ℕ × Node)) (next count bytes at inode : ℕ) (name : List ℕ) → record { nodes = nodes; next = next } ≡ tree → IsWhole nodes next count bytes
    → IsEntry tree.nodes at name inode → IsTakeable tree.nodes name inode → LosesName (record { at = at; name = name }) inode tree (record { nodes = with_unlinked at name inode nodes; next = next })
has_lost tree nodes next count bytes at inode name view is =
    subst (λ (u : Tree). IsEntry u.nodes at name inode → IsTakeable u.nodes name inode → LosesName (record { at = at; name = name }) inode u (record { nodes = with_unlinked at name inode nodes; next = next })) view
    (λ e t. gone_loses nodes next count bytes at inode name is e t)
