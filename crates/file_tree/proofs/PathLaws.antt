-- What was made is found by its path, and what was taken away isn't found.
use Rattle.std.proofs.Common.{◌≡◌, ℕ, ◌+◌, ◌<◌, ◌≤◌, ◌==◌, ◌||◌, nat_lt, Bool, true, false, cond, not, if◌then◌else◌, List, [], ◌∷◌, length, Option, Some, None, Result, Ok, Err, ◌⊎◌, inl, inr, refl, sym, ap, subst, ◌∙◌, arith}
use Rattle.std.specs.Ordering.{nat_cmp, is_eq}
use Rattle.std.specs.Cmp.Lexicographic.{slice_cmp}
use Rattle.std.proofs.lemmas.Cmp.{nat_list_cmp_total}
use Rattle.std.proofs.lemmas.Bool.{cases_eq}
use Rattle.file_tree.specs.declared.errno.Errno.{Errno}
use Rattle.file_tree.specs.declared.errno.Errno.TheVariants.{ENOENT, ENAMETOOLONG}
use Rattle.file_tree.specs.declared.node.Node.{Node}
use Rattle.file_tree.specs.declared.node.Directory.{Directory}
use Rattle.file_tree.specs.declared.node.Body.{Body}
use Rattle.file_tree.specs.declared.node.Body.TheVariants.{Bytes, Names}
use Rattle.file_tree.specs.declared.kind.Kind.{Kind}
use Rattle.file_tree.specs.declared.kind.Kind.TheVariants.{File, Dir}
use Rattle.file_tree.specs.Entries.{entry_named, with_entry, without_entry, AreRising}
use Rattle.file_tree.specs.Paths.{names, dot, is_dot, is_dots, ends_in_slash}
use Rattle.file_tree.specs.Nodes.{Tree, node_in}
use Rattle.file_tree.specs.Walk.{step, step_at, step_in, found, follow, and_then, unless, start_of, walked, Spot, spotted, spot_of}
use Rattle.file_tree.specs.Making.{with_name, node_with, with_made, new_node, is_itself, slash_refused, make_refused, made_at}
use Rattle.file_tree.specs.Unlinking.{without_name, with_unlinked}
use Rattle.file_tree.specs.Ready.{has_slash, IsMakeable, IsEntry, IsTakeable}
use Rattle.file_tree.specs.Whole.{IsWhole, Place, Dir as DirPlace, places, place_by, place_of, linked_place, entries_in}
use Rattle.file_tree.specs.declared.fault.TreeFault.{TreeFault}
use Rattle.file_tree.specs.Answers.{Answers, Leads, Loses}
use Rattle.file_tree.proofs.MadeFacts.{made_next, made_at_is, not_ends}
use Rattle.file_tree.proofs.PutFacts.{is_new, is_linked, is_light}
use Rattle.file_tree.proofs.StayFacts.{step_kept}
use Rattle.file_tree.proofs.GoneFacts.{IsLeft, left}
use Rattle.std.specs.Prelude.{IfOk}
use Rattle.file_tree.proofs.LookFacts.{lookup-insert_entry, lookup-removed, self_name}
use Rattle.file_tree.proofs.WalkFacts.{walk_by, follow_one, spot_from, spot_same}

-- ---- the names of a path lead through its directories to the spot

then_to : (nodes : List (ℕ × Node)) (ns : List (List ℕ)) (spot : Spot) (r s : Result ℕ Errno) → ((m : ℕ) → r ≡ Ok m → s ≡ Ok m)
    → and_then r (λ to. spotted nodes to ns) ≡ Ok spot → (to : ℕ) × ((r ≡ Ok to) × (s ≡ Ok to) × (spotted nodes to ns ≡ Ok spot))
then_to nodes ns spot (Err errno) s first ok = absurd (let f : ⊥ = cc in f)
then_to nodes ns spot (Ok to) s first ok = (to, (refl, first to refl, ok))

pub through : (old new : List (ℕ × Node)) → ((at n : ℕ) (part : List ℕ) → step old at part ≡ Ok n → step new at part ≡ Ok n) → (at : ℕ) (ns : List (List ℕ)) (spot : Spot) → spotted old at ns ≡ Ok spot → 0 < length spot.name
    → follow new at ns ≡ step new spot.at spot.name
unfolding spotted follow
through old new kept at [] spot ok some =
    absurd (let e : record { at = at; name = [] } ≡ spot = (let o = ok in cc) in let z : 0 ≡ length spot.name = ap (λ (s : Spot). length s.name) e in omega arith)
through old new kept at (n ∷ []) spot ok some =
    let e : record { at = at; name = n } ≡ spot = (let o = ok in cc) in
    follow_one new at n ∙ ap (λ (s : Spot). step new s.at s.name) e
through old new kept at (n ∷ m ∷ ns) spot ok some =
    let to = then_to old (m ∷ ns) spot (step old at n) (step new at n) (λ x same. kept at x n same) ok in
    ap (λ (r : Result ℕ Errno). and_then r (λ next. follow new next (m ∷ ns))) to.1.1 ∙ through old new kept to.0 (m ∷ ns) spot to.1.2 some

-- ---- what was made is found

dot_found : (next : ℕ) (node : Node) (d : Directory) → node.body ≡ Names d → step_at next (Some node) dot ≡ Ok next
dot_found next node d same = ap (λ (b : Body). step_in next node.linked b dot) same

pub long_same : (long : Bool) (r : Result ℕ Errno) → long ≡ false → (if long then Err ENAMETOOLONG else r) ≡ r
long_same true r short = absurd (let f : ⊥ = cc in f)
long_same false r short = refl

pub within_from : (n : ℕ) → n ≤ 255 → nat_lt 255 n ≡ false
within_from n low = grind arith

pub not_itself : (name : List ℕ) → is_itself name ≡ false → (0 < length name) × (is_dot name ≡ false)
not_itself [] same = absurd (let f : ⊥ = cc in f)
not_itself (b ∷ name) same = (omega arith, second (length (b ∷ name) == 0) (is_dot (b ∷ name)) same)
  where
    second : (x y : Bool) → x || y ≡ false → y ≡ false
    second true y none = absurd (let f : ⊥ = cc in f)
    second false y none = none

pub looked_named : (at parent n : ℕ) (linked a b : Bool) (r : Result ℕ Errno) → linked ≡ true → a ≡ false → b ≡ false → (if a then Ok at else if not linked then Err ENOENT else if b then Ok parent else r) ≡ r
looked_named at parent n linked true b r is none other = absurd (let f : ⊥ = cc in f)
looked_named at parent n linked false true r is none other = absurd (let f : ⊥ = cc in f)
looked_named at parent n true false false r is none other = refl
looked_named at parent n false false false r is none other = absurd (let f : ⊥ = cc in f)

module _ (nodes : List (ℕ × Node)) (next count bytes at : ℕ) (name : List ℕ) (kind : Kind) (is : IsWhole nodes next count bytes) (can : IsMakeable nodes at name) (plain : has_slash name ≡ false) where
  abbrev grown : List (ℕ × Node)
  grown = with_made at name next (new_node kind (record { at = at; name = name }) nodes) nodes

  here : node_in grown at ≡ Some (node_with name next can.node)
  here = made_at_is nodes next count bytes at name (new_node kind (record { at = at; name = name }) nodes) is can plain (is_linked nodes (record { at = at; name = name }) kind) (is_new nodes at name kind can) (is_light nodes (record { at = at; name = name }) kind)

  there : node_in grown next ≡ Some (new_node kind (record { at = at; name = name }) nodes)
  there = made_next nodes next count bytes at name (new_node kind (record { at = at; name = name }) nodes) is can plain (is_linked nodes (record { at = at; name = name }) kind) (is_new nodes at name kind can) (is_light nodes (record { at = at; name = name }) kind)

  name_found : step grown at name ≡ Ok next
  unfolding step
  name_found =
      let own = not_itself name can.other in
      long_same (nat_lt 255 (length name)) (step_at at (node_in grown at) name) (within_from (length name) can.short)
      ∙ (ap (λ (o : Option Node). step_at at o name) here
      ∙ (ap (λ (b : Body). step_in at can.node.linked (with_name name next b) name) can.body
      ∙ (looked_named at can.directory.parent next can.node.linked (is_dot name) (is_dots name) (found (entry_named name (with_entry name next can.directory.names))) can.linked own.1 can.not_dots
      ∙ ap found (lookup-insert_entry nat_list_cmp_total name name next can.directory.names ∙ ap (λ (b : Bool). cond b (Some next) (entry_named name can.directory.names)) (self_name name)))))

  dot_next : (k : Kind) → k ≡ Dir → step_at next (Some (new_node k (record { at = at; name = name }) nodes)) dot ≡ Ok next
  dot_next File same = absurd (let f : ⊥ = cc in f)
  dot_next Dir same = refl

  dot_step : kind ≡ Dir → step grown next dot ≡ Ok next
  unfolding step
  dot_step is_kind = ap (λ (o : Option Node). step_at next o dot) there ∙ dot_next kind is_kind

  tail_found : (k : Kind) (path : List ℕ) (slash : Bool) → kind ≡ k → ends_in_slash path ≡ slash → slash_refused k path ≡ false → follow grown next (if slash then dot ∷ [] else []) ≡ Ok next
  unfolding follow
  tail_found k path false is_kind same free = refl
  tail_found File path true is_kind same free = absurd (let f : ⊥ = cc in f)
  tail_found Dir path true is_kind same free = follow_one grown next dot ∙ dot_step is_kind

  put_leads : (from : ℕ) (path : List ℕ) → spot_of (record { nodes = nodes; next = next }) from path ≡ Ok (record { at = at; name = name }) → slash_refused kind path ≡ false
      → walked (record { nodes = grown; next = next + 1 }) from path ≡ Ok next
  put_leads from path spot free =
      let own = not_itself name can.other in
      let p = spot_from (record { nodes = nodes; next = next }) from path (record { at = at; name = name }) spot in
      let way : follow grown (start_of from path) (names path) ≡ Ok next =
      through nodes grown (step_kept nodes next count bytes at name kind is can plain) (start_of from path) (names path) (record { at = at; name = name }) p.1 own.0 ∙ name_found in
      walk_by (record { nodes = grown; next = next + 1 }) from path p.0
      ∙ (ap (λ (r : Result ℕ Errno). and_then r (λ n. follow grown n (if ends_in_slash path then dot ∷ [] else []))) way ∙ tail_found kind path (ends_in_slash path) refl refl free)

pub is_led : (tree : Tree) (nodes : List (ℕ × Node)) (next count bytes at : ℕ) (name : List ℕ) (kind : Kind) → record { nodes = nodes; next = next } ≡ tree → IsWhole nodes next count bytes
    → IsMakeable tree.nodes at name → has_slash name ≡ false
    → Leads kind (record { at = at; name = name }) next tree (record { nodes = with_made at name next (new_node kind (record { at = at; name = name }) tree.nodes) nodes; next = next + 1 })
is_led tree nodes next count bytes at name kind view is =
    subst (λ (t : Tree). IsMakeable t.nodes at name → has_slash name ≡ false → Leads kind (record { at = at; name = name }) next t (record { nodes = with_made at name next (new_node kind (record { at = at; name = name }) t.nodes) nodes; next = next + 1 })) view
    (put_leads nodes next count bytes at name kind is)

unless_none : (o : Option Errno) (r : Result Tree Errno) (new : Tree) → unless o r ≡ Ok new → o ≡ None
unless_none None r new same = refl
unless_none (Some errno) r new same = absurd (let f : ⊥ = cc in f)

-- where something was made, its path may end as it does
pub leads_found : (result : Result ℕ TreeFault) (kind : Kind) (ends : Bool) (from : ℕ) (path : List ℕ) (old new : Tree) (spot : Spot) → Answers result (made_at kind ends old spot) old new
    → IfOk result (λ inode. Leads kind spot inode old new) → spot_of old from path ≡ Ok spot → ends ≡ slash_refused kind path → IfOk result (λ inode. walked new from path ≡ Ok inode)
leads_found (Err fault) kind ends from path old new spot told leads place slash = tt
leads_found (Ok inode) kind ends from path old new spot told leads place slash =
    leads from path place (sym slash ∙ not_ends old.nodes spot.at spot.name ends (unless_none (make_refused old.nodes spot.at spot.name ends) _ new told))

-- ---- what was taken away isn't found

module _ (nodes : List (ℕ × Node)) (next count bytes at inode : ℕ) (name : List ℕ) (is : IsWhole nodes next count bytes) (e : IsEntry nodes at name inode) (t : IsTakeable nodes name inode) where
  abbrev left_nodes : List (ℕ × Node)
  left_nodes = with_unlinked at name inode nodes

  so : IsLeft nodes next count bytes at inode name e.node t.node e.directory is e.found e.linked e.body e.entry t.found t.empty left_nodes
  so = left nodes next count bytes at inode name e.node t.node e.directory is e.found e.linked e.body e.entry t.found t.empty

  place_at : places nodes at ≡ Some (DirPlace e.directory)
  place_at = ap place_by e.found ∙ (ap (λ (b : Bool). linked_place b e.node.body) e.linked ∙ ap (λ (b : Body). Some (place_of b)) e.body)

  sorted_names : AreRising e.directory.names
  sorted_names = subst AreRising (ap entries_in place_at) (is.tree.rising at)

  target_by : (k n : ℕ) (part : List ℕ) (b : Bool) (body : Body) (linked : Bool) → is_dot part ≡ b → step_in k linked body part ≡ Ok n → (step_in k false body part ≡ Ok n) ⊎ (step_in k false body part ≡ Err ENOENT)
  target_by k n part b (Bytes old) linked dotted ok = absurd (let f : ⊥ = cc in f)
  target_by k n part true (Names d) linked dotted ok =
      let was : step_in k linked (Names d) part ≡ Ok k = ap (λ (c : Bool). if c then Ok k else if not linked then Err ENOENT else if is_dots part then Ok d.parent else found (entry_named part d.names)) dotted in
      let now : step_in k false (Names d) part ≡ Ok k = ap (λ (c : Bool). if c then Ok k else Err ENOENT) dotted in
      inl (now ∙ (sym was ∙ ok))
  target_by k n part false (Names d) linked dotted ok = inr (ap (λ (c : Bool). if c then Ok k else Err ENOENT) dotted)

  looked_less : (k n parent : ℕ) (a b linked : Bool) (old new : Result ℕ Errno) → (old ≡ Ok n → (new ≡ Ok n) ⊎ (new ≡ Err ENOENT))
      → (if a then Ok k else if not linked then Err ENOENT else if b then Ok parent else old) ≡ Ok n
      → ((if a then Ok k else if not linked then Err ENOENT else if b then Ok parent else new) ≡ Ok n) ⊎ ((if a then Ok k else if not linked then Err ENOENT else if b then Ok parent else new) ≡ Err ENOENT)
  looked_less k n parent true b linked old new go ok = inl ok
  looked_less k n parent false b false old new go ok = inr refl
  looked_less k n parent false true true old new go ok = inl ok
  looked_less k n parent false false true old new go ok = go ok

  entry_less : (n : ℕ) (hit : Bool) (old : Option ℕ) → found old ≡ Ok n → (found (cond hit None old) ≡ Ok n) ⊎ (found (cond hit None old) ≡ Err ENOENT)
  entry_less n true old ok = inr refl
  entry_less n false old ok = inl ok

  less_step : (k n : ℕ) (part : List ℕ) (linked : Bool) → step_in k linked (Names e.directory) part ≡ Ok n
      → (step_in k linked (without_name name (Names e.directory)) part ≡ Ok n) ⊎ (step_in k linked (without_name name (Names e.directory)) part ≡ Err ENOENT)
  less_step k n part linked ok =
      looked_less k n e.directory.parent (is_dot part) (is_dots part) linked (found (entry_named part e.directory.names)) (found (entry_named part (without_entry name e.directory.names)))
      (λ old. subst (λ (o : Option ℕ). (found o ≡ Ok n) ⊎ (found o ≡ Err ENOENT)) (sym (lookup-removed nat_list_cmp_total name part e.directory.names sorted_names))
      (entry_less n (is_eq (slice_cmp nat_cmp name part)) (entry_named part e.directory.names) old)) ok

  abbrev Either : ℕ → ℕ → List ℕ → Option Node → Type 0
  Either k n part o = (step_at k o part ≡ Ok n) ⊎ (step_at k o part ≡ Err ENOENT)

  at_gone : (k n : ℕ) (part : List ℕ) → step_at k (node_in nodes k) part ≡ Ok n → Either k n part (node_in left_nodes k)
  at_gone k n part ok =
      elim (cases_eq k inode) [
        | inl same ↦
            let was : node_in nodes k ≡ Some t.node = ap (node_in nodes) same ∙ t.found in
            elim so.taken [
              | inl none ↦ inr (ap (λ (o : Option Node). step_at k o part) (ap (node_in left_nodes) same ∙ none.0))
              | inr kept ↦ subst (Either k n part) (sym (ap (node_in left_nodes) same ∙ kept.0))
                  (target_by k n part (is_dot part) t.node.body t.node.linked refl (sym (ap (λ (o : Option Node). step_at k o part) was) ∙ ok))
            ]
        | inr apart ↦ elim (cases_eq k at) [
          | inl same ↦
              let was : node_in nodes k ≡ Some e.node = ap (node_in nodes) same ∙ e.found in
              subst (Either k n part) (sym (ap (node_in left_nodes) same ∙ so.here))
              (subst (λ (b : Body). (step_in k e.node.linked (without_name name b) part ≡ Ok n) ⊎ (step_in k e.node.linked (without_name name b) part ≡ Err ENOENT)) (sym e.body)
              (less_step k n part e.node.linked (sym (ap (λ (b : Body). step_in k e.node.linked b part) e.body) ∙ (sym (ap (λ (o : Option Node). step_at k o part) was) ∙ ok))))
          | inr away ↦ inl (ap (λ (o : Option Node). step_at k o part) (so.others k apart away) ∙ ok)
        ]
      ]

  long_gone : (long : Bool) (old new : Result ℕ Errno) (n : ℕ) → (old ≡ Ok n → (new ≡ Ok n) ⊎ (new ≡ Err ENOENT)) → (if long then Err ENAMETOOLONG else old) ≡ Ok n
      → ((if long then Err ENAMETOOLONG else new) ≡ Ok n) ⊎ ((if long then Err ENAMETOOLONG else new) ≡ Err ENOENT)
  long_gone true old new n go ok = absurd (let f : ⊥ = cc in f)
  long_gone false old new n go ok = go ok

  step_gone : (k n : ℕ) (part : List ℕ) → step nodes k part ≡ Ok n → (step left_nodes k part ≡ Ok n) ⊎ (step left_nodes k part ≡ Err ENOENT)
  unfolding step
  step_gone k n part ok = long_gone (nat_lt 255 (length part)) (step_at k (node_in nodes k) part) (step_at k (node_in left_nodes k) part) n (at_gone k n part) ok

  name_gone : step left_nodes at name ≡ Err ENOENT
  unfolding step
  name_gone =
      let place = is.tree.placed at name inode (ap (λ (p : Option Place). entry_named name (entries_in p)) place_at ∙ e.entry) in
      long_same (nat_lt 255 (length name)) (step_at at (node_in left_nodes at) name) (within_from (length name) place.named.short)
      ∙ (ap (λ (o : Option Node). step_at at o name) so.here
      ∙ (ap (λ (b : Body). step_in at e.node.linked (without_name name b) name) e.body
      ∙ (looked_named at e.directory.parent inode e.node.linked (is_dot name) (is_dots name) (found (entry_named name (without_entry name e.directory.names))) e.linked t.not_dot t.not_dots
      ∙ ap found (lookup-removed nat_list_cmp_total name name e.directory.names sorted_names ∙ ap (λ (b : Bool). cond b None (entry_named name e.directory.names)) (self_name name)))))

  lost_by : (r : Result ℕ Errno) (s : Result ℕ Errno) (ns : List (List ℕ)) (spot : Spot) → ((m : ℕ) → r ≡ Ok m → (s ≡ Ok m) ⊎ (s ≡ Err ENOENT)) → ((m : ℕ) → spotted nodes m ns ≡ Ok spot → follow left_nodes m ns ≡ Err ENOENT)
      → and_then r (λ to. spotted nodes to ns) ≡ Ok spot → and_then s (λ to. follow left_nodes to ns) ≡ Err ENOENT
  lost_by (Err errno) s ns spot first rest ok = absurd (let f : ⊥ = cc in f)
  lost_by (Ok m) s ns spot first rest ok =
      elim (first m refl) [
        | inl same ↦ ap (λ (x : Result ℕ Errno). and_then x (λ to. follow left_nodes to ns)) same ∙ rest m ok
        | inr lost ↦ ap (λ (x : Result ℕ Errno). and_then x (λ to. follow left_nodes to ns)) lost
      ]

  lost : (k : ℕ) (ns : List (List ℕ)) → spotted nodes k ns ≡ Ok (record { at = at; name = name }) → follow left_nodes k ns ≡ Err ENOENT
  unfolding spotted follow
  lost k [] ok =
      let z : 0 ≡ length name = ap (λ (s : Spot). length s.name) (spot_same (record { at = k; name = [] }) (record { at = at; name = name }) ok) in
      let some = t.some in
      absurd (omega arith)
  lost k (n ∷ []) ok =
      let same = spot_same (record { at = k; name = n }) (record { at = at; name = name }) ok in
      let a : k ≡ at = ap (λ (s : Spot). s.at) same in
      let b : n ≡ name = ap (λ (s : Spot). s.name) same in
      follow_one left_nodes k n ∙ (ap (λ (x : ℕ). step left_nodes x n) a ∙ (ap (step left_nodes at) b ∙ name_gone))
  lost k (n ∷ m ∷ ns) ok = lost_by (step nodes k n) (step left_nodes k n) (m ∷ ns) (record { at = at; name = name }) (λ x same. step_gone k x n same) (λ x there. lost x (m ∷ ns) there) ok

  taken_lost : Loses (record { at = at; name = name }) (record { nodes = nodes; next = next }) (record { nodes = left_nodes; next = next })
  taken_lost from path spot =
      let p = spot_from (record { nodes = nodes; next = next }) from path (record { at = at; name = name }) spot in
      walk_by (record { nodes = left_nodes; next = next }) from path p.0
      ∙ ap (λ (r : Result ℕ Errno). and_then r (λ n. follow left_nodes n (if ends_in_slash path then dot ∷ [] else []))) (lost (start_of from path) (names path) p.1)

pub is_lost : (tree : Tree) (nodes : List (ℕ × Node)) (next count bytes at inode : ℕ) (name : List ℕ) → record { nodes = nodes; next = next } ≡ tree → IsWhole nodes next count bytes
    → IsEntry tree.nodes at name inode → IsTakeable tree.nodes name inode → Loses (record { at = at; name = name }) tree (record { nodes = with_unlinked at name inode nodes; next = next })
is_lost tree nodes next count bytes at inode name view is =
    subst (λ (u : Tree). IsEntry u.nodes at name inode → IsTakeable u.nodes name inode → Loses (record { at = at; name = name }) u (record { nodes = with_unlinked at name inode nodes; next = next })) view
    (taken_lost nodes next count bytes at inode name is)
