-- A walk by the names of its path, and where its last name stands.
use Rattle.std.proofs.Common.{◌≡◌, ℕ, suc, ◌+◌, ◌<◌, ◌==◌, ◌||◌, nat_lt, Bool, true, false, not, if◌then◌else◌, List, [], ◌∷◌, ◌++◌, length, Option, Some, None, Result, Ok, Err, refl, sym, ap, ◌∙◌, arith}
use Rattle.std.specs.Prelude.{MatchResult, IfOk}
use Rattle.file_tree.specs.declared.errno.Errno.{Errno}
use Rattle.file_tree.specs.declared.errno.Errno.TheVariants.{ENOENT, ENAMETOOLONG}
use Rattle.file_tree.specs.declared.node.Node.{Node}
use Rattle.file_tree.specs.declared.node.Directory.{Directory}
use Rattle.file_tree.specs.declared.node.Body.{Body}
use Rattle.file_tree.specs.declared.node.Body.TheVariants.{Bytes, Names}
use Rattle.file_tree.specs.declared.kind.Kind.{Kind}
use Rattle.file_tree.specs.Entries.{entry_named}
use Rattle.file_tree.specs.Paths.{onto, pieces, filled, names, parts, dot, is_dot, is_dots, ends_in_slash, path_refused}
use Rattle.file_tree.specs.Nodes.{Tree, node_in, names_of}
use Rattle.file_tree.specs.Walk.{step, step_at, step_in, found, follow, and_then, unless, start_of, walked, Spot, spotted, spot_of}
use Rattle.file_tree.specs.Making.{make_refused, made, made_at, slash_refused, with_made, new_node}
use Rattle.file_tree.specs.Ready.{has_slash, IsEntry, IsTakeable}
use Rattle.file_tree.specs.Unlinking.{unlink_refused, entry_refused, body_refused, unlinked, unlinked_at, with_unlinked}

append_by : (nodes : List (ℕ × Node)) (r : Result ℕ Errno) (rest more : List (List ℕ)) → ((n : ℕ) → follow nodes n (rest ++ more) ≡ and_then (follow nodes n rest) (λ m. follow nodes m more))
    → and_then r (λ n. follow nodes n (rest ++ more)) ≡ and_then (and_then r (λ n. follow nodes n rest)) (λ m. follow nodes m more)
append_by nodes (Err errno) rest more go = refl
append_by nodes (Ok n) rest more go = go n

pub follow-append : (nodes : List (ℕ × Node)) (at : ℕ) (front back : List (List ℕ)) → follow nodes at (front ++ back) ≡ and_then (follow nodes at front) (λ m. follow nodes m back)
unfolding follow
follow-append nodes at [] back = refl
follow-append nodes at (part ∷ rest) back = append_by nodes (step nodes at part) rest back (λ n. follow-append nodes n rest back)

then_ok : (r : Result ℕ Errno) → and_then r (λ n. Ok n) ≡ r
then_ok (Err errno) = refl
then_ok (Ok n) = refl

pub follow_one : (nodes : List (ℕ × Node)) (at : ℕ) (part : List ℕ) → follow nodes at (part ∷ []) ≡ step nodes at part
unfolding follow
follow_one nodes at part = then_ok (step nodes at part)

pub refused_walk : (tree : Tree) (from : ℕ) (path : List ℕ) (errno : Errno) → path_refused path ≡ Some errno → walked tree from path ≡ Err errno
unfolding walked
refused_walk tree from path errno same = ap (λ (o : Option Errno). unless o (follow tree.nodes (start_of from path) (parts path))) same

tail_of : List ℕ → List (List ℕ)
tail_of path = if ends_in_slash path then dot ∷ [] else []

pub walk_by : (tree : Tree) (from : ℕ) (path : List ℕ) → path_refused path ≡ None
    → walked tree from path ≡ and_then (follow tree.nodes (start_of from path) (names path)) (λ n. follow tree.nodes n (if ends_in_slash path then dot ∷ [] else []))
unfolding walked parts
walk_by tree from path same =
    ap (λ (o : Option Errno). unless o (follow tree.nodes (start_of from path) (parts path))) same
    ∙ follow-append tree.nodes (start_of from path) (names path) (if ends_in_slash path then dot ∷ [] else [])

pub walk_err : (tree : Tree) (from : ℕ) (path : List ℕ) (errno : Errno) → path_refused path ≡ None → follow tree.nodes (start_of from path) (names path) ≡ Err errno → walked tree from path ≡ Err errno
walk_err tree from path errno none same = walk_by tree from path none ∙ ap (λ (r : Result ℕ Errno). and_then r (λ n. follow tree.nodes n (if ends_in_slash path then dot ∷ [] else []))) same

pub walk_slash : (tree : Tree) (from : ℕ) (path : List ℕ) (at : ℕ) → path_refused path ≡ None → follow tree.nodes (start_of from path) (names path) ≡ Ok at → ends_in_slash path ≡ true
    → walked tree from path ≡ step tree.nodes at dot
walk_slash tree from path at none same slash =
    walk_by tree from path none
    ∙ (ap (λ (r : Result ℕ Errno). and_then r (λ n. follow tree.nodes n (if ends_in_slash path then dot ∷ [] else []))) same
    ∙ (ap (λ (b : Bool). follow tree.nodes at (if b then dot ∷ [] else [])) slash ∙ follow_one tree.nodes at dot))

pub walk_plain : (tree : Tree) (from : ℕ) (path : List ℕ) (at : ℕ) → path_refused path ≡ None → follow tree.nodes (start_of from path) (names path) ≡ Ok at → ends_in_slash path ≡ false
    → walked tree from path ≡ Ok at
unfolding follow
walk_plain tree from path at none same slash =
    walk_by tree from path none
    ∙ (ap (λ (r : Result ℕ Errno). and_then r (λ n. follow tree.nodes n (if ends_in_slash path then dot ∷ [] else []))) same
    ∙ ap (λ (b : Bool). follow tree.nodes at (if b then dot ∷ [] else [])) slash)

pub refused_spot : (tree : Tree) (from : ℕ) (path : List ℕ) (errno : Errno) → path_refused path ≡ Some errno → spot_of tree from path ≡ Err errno
unfolding spot_of
refused_spot tree from path errno same = ap (λ (o : Option Errno). unless o (spotted tree.nodes (start_of from path) (names path))) same

pub spot_by : (tree : Tree) (from : ℕ) (path : List ℕ) → path_refused path ≡ None → spot_of tree from path ≡ spotted tree.nodes (start_of from path) (names path)
unfolding spot_of
spot_by tree from path same = ap (λ (o : Option Errno). unless o (spotted tree.nodes (start_of from path) (names path))) same

-- ---- making

pub made_err : (kind : Kind) (from : ℕ) (path : List ℕ) (tree : Tree) (errno : Errno) → spot_of tree from path ≡ Err errno → made kind from path tree ≡ Err errno
unfolding made
made_err kind from path tree errno same = ap (λ (r : Result Spot Errno). and_then r (made_at kind (slash_refused kind path) tree)) same

pub made_by : (kind : Kind) (from : ℕ) (path : List ℕ) (tree : Tree) (spot : Spot) (refusal : Option Errno) → spot_of tree from path ≡ Ok spot → make_refused tree.nodes spot.at spot.name (slash_refused kind path) ≡ refusal
    → made kind from path tree ≡ unless refusal (Ok (record { nodes = with_made spot.at spot.name tree.next (new_node kind spot tree.nodes) tree.nodes; next = tree.next + 1 }))
unfolding made
made_by kind from path tree spot refusal same refused =
    ap (λ (r : Result Spot Errno). and_then r (made_at kind (slash_refused kind path) tree)) same
    ∙ ap (λ (o : Option Errno). unless o (Ok (record { nodes = with_made spot.at spot.name tree.next (new_node kind spot tree.nodes) tree.nodes; next = tree.next + 1 }))) refused

-- ---- taking away

pub unlinked_err : (from : ℕ) (path : List ℕ) (wants : Bool) (tree : Tree) (errno : Errno) → walked tree from path ≡ Err errno → unlinked from path wants tree ≡ Err errno
unfolding unlinked
unlinked_err from path wants tree errno same = ap (λ (r : Result ℕ Errno). and_then r (λ inode. and_then (spot_of tree from path) (unlinked_at wants inode tree))) same

pub unlinked_spot : (from : ℕ) (path : List ℕ) (wants : Bool) (tree : Tree) (inode : ℕ) (errno : Errno) → walked tree from path ≡ Ok inode → spot_of tree from path ≡ Err errno → unlinked from path wants tree ≡ Err errno
unfolding unlinked
unlinked_spot from path wants tree inode errno same spot =
    ap (λ (r : Result ℕ Errno). and_then r (λ inode. and_then (spot_of tree from path) (unlinked_at wants inode tree))) same
    ∙ ap (λ (r : Result Spot Errno). and_then r (unlinked_at wants inode tree)) spot

pub unlinked_by : (from : ℕ) (path : List ℕ) (wants : Bool) (tree : Tree) (inode : ℕ) (spot : Spot) (refusal : Option Errno) → walked tree from path ≡ Ok inode → spot_of tree from path ≡ Ok spot
    → unlink_refused wants spot.name (node_in tree.nodes inode) ≡ refusal
    → unlinked from path wants tree ≡ unless refusal (Ok (record { nodes = with_unlinked spot.at spot.name inode tree.nodes; next = tree.next }))
unfolding unlinked
unlinked_by from path wants tree inode spot refusal same place refused =
    ap (λ (r : Result ℕ Errno). and_then r (λ inode. and_then (spot_of tree from path) (unlinked_at wants inode tree))) same
    ∙ (ap (λ (r : Result Spot Errno). and_then r (unlinked_at wants inode tree)) place
    ∙ ap (λ (o : Option Errno). unless o (Ok (record { nodes = with_unlinked spot.at spot.name inode tree.nodes; next = tree.next }))) refused)

-- ---- no name has a slash

abbrev pub AllPlain : List (List ℕ) → Type 0
AllPlain [] = Unit {0}
AllPlain (name ∷ rest) = (has_slash name ≡ false) × AllPlain rest

onto_plain : (byte : ℕ) (ps : List (List ℕ)) → (byte == 47) ≡ false → AllPlain ps → AllPlain (onto byte ps)
onto_plain byte [] other all = (ap (λ (b : Bool). b || false) other, tt)
onto_plain byte (p ∷ ps) other all = (rw other all.0, all.1)

pieces_by : (slash : Bool) (byte : ℕ) (ps : List (List ℕ)) → (byte == 47) ≡ slash → AllPlain ps → AllPlain (if slash then [] ∷ ps else onto byte ps)
pieces_by true byte ps same all = (refl, all)
pieces_by false byte ps same all = onto_plain byte ps same all

pieces_plain : (path : List ℕ) → AllPlain (pieces path)
pieces_plain [] = (refl, tt)
pieces_plain (byte ∷ path) = pieces_by (byte == 47) byte (pieces path) refl (pieces_plain path)

filled_plain : (ps : List (List ℕ)) → AllPlain ps → AllPlain (filled ps)
filled_plain [] all = tt
filled_plain ([] ∷ ps) all = filled_plain ps all.1
filled_plain ((b ∷ p) ∷ ps) all = (all.0, filled_plain ps all.1)

pub names_plain : (path : List ℕ) → AllPlain (names path)
unfolding names
names_plain path = filled_plain (pieces path) (pieces_plain path)

abbrev pub ok_spot : Spot → Result Spot Errno
ok_spot spot = Ok spot

pub spot_same : (a b : Spot) → ok_spot a ≡ ok_spot b → a ≡ b
spot_same a b same = cc

spot_name : (a b : Spot) → ok_spot a ≡ ok_spot b → a.name ≡ b.name
spot_name a b same = let e : a ≡ b = cc in ap (λ (s : Spot). s.name) e

next_plain : (nodes : List (ℕ × Node)) (ns : List (List ℕ)) (spot : Spot) (r : Result ℕ Errno) → ((to : ℕ) → spotted nodes to ns ≡ Ok spot → has_slash spot.name ≡ false)
    → and_then r (λ to. spotted nodes to ns) ≡ Ok spot → has_slash spot.name ≡ false
next_plain nodes ns spot (Err errno) go same = absurd (let f : ⊥ = cc in f)
next_plain nodes ns spot (Ok to) go same = go to same

spotted_plain : (nodes : List (ℕ × Node)) (at : ℕ) (ns : List (List ℕ)) (spot : Spot) → AllPlain ns → spotted nodes at ns ≡ Ok spot → has_slash spot.name ≡ false
unfolding spotted
spotted_plain nodes at [] spot all same = rw (← spot_name (record { at = at; name = [] }) spot same) refl
spotted_plain nodes at (n ∷ []) spot all same = rw (← spot_name (record { at = at; name = n }) spot same) all.0
spotted_plain nodes at (n ∷ m ∷ ns) spot all same = next_plain nodes (m ∷ ns) spot (step nodes at n) (λ to there. spotted_plain nodes to (m ∷ ns) spot all.1 there) same

pub spot_from : (tree : Tree) (from : ℕ) (path : List ℕ) (spot : Spot) → spot_of tree from path ≡ Ok spot → (path_refused path ≡ None) × (spotted tree.nodes (start_of from path) (names path) ≡ Ok spot)
unfolding spot_of
spot_from tree from path spot same = spot_from_by (path_refused path) refl same
  where
    spot_from_by : (o : Option Errno) → path_refused path ≡ o → unless o (spotted tree.nodes (start_of from path) (names path)) ≡ Ok spot → (path_refused path ≡ None) × (spotted tree.nodes (start_of from path) (names path) ≡ Ok spot)
    spot_from_by None is same = (is, same)
    spot_from_by (Some errno) is same = absurd (let f : ⊥ = cc in f)

pub spot_plain : (tree : Tree) (from : ℕ) (path : List ℕ) (spot : Spot) → spot_of tree from path ≡ Ok spot → has_slash spot.name ≡ false
spot_plain tree from path spot same = spotted_plain tree.nodes (start_of from path) (names path) spot (names_plain path) (spot_from tree from path spot same).1

-- ---- the last step of a walk

next_step : (nodes : List (ℕ × Node)) (ns : List (List ℕ)) (spot : Spot) (r : Result ℕ Errno) → ((to : ℕ) → spotted nodes to ns ≡ Ok spot → follow nodes to ns ≡ step nodes spot.at spot.name)
    → and_then r (λ to. spotted nodes to ns) ≡ Ok spot → and_then r (λ to. follow nodes to ns) ≡ step nodes spot.at spot.name
next_step nodes ns spot (Err errno) go same = absurd (let f : ⊥ = cc in f)
next_step nodes ns spot (Ok to) go same = go to same

spotted_step : (nodes : List (ℕ × Node)) (at : ℕ) (ns : List (List ℕ)) (spot : Spot) → spotted nodes at ns ≡ Ok spot → 0 < length spot.name → follow nodes at ns ≡ step nodes spot.at spot.name
unfolding spotted follow
spotted_step nodes at [] spot same some =
    let e : [] ≡ spot.name = spot_name (record { at = at; name = [] }) spot same in
    let z : 0 ≡ length spot.name = ap length e in
    absurd (omega arith)
spotted_step nodes at (n ∷ []) spot same some =
    let e : record { at = at; name = n } ≡ spot = (let s = same in cc) in
    then_ok (step nodes at n) ∙ ap (λ (s : Spot). step nodes s.at s.name) e
spotted_step nodes at (n ∷ m ∷ ns) spot same some = next_step nodes (m ∷ ns) spot (step nodes at n) (λ to there. spotted_step nodes to (m ∷ ns) spot there some) same

found_from : (o : Option ℕ) (inode : ℕ) → found o ≡ Ok inode → o ≡ Some inode
found_from None inode same = absurd (let f : ⊥ = cc in f)
found_from (Some n) inode same = let e : n ≡ inode = cc in ap (λ (x : ℕ). Some x) e

looked_from : (at : ℕ) (linked : Bool) (d : Directory) (name : List ℕ) (inode : ℕ) (a b : Bool) → a ≡ false → b ≡ false
    → (if a then Ok at else if not linked then Err ENOENT else if b then Ok d.parent else found (entry_named name d.names)) ≡ Ok inode → (linked ≡ true) × (entry_named name d.names ≡ Some inode)
looked_from at linked d name inode true b none other same = absurd (let f : ⊥ = cc in f)
looked_from at linked d name inode false true none other same = absurd (let f : ⊥ = cc in f)
looked_from at false d name inode false false none other same = absurd (let f : ⊥ = cc in f)
looked_from at true d name inode false false none other same = (refl, found_from (entry_named name d.names) inode same)

body_from : (nodes : List (ℕ × Node)) (at : ℕ) (name : List ℕ) (inode : ℕ) (node : Node) (body : Body) → node_in nodes at ≡ Some node → node.body ≡ body → is_dot name ≡ false → is_dots name ≡ false
    → step_in at node.linked body name ≡ Ok inode → IsEntry nodes at name inode
body_from nodes at name inode node (Bytes bytes) here same none other ok = absurd (let f : ⊥ = cc in f)
body_from nodes at name inode node (Names d) here same none other ok =
    let l = looked_from at node.linked d name inode (is_dot name) (is_dots name) none other ok in
    record { node = node; directory = d; found = here; linked = l.0; body = same; entry = l.1 }

node_from : (nodes : List (ℕ × Node)) (at : ℕ) (name : List ℕ) (inode : ℕ) (node : Option Node) → node_in nodes at ≡ node → is_dot name ≡ false → is_dots name ≡ false
    → step_at at node name ≡ Ok inode → IsEntry nodes at name inode
node_from nodes at name inode None here none other ok = absurd (let f : ⊥ = cc in f)
node_from nodes at name inode (Some node) here none other ok = body_from nodes at name inode node node.body here refl none other ok

step_from : (nodes : List (ℕ × Node)) (at : ℕ) (name : List ℕ) (inode : ℕ) → is_dot name ≡ false → is_dots name ≡ false → step nodes at name ≡ Ok inode → IsEntry nodes at name inode
unfolding step
step_from nodes at name inode none other ok = long_from (nat_lt 255 (length name)) ok
  where
    long_from : (b : Bool) → (if b then Err ENAMETOOLONG else step_at at (node_in nodes at) name) ≡ Ok inode → IsEntry nodes at name inode
    long_from true ok = absurd (let f : ⊥ = cc in f)
    long_from false ok = node_from nodes at name inode (node_in nodes at) refl none other ok

dot_in : (at inode : ℕ) (linked : Bool) (body : Body) → step_in at linked body dot ≡ Ok inode → at ≡ inode
dot_in at inode linked (Bytes bytes) ok = absurd (let f : ⊥ = cc in f)
dot_in at inode linked (Names d) ok = cc

dot_at : (at inode : ℕ) (node : Option Node) → step_at at node dot ≡ Ok inode → at ≡ inode
dot_at at inode None ok = absurd (let f : ⊥ = cc in f)
dot_at at inode (Some node) ok = dot_in at inode node.linked node.body ok

-- `.` leads to the directory itself
pub dot_same : (nodes : List (ℕ × Node)) (at inode : ℕ) → step nodes at dot ≡ Ok inode → at ≡ inode
unfolding step
dot_same nodes at inode ok = dot_at at inode (node_in nodes at) ok

tail_same : (nodes : List (ℕ × Node)) (n inode : ℕ) (slash : Bool) → follow nodes n (if slash then dot ∷ [] else []) ≡ Ok inode → n ≡ inode
unfolding follow
tail_same nodes n inode true ok = dot_same nodes n inode (sym (follow_one nodes n dot) ∙ ok)
tail_same nodes n inode false ok = cc

front_ok : (nodes : List (ℕ × Node)) (r : Result ℕ Errno) (inode : ℕ) (slash : Bool) → and_then r (λ n. follow nodes n (if slash then dot ∷ [] else [])) ≡ Ok inode → r ≡ Ok inode
front_ok nodes (Err errno) inode slash ok = absurd (let f : ⊥ = cc in f)
front_ok nodes (Ok n) inode slash ok = ap (λ (x : ℕ). Ok x) (tail_same nodes n inode slash ok)

-- what a walk finds is what the names lead to
pub walked_names : (tree : Tree) (from : ℕ) (path : List ℕ) (inode : ℕ) → path_refused path ≡ None → walked tree from path ≡ Ok inode → follow tree.nodes (start_of from path) (names path) ≡ Ok inode
walked_names tree from path inode none ok = front_ok tree.nodes (follow tree.nodes (start_of from path) (names path)) inode (ends_in_slash path) (sym (walk_by tree from path none) ∙ ok)

not_zero : (n : ℕ) → (suc n == 0) ≡ true → ⊥
not_zero n same = grind arith

no_length : {X : Type 0} (xs : List X) → (length xs == 0) ≡ true → xs ≡ []
no_length [] same = refl
no_length (x ∷ xs) same = absurd (not_zero (length xs) same)

some_length : {X : Type 0} (xs : List X) → (length xs == 0) ≡ false → 0 < length xs
some_length [] same = absurd (let f : ⊥ = cc in f)
some_length (x ∷ xs) same = omega arith

refused_cut : (b : Bool) (errno : Errno) (rest : Option Errno) → (if b then Some errno else rest) ≡ None → (b ≡ false) × (rest ≡ None)
refused_cut true errno rest none = absurd (let f : ⊥ = cc in f)
refused_cut false errno rest none = (refl, none)

empty_by : (b : Bool) (errno : Errno) → (if b then None else Some errno) ≡ None → b ≡ true
empty_by true errno none = refl
empty_by false errno none = absurd (let f : ⊥ = cc in f)

body_empty : (wants : Bool) (body : Body) → body_refused wants body ≡ None → names_of body ≡ []
body_empty wants (Bytes bytes) none = refl
body_empty wants (Names d) none = no_length d.names (empty_by (length d.names == 0) _ (refused_cut (not wants) _ _ none).1)

pub takeable : (nodes : List (ℕ × Node)) (wants : Bool) (name : List ℕ) (inode : ℕ) → unlink_refused wants name (node_in nodes inode) ≡ None → IsTakeable nodes name inode
unfolding unlink_refused
takeable nodes wants name inode none =
    let a = refused_cut (length name == 0) _ _ none in
    let b = refused_cut (is_dot name) _ _ a.1 in
    let d = refused_cut (is_dots name) _ _ b.1 in
    entry_by (node_in nodes inode) refl d.1 (some_length name a.0) b.0 d.0
  where
    entry_by : (node : Option Node) → node_in nodes inode ≡ node → entry_refused wants node ≡ None → 0 < length name → is_dot name ≡ false → is_dots name ≡ false → IsTakeable nodes name inode
    entry_by None same none some one two = absurd (let f : ⊥ = cc in f)
    entry_by (Some node) same none some one two = record { some = some; not_dot = one; not_dots = two; node = node; found = same; empty = body_empty wants node.body none }

-- the name that is taken away leads to what the walk found
pub taken_entry : (tree : Tree) (from : ℕ) (path : List ℕ) (inode : ℕ) (spot : Spot) → walked tree from path ≡ Ok inode → spot_of tree from path ≡ Ok spot → IsTakeable tree.nodes spot.name inode
    → IsEntry tree.nodes spot.at spot.name inode
taken_entry tree from path inode spot ok place can =
    let p = spot_from tree from path spot place in
    let all = walked_names tree from path inode p.0 ok in
    step_from tree.nodes spot.at spot.name inode can.not_dot can.not_dots (sym (spotted_step tree.nodes (start_of from path) (names path) spot p.1 can.some) ∙ all)

-- ---- the same with what the code has in hand

pub walks : (tree : Tree) (nodes : List (ℕ × Node)) (next from start at : ℕ) (path : List ℕ) → record { nodes = nodes; next = next } ≡ tree → start ≡ start_of from path → path_refused path ≡ None
    → Ok at ≡ follow nodes start (names path) → walked tree from path ≡ follow nodes at (if ends_in_slash path then dot ∷ [] else [])
walks tree nodes next from start at path view begin none same =
    rw (← view) (walk_by (record { nodes = nodes; next = next }) from path none
    ∙ ap (λ (r : Result ℕ Errno). and_then r (λ n. follow nodes n (if ends_in_slash path then dot ∷ [] else []))) (sym (same ∙ ap (λ (s : ℕ). follow nodes s (names path)) begin)))

pub walks_err : (tree : Tree) (nodes : List (ℕ × Node)) (next from start : ℕ) (path : List ℕ) (errno : Errno) → record { nodes = nodes; next = next } ≡ tree → start ≡ start_of from path → path_refused path ≡ None
    → Err errno ≡ follow nodes start (names path) → walked tree from path ≡ Err errno
walks_err tree nodes next from start path errno view begin none same =
    rw (← view) (walk_err (record { nodes = nodes; next = next }) from path errno none (sym (same ∙ ap (λ (s : ℕ). follow nodes s (names path)) begin)))

pub spots : (tree : Tree) (nodes : List (ℕ × Node)) (next from start : ℕ) (path : List ℕ) → record { nodes = nodes; next = next } ≡ tree → start ≡ start_of from path → path_refused path ≡ None
    → spot_of tree from path ≡ spotted nodes start (names path)
spots tree nodes next from start path view begin none =
    rw (← view) (spot_by (record { nodes = nodes; next = next }) from path none ∙ ap (λ (s : ℕ). spotted nodes s (names path)) (sym begin))

pub follow_none : (nodes : List (ℕ × Node)) (at : ℕ) → follow nodes at [] ≡ Ok at
unfolding follow
follow_none nodes at = refl

pub plain_from : {A : Type 0} (r : Result A Errno) (at : A → ℕ) (name : A → List ℕ) (x : Result Spot Errno) → MatchResult r (λ s. x ≡ Ok (record { at = at s; name = name s })) (λ errno. x ≡ Err errno)
    → ((spot : Spot) → x ≡ Ok spot → has_slash spot.name ≡ false) → IfOk r (λ s. has_slash (name s) ≡ false)
plain_from (Ok s) at name x told go = go (record { at = at s; name = name s }) told
plain_from (Err errno) at name x told go = tt

pub made_spot : (kind : Kind) (from : ℕ) (path : List ℕ) (tree : Tree) (spot : Spot) (ends : Bool) → spot_of tree from path ≡ Ok spot → ends ≡ slash_refused kind path → made kind from path tree ≡ made_at kind ends tree spot
unfolding made
made_spot kind from path tree spot ends same slash = ap (λ (r : Result Spot Errno). and_then r (made_at kind (slash_refused kind path) tree)) same ∙ ap (λ (b : Bool). made_at kind b tree spot) (sym slash)
