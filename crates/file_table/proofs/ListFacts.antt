-- The entries of a directory, and those that fit.
use Rattle.std.proofs.Common.{◌≡◌, ◌≢◌, ℕ, zero, suc, ◌+◌, ◌-◌, ◌<◌, ◌≤◌, nat_lt, ◌==◌, ◌&&◌, Bool, true, false, cond, if◌then◌else◌, List, [], ◌∷◌, ◌++◌, length, get_or, drop, Option, Some, None, Ok, Err, refl, sym, ap, subst, ◌∙◌, arith, length-append, append_assoc, append-nil}
use Rattle.std.specs.Map.{keys_of}
use Rattle.std.specs.Ordering.{nat_cmp, is_eq}
use Rattle.std.specs.declared.cmp.Ordering.TheVariants.{Less}
use Rattle.std.specs.Cmp.Lexicographic.{slice_cmp}
use Rattle.std.specs.List.Sorted.{IsStrictlySortedBy}
use Rattle.std.specs.List.{AllByRecursion}
use Rattle.std.proofs.lemmas.Bool.{eqb-true, eqb-false, ltb-true, ltb-false, lt-ltb, le-ltb}
use Rattle.std.proofs.lemmas.List.{length-map, length-replicate, drop_more, drop_all}
use Rattle.file_tree.specs.declared.errno.Errno.{Errno}
use Rattle.file_tree.specs.declared.errno.Errno.TheVariants.{EINVAL}
use Rattle.file_tree.specs.declared.node.Node.{Node}
use Rattle.file_tree.specs.declared.node.Body.{Body}
use Rattle.file_tree.specs.declared.node.Body.TheVariants.{Bytes, Names}
use Rattle.file_tree.specs.declared.kind.Kind.TheVariants.{Dir}
use Rattle.file_tree.specs.Entries.{Entries, entry_named, AreRising}
use Rattle.file_tree.specs.Nodes.{Tree, kind_in, kind_by, kind_of, linked_in, linked_by, names_in, node_in}
use Rattle.file_tree.specs.Paths.{names, parts, path_refused}
use Rattle.file_tree.specs.Walk.{step, step_at, step_in, walked}
use Rattle.file_tree.proofs.WalkFacts.{follow_one}
use Rattle.file_tree.proofs.EntryFacts.{entry_walked}
use Rattle.file_tree.proofs.LookFacts.{self_name, same_name}
use Rattle.file_table.specs.Entries.{Listed, IsDirectory, dots, entries, entry_at, entry_bytes, entry_size, entry_with, kind_byte, fitted, lists, onto, parent_by}

-- ---- the directory above

dots_walked : (tree : Tree) (inode : ℕ) → walked tree inode dots ≡ step_at inode (node_in tree.nodes inode) dots
unfolding walked path_refused parts names step
dots_walked tree inode = follow_one tree.nodes inode dots

up_by : (inode up : ℕ) (o : Option Node) → kind_by o ≡ Some Dir → step_at inode o dots ≡ Ok up → (linked_by o ≡ true) × (up ≡ parent_by o)
up_by inode up None kind same = absurd (let f : ⊥ = cc in f)
up_by inode up (Some node) kind same = by_body node.linked node.body kind same
  where
    by_body : (linked : Bool) (body : Body) → Some (kind_of body) ≡ Some Dir → step_in inode linked body dots ≡ Ok up → (linked ≡ true) × (up ≡ parent_by (Some (record { holds = node.holds; linked = linked; body = body })))
    by_body linked (Bytes bytes) kind same = absurd (let f : ⊥ = cc in f)
    by_body true (Names d) kind same = (refl, (let e : d.parent ≡ up = cc in sym e))
    by_body false (Names d) kind same = absurd (let f : ⊥ = cc in f)

lost_by : (inode : ℕ) (errno : Errno) (o : Option Node) → kind_by o ≡ Some Dir → step_at inode o dots ≡ Err errno → linked_by o ≡ false
lost_by inode errno None kind same = refl
lost_by inode errno (Some node) kind same = by_body node.linked node.body kind same
  where
    by_body : (linked : Bool) (body : Body) → Some (kind_of body) ≡ Some Dir → step_in inode linked body dots ≡ Err errno → linked ≡ false
    by_body linked (Bytes bytes) kind same = absurd (let f : ⊥ = cc in f)
    by_body true (Names d) kind same = absurd (let f : ⊥ = cc in f)
    by_body false (Names d) kind same = refl

pub parent_found : (tree : Tree) (inode up : ℕ) → kind_in tree inode ≡ Some Dir → walked tree inode dots ≡ Ok up → (linked_in tree inode ≡ true) × (up ≡ parent_by (node_in tree.nodes inode))
unfolding kind_in
parent_found tree inode up kind same = up_by inode up (node_in tree.nodes inode) kind (sym (dots_walked tree inode) ∙ same)

pub parent_lost : (tree : Tree) (inode : ℕ) (errno : Errno) → kind_in tree inode ≡ Some Dir → walked tree inode dots ≡ Err errno → linked_in tree inode ≡ false
unfolding kind_in
parent_lost tree inode errno kind same = lost_by inode errno (node_in tree.nodes inode) kind (sym (dots_walked tree inode) ∙ same)

-- ---- a name leads to the inode that stands with it

less_than : (a b : List ℕ) (after : List (List ℕ)) (k : ℕ) → AllByRecursion (λ y. slice_cmp nat_cmp a y ≡ Less) after → k < length after → b ≡ get_or after k [] → slice_cmp nat_cmp a b ≡ Less
less_than a b [] k all low same = absurd (omega arith)
less_than a b (y ∷ ys) zero all low same = ap (slice_cmp nat_cmp a) same ∙ all.0
less_than a b (y ∷ ys) (suc k) all low same = less_than a b ys k all.1 (omega arith) same

key_at : (es : Entries) (k : ℕ) → (get_or es k ([], 0)).0 ≡ get_or (keys_of es) k []
key_at [] k = refl
key_at (e ∷ es) zero = refl
key_at (e ∷ es) (suc k) = key_at es k

same_less : (a b : List ℕ) → slice_cmp nat_cmp a b ≡ Less → is_eq (slice_cmp nat_cmp b a) ≡ true → ⊥
same_less a b less same =
    let e : a ≡ b = sym (same_name b a same) in
    let self = self_name a in
    let f : is_eq (slice_cmp nat_cmp a a) ≡ false = ap (λ (x : List ℕ). is_eq (slice_cmp nat_cmp a x)) e ∙ ap is_eq less in
    let g : ⊥ = cc in
    g

past_first : (q : List ℕ) (inode : ℕ) (rest : Option ℕ) (b : Bool) → b ≡ false → cond b (Some inode) rest ≡ rest
past_first q inode rest true same = absurd (let f : ⊥ = cc in f)
past_first q inode rest false same = refl

not_same : (b : Bool) → (b ≡ true → ⊥) → b ≡ false
not_same true other = absurd (other refl)
not_same false other = refl

pub named_at : (es : Entries) (k : ℕ) → AreRising es → k < length es → entry_named (get_or es k ([], 0)).0 es ≡ Some (get_or es k ([], 0)).1
unfolding IsStrictlySortedBy
named_at [] k rising low = absurd (omega arith)
named_at (e ∷ es) zero rising low = ap (λ (b : Bool). cond b (Some e.1) (entry_named e.0 es)) (self_name e.0)
named_at (e ∷ es) (suc k) rising low =
    let q = (get_or es k ([], 0)).0 in
    let within : k < length es = omega arith in
    let many : length (keys_of es) ≡ length es = length-map es (λ (x : List ℕ × ℕ). x.0) in
    let less : slice_cmp nat_cmp e.0 q ≡ Less = less_than e.0 q (keys_of es) k rising.0 (omega arith) (key_at es k) in
    let apart : is_eq (slice_cmp nat_cmp q e.0) ≡ false = not_same (is_eq (slice_cmp nat_cmp q e.0)) (same_less e.0 q less) in
    past_first q e.1 (entry_named q es) (is_eq (slice_cmp nat_cmp q e.0)) apart ∙ named_at es k rising.1 within

-- what is known of a name of a directory
pub record IsNamed (tree : Tree) (inode index : ℕ) (name : List ℕ) : Type 0 where
  pub entry : ℕ
  pub is : entry_at index inode tree ≡ (name, entry)
  pub short : length name ≤ 255
  pub walks : walked tree inode name ≡ Ok entry

named_by : (tree : Tree) (inode up k : ℕ) (texts : List (List ℕ)) (name : List ℕ) → IsDirectory tree inode up texts → k < length texts → name ≡ get_or texts k [] → IsNamed tree inode (suc (suc k)) name
named_by tree inode up k texts name is low same =
    let es = names_in tree.nodes inode in
    let many : length (keys_of es) ≡ length es = length-map es (λ (x : List ℕ × ℕ). x.0) in
    let texts_many : length texts ≡ length (keys_of es) = ap length is.names in
    let key : (get_or es k ([], 0)).0 ≡ name = key_at es k ∙ sym (same ∙ ap (λ (t : List (List ℕ)). get_or t k []) is.names) in
    let found : entry_named name es ≡ Some (get_or es k ([], 0)).1 = subst (λ (n : List ℕ). entry_named n es ≡ Some (get_or es k ([], 0)).1) key (named_at es k (is.sound.rising inode) (omega arith)) in
    record {
      entry = (get_or es k ([], 0)).1;
      is = ap (λ (n : List ℕ). (n, (get_or es k ([], 0)).1)) key;
      short = (is.sound.leads inode name (get_or es k ([], 0)).1 found).named.short;
      walks = entry_walked tree is.sound inode name (get_or es k ([], 0)).1 found;
    }

pub named_from : (tree : Tree) (inode up index k : ℕ) (texts : List (List ℕ)) (name : List ℕ) → IsDirectory tree inode up texts → index ≡ k + 2 → k < length texts → name ≡ get_or texts k [] → IsNamed tree inode index name
named_from tree inode up index k texts name is two low same = let e : suc (suc k) ≡ index = omega arith in subst (λ (n : ℕ). IsNamed tree inode n name) e (named_by tree inode up k texts name is low same)

pub entries_many : (tree : Tree) (inode up : ℕ) (texts : List (List ℕ)) → IsDirectory tree inode up texts → length (entries inode tree) ≡ length texts + 2
entries_many tree inode up texts is =
    let many : length (keys_of (names_in tree.nodes inode)) ≡ length (names_in tree.nodes inode) = length-map (names_in tree.nodes inode) (λ (x : List ℕ × ℕ). x.0) in
    let texts_many : length texts ≡ length (keys_of (names_in tree.nodes inode)) = ap length is.names in
    omega arith

-- ---- entries that fit

length_entry : (next : ℕ) (name : List ℕ) (inode kind : ℕ) → length (entry_with next name inode kind) ≡ entry_size name
length_entry next name inode kind = simp (length-append, length-replicate) (omega arith)

pub entry_long : (next : ℕ) (entry : List ℕ × ℕ) (tree : Tree) → length (entry_bytes next entry tree) ≡ entry_size entry.0
entry_long next entry tree = length_entry next entry.0 entry.1 (kind_byte (kind_in tree entry.1))

fitted_by : (room index : ℕ) (entry : List ℕ × ℕ) (rest : Entries) (tree : Tree) → entry_size entry.0 ≤ room
    → fitted room index (entry ∷ rest) tree ≡ onto (entry_bytes (index + 1) entry tree) (fitted (room - entry_size entry.0) (index + 1) rest tree)
unfolding fitted
fitted_by room index entry rest tree fits =
    ap (λ (b : Bool). if b then record { bytes = []; next = index } else onto (entry_bytes (index + 1) entry tree) (fitted (room - entry_size entry.0) (index + 1) rest tree)) (le-ltb room (entry_size entry.0) fits)

stopped_by : (room index : ℕ) (entry : List ℕ × ℕ) (rest : Entries) (tree : Tree) → room < entry_size entry.0 → fitted room index (entry ∷ rest) tree ≡ record { bytes = []; next = index }
unfolding fitted
stopped_by room index entry rest tree low =
    ap (λ (b : Bool). if b then record { bytes = []; next = index } else onto (entry_bytes (index + 1) entry tree) (fitted (room - entry_size entry.0) (index + 1) rest tree)) (lt-ltb room (entry_size entry.0) low)

none_by : (room index : ℕ) (tree : Tree) → fitted room index [] tree ≡ record { bytes = []; next = index }
unfolding fitted
none_by room index tree = refl

pub fitted_more : (room index : ℕ) (es : Entries) (tree : Tree) → index < length es → entry_size (get_or es index ([], 0)).0 ≤ room
    → fitted room index (drop index es) tree ≡ onto (entry_bytes (index + 1) (get_or es index ([], 0)) tree) (fitted (room - entry_size (get_or es index ([], 0)).0) (index + 1) (drop (index + 1) es) tree)
fitted_more room index es tree low fits =
    ap (λ (l : Entries). fitted room index l tree) (drop_more es index ([], 0) low) ∙ fitted_by room index (get_or es index ([], 0)) (drop (index + 1) es) tree fits

pub fitted_stop : (room index : ℕ) (es : Entries) (tree : Tree) → index < length es → room < entry_size (get_or es index ([], 0)).0 → fitted room index (drop index es) tree ≡ record { bytes = []; next = index }
fitted_stop room index es tree low full =
    ap (λ (l : Entries). fitted room index l tree) (drop_more es index ([], 0) low) ∙ stopped_by room index (get_or es index ([], 0)) (drop (index + 1) es) tree full

pub fitted_end : (room index : ℕ) (es : Entries) (tree : Tree) → length es ≤ index → fitted room index (drop index es) tree ≡ record { bytes = []; next = index }
fitted_end room index es tree high = ap (λ (l : Entries). fitted room index l tree) (drop_all index es high) ∙ none_by room index tree

-- what was added so far, and what fits behind it
abbrev pub Goes : ℕ → ℕ → ℕ → Entries → Tree → List ℕ → Type 0
Goes room from index es tree out = (length out ≤ room) × (fitted room from (drop from es) tree ≡ onto out (fitted (room - length out) index (drop index es) tree))

pub goes_start : (room from : ℕ) (es : Entries) (tree : Tree) → Goes room from from es tree []
goes_start room from es tree = let z : room - 0 ≡ room = omega arith in (omega arith, sym (ap (λ (r : ℕ). fitted r from (drop from es) tree) z))

pub goes_more : (room from index : ℕ) (es : Entries) (tree : Tree) (out new : List ℕ) → Goes room from index es tree out → index < length es → entry_size (get_or es index ([], 0)).0 ≤ room - length out → new ≡ out ++ entry_bytes (index + 1) (get_or es index ([], 0)) tree
    → Goes room from (index + 1) es tree new
goes_more room from index es tree out new so low fits is =
    let e = get_or es index ([], 0) in
    let long : length (entry_bytes (index + 1) e tree) ≡ entry_size e.0 = entry_long (index + 1) e tree in
    let all : length new ≡ length out + length (entry_bytes (index + 1) e tree) = ap length is ∙ length-append out (entry_bytes (index + 1) e tree) in
    let less : (room - length out) - entry_size e.0 ≡ room - length new = omega arith in
    let rest = fitted (room - length new) (index + 1) (drop (index + 1) es) tree in
    let step : fitted (room - length out) index (drop index es) tree ≡ onto (entry_bytes (index + 1) e tree) rest =
    fitted_more (room - length out) index es tree low fits ∙ ap (λ (r : ℕ). onto (entry_bytes (index + 1) e tree) (fitted r (index + 1) (drop (index + 1) es) tree)) less in
    let joined : onto out (onto (entry_bytes (index + 1) e tree) rest) ≡ onto new rest =
    ap (λ (b : List ℕ). record { bytes = b; next = rest.next }) (sym (append_assoc out (entry_bytes (index + 1) e tree) rest.bytes) ∙ ap (λ (l : List ℕ). l ++ rest.bytes) (sym is)) in
    (omega arith, so.1 ∙ (ap (onto out) step ∙ joined))

pub goes_end : (room from index : ℕ) (es : Entries) (tree : Tree) (out : List ℕ) → Goes room from index es tree out → fitted (room - length out) index (drop index es) tree ≡ record { bytes = []; next = index } → fitted room from (drop from es) tree ≡ record { bytes = out; next = index }
goes_end room from index es tree out so last = so.1 ∙ (ap (onto out) last ∙ ap (λ (b : List ℕ). record { bytes = b; next = index }) (append-nil out))

-- ---- whether some entry fits

lists_by : (room index : ℕ) (entry : List ℕ × ℕ) (rest : Entries) (tree : Tree) (bytes : List ℕ) (next : ℕ) (b : Bool) → nat_lt room (entry_size entry.0) ≡ b → fitted room index (entry ∷ rest) tree ≡ record { bytes = bytes; next = next }
    → (length bytes ≡ 0 → lists room index (entry ∷ rest) tree ≡ Err EINVAL) × (0 < length bytes → lists room index (entry ∷ rest) tree ≡ Ok (record { bytes = bytes; next = next }))
lists_by room index entry rest tree bytes next true same made =
    let stopped = stopped_by room index entry rest tree (ltb-true room (entry_size entry.0) same) in
    let none : length bytes ≡ 0 = ap (λ (l : Listed). length l.bytes) (sym made ∙ stopped) in
    (λ empty. ap (λ (b : Bool). if b then Err EINVAL else Ok (fitted room index (entry ∷ rest) tree)) same, λ some. absurd (omega arith))
lists_by room index entry rest tree bytes next false same made =
    let some : length bytes ≡ length (entry_bytes (index + 1) entry tree ++ (fitted (room - entry_size entry.0) (index + 1) rest tree).bytes) =
    ap (λ (l : Listed). length l.bytes) (sym made ∙ fitted_by room index entry rest tree (ltb-false room (entry_size entry.0) same)) in
    let long = entry_long (index + 1) entry tree in
    let all = length-append (entry_bytes (index + 1) entry tree) (fitted (room - entry_size entry.0) (index + 1) rest tree).bytes in
    (λ empty. absurd (omega arith), λ some. ap (λ (b : Bool). if b then Err EINVAL else Ok (fitted room index (entry ∷ rest) tree)) same ∙ ap (λ (l : Listed). Ok l) made)

pub lists_some : (room from : ℕ) (es : Entries) (tree : Tree) (bytes : List ℕ) (next : ℕ) → from < length es → fitted room from (drop from es) tree ≡ record { bytes = bytes; next = next }
    → (length bytes ≡ 0 → lists room from (drop from es) tree ≡ Err EINVAL) × (0 < length bytes → lists room from (drop from es) tree ≡ Ok (record { bytes = bytes; next = next }))
lists_some room from es tree bytes next low made =
    let e = drop_more es from ([], 0) low in
    let h = lists_by room from (get_or es from ([], 0)) (drop (from + 1) es) tree bytes next (nat_lt room (entry_size (get_or es from ([], 0)).0)) refl (ap (λ (l : Entries). fitted room from l tree) (sym e) ∙ made) in
    (λ empty. ap (λ (l : Entries). lists room from l tree) e ∙ h.0 empty, λ some. ap (λ (l : Entries). lists room from l tree) e ∙ h.1 some)

pub lists_none : (room from : ℕ) (es : Entries) (tree : Tree) (bytes : List ℕ) (next : ℕ) → length es ≤ from → fitted room from (drop from es) tree ≡ record { bytes = bytes; next = next } → lists room from (drop from es) tree ≡ Ok (record { bytes = bytes; next = next })
lists_none room from es tree bytes next high made =
    ap (λ (l : Entries). lists room from l tree) (drop_all from es high) ∙ ap (λ (l : Listed). Ok l) (sym (fitted_end room from es tree high) ∙ made)

pub lists_answer : (room from many : ℕ) (es : Entries) (tree : Tree) (bytes : List ℕ) (next : ℕ) → length es ≡ many → fitted room from (drop from es) tree ≡ record { bytes = bytes; next = next }
    → (((length bytes == 0) && nat_lt from many) ≡ true → lists room from (drop from es) tree ≡ Err EINVAL) × (((length bytes == 0) && nat_lt from many) ≡ false → lists room from (drop from es) tree ≡ Ok (record { bytes = bytes; next = next }))
lists_answer room from many es tree bytes next all made = by_tests (length bytes == 0) (nat_lt from many) refl refl
  where
    by_tests : (none low : Bool) → (length bytes == 0) ≡ none → nat_lt from many ≡ low → ((none && low) ≡ true → lists room from (drop from es) tree ≡ Err EINVAL) × ((none && low) ≡ false → lists room from (drop from es) tree ≡ Ok (record { bytes = bytes; next = next }))
    by_tests true true none low =
        let n = eqb-true (length bytes) 0 none in
        let l = ltb-true from many low in
        let within : from < length es = omega arith in
        (λ both. (lists_some room from es tree bytes next within made).0 n, λ both. absurd (let f : ⊥ = cc in f))
    by_tests none false e low =
        let l = ltb-false from many low in
        let past : length es ≤ from = omega arith in
        (λ both. absurd (never none both), λ both. lists_none room from es tree bytes next past made)
      where
        never : (b : Bool) → (b && false) ≡ true → ⊥
        never true both = let f : ⊥ = cc in f
        never false both = let f : ⊥ = cc in f
    by_tests false true none low =
        let l = ltb-true from many low in
        let within : from < length es = omega arith in
        let some : 0 < length bytes = positive (length bytes) (eqb-false (length bytes) 0 none) in
        (λ both. absurd (let f : ⊥ = cc in f), λ both. (lists_some room from es tree bytes next within made).1 some)
      where
        positive : (n : ℕ) → n ≢ 0 → 0 < n
        positive n apart = omega arith

-- ---- the bytes of an entry, one part after another

pub four_joined : (old a b c d first second third new : List ℕ) → first ≡ old ++ a → second ≡ first ++ b → third ≡ second ++ c → new ≡ third ++ d → new ≡ old ++ (((a ++ b) ++ c) ++ d)
four_joined old a b c d first second third new one two three four =
    let e : new ≡ (((old ++ a) ++ b) ++ c) ++ d = cc in
    e ∙ simp append_assoc

pub entry_joined : (old head name zeros first second new : List ℕ) (kind : ℕ) → first ≡ old ++ (head ++ kind ∷ []) → second ≡ first ++ name → new ≡ second ++ zeros → new ≡ old ++ ((head ++ kind ∷ name) ++ zeros)
entry_joined old head name zeros first second new kind one two three =
    let e : new ≡ ((old ++ (head ++ kind ∷ [])) ++ name) ++ zeros = cc in
    e ∙ simp append_assoc
