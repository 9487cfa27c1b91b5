-- The linked entries stay one tree after an entry is made, and after one is taken away.
use Rattle.std.proofs.Common.{◌≡◌, ◌≢◌, ℕ, ◌<◌, ◌≤◌, Bool, true, false, cond, List, [], Option, Some, None, IsSome, ◌⊎◌, inl, inr, refl, sym, ap, subst, ◌∙◌, arith}
use Rattle.std.specs.Ordering.{nat_cmp, is_eq}
use Rattle.std.specs.Cmp.Lexicographic.{slice_cmp}
use Rattle.std.proofs.lemmas.Cmp.{nat_list_cmp_total}
use Rattle.std.proofs.lemmas.Bool.{cases_eq, cases_lt}
use Rattle.file_tree.specs.declared.node.Directory.{Directory}
use Rattle.file_tree.specs.Entries.{entry_named, with_entry, without_entry, AreRising}
use Rattle.file_tree.specs.Making.{path_below}
use Rattle.file_tree.specs.Whole.{Place, File, Dir, entries_in, path_in, child, IsName, IsPlaced, IsRoot, HasHome, IsTree}
use Rattle.file_tree.proofs.LookFacts.{lookup-insert_entry, lookup-removed, sorted-insert, sorted-remove, same_name, self_name, sorted-nil}

-- a place without names, made at this spot
abbrev pub IsNew : ℕ → ℕ → Place → Type 0
IsNew at path File = Unit {0}
IsNew at path (Dir directory) = (directory.parent ≡ at) × (directory.path ≡ path) × (directory.names ≡ [])

abbrev pub more_named : List ℕ → ℕ → Directory → Directory
more_named name inode directory = record { parent = directory.parent; path = directory.path; names = with_entry name inode directory.names }

abbrev pub less_named : List ℕ → Directory → Directory
less_named name directory = record { parent = directory.parent; path = directory.path; names = without_entry name directory.names }

pub none_some : {X : Type 0} (x : Option X) (v : X) → x ≡ None → x ≡ Some v → ⊥
none_some x v none some = let f : ⊥ = cc in f

pub is_some_from : {X : Type 0} (x : Option X) (v : X) → x ≡ Some v → IsSome x
is_some_from None v some = absurd (none_some None v refl some)
is_some_from (Some w) v some = refl

pub no_some : {X : Type 0} (x : Option X) → x ≡ None → IsSome x → ⊥
no_some None none some = let f : ⊥ = cc in f
no_some (Some v) none some = none_some (Some v) v none refl

-- what stands in a place that is there
pub a_child_is_below : (tree : ℕ → Option Place) → IsTree tree → (at : ℕ) (name : List ℕ) (inode : ℕ) → child tree at name ≡ Some inode → at < inode
a_child_is_below tree is at name inode found = (is.placed at name inode found).rises

-- a directory whose name leads somewhere is linked
pub a_parent_is_linked : (tree : ℕ → Option Place) (at : ℕ) (name : List ℕ) (inode : ℕ) → child tree at name ≡ Some inode → IsSome (tree at)
a_parent_is_linked tree at name inode found = by_place (tree at) name inode found
  where
    by_place : (place : Option Place) (name : List ℕ) (inode : ℕ) → entry_named name (entries_in place) ≡ Some inode → IsSome place
    by_place None name inode found = absurd (none_some None inode refl found)
    by_place (Some place) name inode found = refl

new_entries : (at path : ℕ) (new : Place) → IsNew at path new → entries_in (Some new) ≡ []
new_entries at path File is = refl
new_entries at path (Dir directory) is = is.2

new_below : (at path : ℕ) (new : Place) → IsNew at path new → (directory : Directory) → Some new ≡ Some (Dir directory) → (directory.parent ≡ at) × (directory.path ≡ path)
new_below at path File is directory same = absurd (let f : ⊥ = cc in f)
new_below at path (Dir d) is directory same =
    let e : d ≡ directory = cc in
    (ap (λ (x : Directory). x.parent) (sym e) ∙ is.0, ap (λ (x : Directory). x.path) (sym e) ∙ is.1)

dir_same : (a b : Directory) (place : Option Place) → place ≡ Some (Dir a) → place ≡ Some (Dir b) → a ≡ b
dir_same a b place one two = cc

made_cond : (b : Bool) (inode k : ℕ) (rest : Option ℕ) → cond b (Some inode) rest ≡ Some k → ((b ≡ true) × (k ≡ inode)) ⊎ ((b ≡ false) × (rest ≡ Some k))
made_cond true inode k rest is = inl (refl, let e : k ≡ inode = cc in e)
made_cond false inode k rest is = inr (refl, is)

gone_cond : (b : Bool) (k : ℕ) (rest : Option ℕ) → cond b None rest ≡ Some k → (b ≡ false) × (rest ≡ Some k)
gone_cond true k rest is = absurd (let f : ⊥ = cc in f)
gone_cond false k rest is = (refl, is)

-- ---- an entry is made

module _ (tree new : ℕ → Option Place) (at inode : ℕ) (name : List ℕ) (d : Directory) (place : Place)
    (is : IsTree tree) (here : tree at ≡ Some (Dir d)) (absent : entry_named name d.names ≡ None)
    (above : (k : ℕ) → inode ≤ k → tree k ≡ None) (named : IsName at name) (short : path_below d.path name ≤ 4095)
    (fresh : IsNew at (path_below d.path name) place) (put : new inode ≡ Some place)
    (more : new at ≡ Some (Dir (more_named name inode d))) (others : (k : ℕ) → k ≢ inode → k ≢ at → new k ≡ tree k) where
  below_new : (k : ℕ) → IsSome (tree k) → k < inode
  below_new k some = elim (cases_lt k inode) [ inl low ↦ low | inr high ↦ absurd (no_some (tree k) (above k high) some) ]

  at_low : at < inode
  at_low = below_new at (is_some_from (tree at) (Dir d) here)

  at_entries : entries_in (tree at) ≡ d.names
  at_entries = ap entries_in here

  made_child : (e : ℕ) (n : List ℕ) (k : ℕ) → child new e n ≡ Some k → ((e ≡ at) × (n ≡ name) × (k ≡ inode)) ⊎ (child tree e n ≡ Some k)
  made_child e n k found =
      elim (cases_eq e inode) [
        | inl same ↦ absurd (none_some None k refl (sym (ap (λ (x : ℕ). child new x n) same ∙ (ap (λ (p : Option Place). entry_named n (entries_in p)) put ∙ ap (entry_named n) (new_entries at (path_below d.path name) place fresh))) ∙ found))
        | inr apart ↦ elim (cases_eq e at) [
          | inl same ↦ elim (made_cond (is_eq (slice_cmp nat_cmp n name)) inode k (entry_named n d.names)
              (sym (ap (λ (x : ℕ). child new x n) same ∙ (ap (λ (p : Option Place). entry_named n (entries_in p)) more ∙ lookup-insert_entry nat_list_cmp_total name n inode d.names)) ∙ found)) [
                | inl hit ↦ inl (same, same_name n name hit.0, hit.1)
                | inr miss ↦ inr (ap (λ (x : ℕ). child tree x n) same ∙ (ap (λ (p : Option Place). entry_named n (entries_in p)) here ∙ miss.1))
              ]
          | inr away ↦ inr (ap (λ (p : Option Place). entry_named n (entries_in p)) (sym (others e apart away)) ∙ found)
        ]
      ]

  kept_child : (e : ℕ) (n : List ℕ) (k : ℕ) → child tree e n ≡ Some k → child new e n ≡ Some k
  kept_child e n k found =
      let low : e < inode = below_new e (a_parent_is_linked tree e n k found) in
      let apart : e ≢ inode = λ same. absurd (omega arith) in
      elim (cases_eq e at) [
        | inl same ↦
            let old : entry_named n d.names ≡ Some k = sym (ap (λ (x : ℕ). child tree x n) same ∙ ap (λ (p : Option Place). entry_named n (entries_in p)) here) ∙ found in
            ap (λ (x : ℕ). child new x n) same ∙ (ap (λ (p : Option Place). entry_named n (entries_in p)) more ∙ (lookup-insert_entry nat_list_cmp_total name n inode d.names ∙ stays (is_eq (slice_cmp nat_cmp n name)) n k refl old))
        | inr away ↦ ap (λ (p : Option Place). entry_named n (entries_in p)) (others e apart away) ∙ found
      ]
    where
      stays : (b : Bool) (n : List ℕ) (k : ℕ) → is_eq (slice_cmp nat_cmp n name) ≡ b → entry_named n d.names ≡ Some k → cond b (Some inode) (entry_named n d.names) ≡ Some k
      stays true n k same old = absurd (none_some (entry_named name d.names) k absent (ap (λ (x : List ℕ). entry_named x d.names) (sym (same_name n name same)) ∙ old))
      stays false n k same old = old

  new_child : child new at name ≡ Some inode
  new_child =
      ap (λ (p : Option Place). entry_named name (entries_in p)) more ∙ (lookup-insert_entry nat_list_cmp_total name name inode d.names ∙ ap (λ (b : Bool). cond b (Some inode) (entry_named name d.names)) (self_name name))

  same_path : (e : ℕ) → IsSome (tree e) → path_in (new e) ≡ path_in (tree e)
  same_path e some =
      let low : e < inode = below_new e some in
      let apart : e ≢ inode = λ same. absurd (omega arith) in
      elim (cases_eq e at) [
        | inl same ↦ ap (λ (x : ℕ). path_in (new x)) same ∙ (ap path_in more ∙ sym (ap (λ (x : ℕ). path_in (tree x)) same ∙ ap path_in here))
        | inr away ↦ ap path_in (others e apart away)
      ]

  still_some : (k : ℕ) → IsSome (tree k) → IsSome (new k)
  still_some k some =
      let low : k < inode = below_new k some in
      let apart : k ≢ inode = λ same. absurd (omega arith) in
      elim (cases_eq k at) [
        | inl same ↦ is_some_from (new k) (Dir (more_named name inode d)) (ap new same ∙ more)
        | inr away ↦ subst IsSome (sym (others k apart away)) some
      ]

  placed_old : (e : ℕ) (n : List ℕ) (k : ℕ) → child tree e n ≡ Some k → IsPlaced new e n k
  placed_old e n k found =
      let p = is.placed e n k found in
      let path = same_path e (a_parent_is_linked tree e n k found) in
      let low : k < inode = below_new k p.linked in
      let apart : k ≢ inode = λ same. absurd (omega arith) in
      record {
        named = p.named;
        rises = p.rises;
        short = rw path p.short;
        linked = still_some k p.linked;
        below = λ directory same. rw path (elim (cases_eq k at) [
          | inl eq ↦
              let e1 : more_named name inode d ≡ directory = dir_same (more_named name inode d) directory (new at) more (ap new (sym eq) ∙ same) in
              let old = p.below d (ap tree eq ∙ here) in
              (ap (λ (x : Directory). x.parent) (sym e1) ∙ old.0, ap (λ (x : Directory). x.path) (sym e1) ∙ old.1)
          | inr away ↦ p.below directory (sym (others k apart away) ∙ same)
        ]);
      }

  placed_new : IsPlaced new at name inode
  placed_new =
      let path : path_in (new at) ≡ d.path = ap path_in more in
      record {
        named = named;
        rises = at_low;
        short = rw path short;
        linked = is_some_from (new inode) place put;
        below = λ directory same. rw path (new_below at (path_below d.path name) place fresh directory (sym put ∙ same));
      }

  placed_all : (e : ℕ) (n : List ℕ) (k : ℕ) → child new e n ≡ Some k → IsPlaced new e n k
  placed_all e n k found =
      elim (made_child e n k found) [
        | inl made ↦ subst (λ (x : ℕ). IsPlaced new x n k) (sym made.0) (subst (λ (x : List ℕ). IsPlaced new at x k) (sym made.1) (subst (λ (x : ℕ). IsPlaced new at name x) (sym made.2) placed_new))
        | inr old ↦ placed_old e n k old
      ]

  never_new : (e : ℕ) (n : List ℕ) (k : ℕ) → child tree e n ≡ Some k → k ≢ inode
  never_new e n k found same =
      let low : k < inode = below_new k (is.placed e n k found).linked in
      absurd (omega arith)

  once_all : (e f : ℕ) (n m : List ℕ) (k : ℕ) → child new e n ≡ Some k → child new f m ≡ Some k → (e ≡ f) × (n ≡ m)
  once_all e f n m k one two =
      elim (made_child e n k one) [
        | inl a ↦ elim (made_child f m k two) [
          | inl b ↦ (a.0 ∙ sym b.0, a.1 ∙ sym b.1)
          | inr old ↦ absurd (never_new f m k old a.2)
        ]
        | inr old ↦ elim (made_child f m k two) [
          | inl b ↦ absurd (never_new e n k old b.2)
          | inr other ↦ is.once e f n m k old other
        ]
      ]

  root_new : IsRoot (new 1)
  root_new =
      let r = is.root in
      let low : 1 < inode = below_new 1 (is_some_from (tree 1) (Dir r.directory) r.is) in
      let apart : 1 ≢ inode = λ same. absurd (omega arith) in
      elim (cases_eq 1 at) [
        | inl same ↦
            let e : d ≡ r.directory = dir_same d r.directory (tree at) here (ap tree (sym same) ∙ r.is) in
            record { directory = more_named name inode d; is = ap new same ∙ more; parent = ap (λ (x : Directory). x.parent) e ∙ r.parent; path = ap (λ (x : Directory). x.path) e ∙ r.path }
        | inr away ↦ record { directory = r.directory; is = others 1 apart away ∙ r.is; parent = r.parent; path = r.path }
      ]

  rising_new : (e : ℕ) → AreRising (entries_in (new e))
  rising_new e =
      elim (cases_eq e inode) [
        | inl same ↦ subst AreRising (sym (ap (λ (x : ℕ). entries_in (new x)) same ∙ (ap entries_in put ∙ new_entries at (path_below d.path name) place fresh))) (sorted-nil (slice_cmp nat_cmp))
        | inr apart ↦ elim (cases_eq e at) [
          | inl same ↦ subst AreRising (sym (ap (λ (x : ℕ). entries_in (new x)) same ∙ ap entries_in more))
              (sorted-insert nat_list_cmp_total name inode d.names (subst AreRising at_entries (is.rising at)))
          | inr away ↦ subst AreRising (ap entries_in (sym (others e apart away))) (is.rising e)
        ]
      ]

  homed_new : (k : ℕ) → k ≢ 1 → IsSome (new k) → HasHome new k
  homed_new k not_root some =
      elim (cases_eq k inode) [
        | inl same ↦ record { at = at; name = name; is = rw same new_child }
        | inr apart ↦
            let was : IsSome (tree k) = elim (cases_eq k at) [
              | inl same ↦ is_some_from (tree k) (Dir d) (ap tree same ∙ here)
              | inr away ↦ subst IsSome (others k apart away) some
            ] in
            let home = is.homed k not_root was in
            record { at = home.at; name = home.name; is = kept_child home.at home.name k home.is }
      ]

  pub made_tree : IsTree new
  made_tree = record { root = root_new; rising = rising_new; placed = placed_all; once = once_all; homed = homed_new }

-- ---- an entry is taken away

module _ (tree new : ℕ → Option Place) (at inode : ℕ) (name : List ℕ) (d : Directory)
    (is : IsTree tree) (here : tree at ≡ Some (Dir d)) (found : entry_named name d.names ≡ Some inode) (empty : entries_in (tree inode) ≡ [])
    (gone : new inode ≡ None) (less : new at ≡ Some (Dir (less_named name d))) (others : (k : ℕ) → k ≢ inode → k ≢ at → new k ≡ tree k) where
  found_child : child tree at name ≡ Some inode
  found_child = ap (λ (p : Option Place). entry_named name (entries_in p)) here ∙ found

  at_below : at < inode
  at_below = a_child_is_below tree is at name inode found_child

  sorted_at : AreRising d.names
  sorted_at = subst AreRising (ap entries_in here) (is.rising at)

  left_child : (e : ℕ) (n : List ℕ) (k : ℕ) → child new e n ≡ Some k → (child tree e n ≡ Some k) × (k ≢ inode)
  left_child e n k has =
      elim (cases_eq e inode) [
        | inl same ↦ absurd (none_some None k refl (sym (ap (λ (x : ℕ). child new x n) same ∙ ap (λ (p : Option Place). entry_named n (entries_in p)) gone) ∙ has))
        | inr apart ↦ elim (cases_eq e at) [
          | inl same ↦
              let left = gone_cond (is_eq (slice_cmp nat_cmp name n)) k (entry_named n d.names)
              (sym (ap (λ (x : ℕ). child new x n) same ∙ (ap (λ (p : Option Place). entry_named n (entries_in p)) less ∙ lookup-removed nat_list_cmp_total name n d.names sorted_at)) ∙ has) in
              let old : child tree e n ≡ Some k = ap (λ (x : ℕ). child tree x n) same ∙ (ap (λ (p : Option Place). entry_named n (entries_in p)) here ∙ left.1) in
              (old, λ eq. absurd (not_same (is_eq (slice_cmp nat_cmp name n)) n left.0 refl ((is.once e at n name inode (old ∙ ap Some eq) found_child).1)))
          | inr away ↦
              let old : child tree e n ≡ Some k = ap (λ (p : Option Place). entry_named n (entries_in p)) (sym (others e apart away)) ∙ has in
              (old, λ eq. absurd (away ((is.once e at n name inode (old ∙ ap Some eq) found_child).0)))
        ]
      ]
    where
      not_same : (b : Bool) (n : List ℕ) → b ≡ false → is_eq (slice_cmp nat_cmp name n) ≡ b → n ≡ name → ⊥
      not_same b n miss same eq =
          let hit : is_eq (slice_cmp nat_cmp name n) ≡ true = ap (λ (x : List ℕ). is_eq (slice_cmp nat_cmp name x)) eq ∙ self_name name in
          let f : ⊥ = cc in f

  stays_child : (e : ℕ) (n : List ℕ) (k : ℕ) → child tree e n ≡ Some k → k ≢ inode → child new e n ≡ Some k
  stays_child e n k has other =
      elim (cases_eq e inode) [
        | inl same ↦ absurd (none_some None k refl (sym (ap (λ (x : ℕ). child tree x n) same ∙ ap (entry_named n) empty) ∙ has))
        | inr apart ↦ elim (cases_eq e at) [
          | inl same ↦
              let old : entry_named n d.names ≡ Some k = sym (ap (λ (x : ℕ). child tree x n) same ∙ ap (λ (p : Option Place). entry_named n (entries_in p)) here) ∙ has in
              ap (λ (x : ℕ). child new x n) same ∙ (ap (λ (p : Option Place). entry_named n (entries_in p)) less ∙ (lookup-removed nat_list_cmp_total name n d.names sorted_at
              ∙ left_by (is_eq (slice_cmp nat_cmp name n)) n k refl old other))
          | inr away ↦ ap (λ (p : Option Place). entry_named n (entries_in p)) (others e apart away) ∙ has
        ]
      ]
    where
      left_by : (b : Bool) (n : List ℕ) (k : ℕ) → is_eq (slice_cmp nat_cmp name n) ≡ b → entry_named n d.names ≡ Some k → k ≢ inode → cond b None (entry_named n d.names) ≡ Some k
      left_by true n k same old other =
          let e : entry_named n d.names ≡ Some inode = ap (λ (x : List ℕ). entry_named x d.names) (sym (same_name name n same)) ∙ found in
          absurd (other (let eq : k ≡ inode = cc in eq))
      left_by false n k same old other = old

  path_left : (e : ℕ) → e ≢ inode → path_in (new e) ≡ path_in (tree e)
  path_left e apart =
      elim (cases_eq e at) [
        | inl same ↦ ap (λ (x : ℕ). path_in (new x)) same ∙ (ap path_in less ∙ sym (ap (λ (x : ℕ). path_in (tree x)) same ∙ ap path_in here))
        | inr away ↦ ap path_in (others e apart away)
      ]

  some_left : (k : ℕ) → k ≢ inode → IsSome (tree k) → IsSome (new k)
  some_left k apart some =
      elim (cases_eq k at) [
        | inl same ↦ is_some_from (new k) (Dir (less_named name d)) (ap new same ∙ less)
        | inr away ↦ subst IsSome (sym (others k apart away)) some
      ]

  some_was : (k : ℕ) → IsSome (new k) → (k ≢ inode) × IsSome (tree k)
  some_was k some =
      let apart : k ≢ inode = λ same. no_some (new k) (ap new same ∙ gone) some in (
        apart,
        elim (cases_eq k at) [
          | inl same ↦ is_some_from (tree k) (Dir d) (ap tree same ∙ here)
          | inr away ↦ subst IsSome (others k apart away) some
        ],
      )

  placed_left : (e : ℕ) (n : List ℕ) (k : ℕ) → child new e n ≡ Some k → IsPlaced new e n k
  placed_left e n k has =
      let old = left_child e n k has in
      let p = is.placed e n k old.0 in
      let parent : e ≢ inode = λ same. no_some (new e) (ap new same ∙ gone) (a_parent_is_linked new e n k has) in
      let path = path_left e parent in
      record {
        named = p.named;
        rises = p.rises;
        short = rw path p.short;
        linked = some_left k old.1 p.linked;
        below = λ directory same. rw path (elim (cases_eq k at) [
          | inl eq ↦
              let e1 : less_named name d ≡ directory = dir_same (less_named name d) directory (new at) less (ap new (sym eq) ∙ same) in
              let was = p.below d (ap tree eq ∙ here) in
              (ap (λ (x : Directory). x.parent) (sym e1) ∙ was.0, ap (λ (x : Directory). x.path) (sym e1) ∙ was.1)
          | inr away ↦ p.below directory (sym (others k old.1 away) ∙ same)
        ]);
      }

  once_left : (e f : ℕ) (n m : List ℕ) (k : ℕ) → child new e n ≡ Some k → child new f m ≡ Some k → (e ≡ f) × (n ≡ m)
  once_left e f n m k one two = is.once e f n m k (left_child e n k one).0 (left_child f m k two).0

  root_left : 1 ≢ inode → IsRoot (new 1)
  root_left apart =
      let r = is.root in
      elim (cases_eq 1 at) [
        | inl same ↦
            let e : d ≡ r.directory = dir_same d r.directory (tree at) here (ap tree (sym same) ∙ r.is) in
            record { directory = less_named name d; is = ap new same ∙ less; parent = ap (λ (x : Directory). x.parent) e ∙ r.parent; path = ap (λ (x : Directory). x.path) e ∙ r.path }
        | inr away ↦ record { directory = r.directory; is = others 1 apart away ∙ r.is; parent = r.parent; path = r.path }
      ]

  rising_left : (e : ℕ) → AreRising (entries_in (new e))
  rising_left e =
      elim (cases_eq e inode) [
        | inl same ↦ subst AreRising (sym (ap (λ (x : ℕ). entries_in (new x)) same ∙ ap entries_in gone)) (sorted-nil (slice_cmp nat_cmp))
        | inr apart ↦ elim (cases_eq e at) [
          | inl same ↦ subst AreRising (sym (ap (λ (x : ℕ). entries_in (new x)) same ∙ ap entries_in less)) (sorted-remove nat_list_cmp_total _ d.names sorted_at)
          | inr away ↦ subst AreRising (ap entries_in (sym (others e apart away))) (is.rising e)
        ]
      ]

  homed_left : (k : ℕ) → k ≢ 1 → IsSome (new k) → HasHome new k
  homed_left k not_root some =
      let was = some_was k some in
      let home = is.homed k not_root was.1 in
      record { at = home.at; name = home.name; is = stays_child home.at home.name k home.is was.0 }

  pub left_tree : 1 ≢ inode → IsTree new
  left_tree apart = record { root = root_left apart; rising = rising_left; placed = placed_left; once = once_left; homed = homed_left }
