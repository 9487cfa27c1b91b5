-- Look-ups after a change of a map's entries.
use Rattle.std.proofs.Common.{◌≡◌, ℕ, Bool, true, false, cond, List, [], ◌∷◌, Option, Some, None, IsSome, Ordering, Less, Equal, Greater, refl, sym, ap, ◌∙◌}
use Rattle.std.specs.Ordering.{nat_cmp, is_eq, match_ordering, ordering_reverse}
use Rattle.std.specs.Cmp.{IsTotalOrder}
use Rattle.std.specs.Cmp.Lexicographic.{slice_cmp}
use Rattle.std.proofs.lemmas.Cmp.{nat_cmp_total, nat_list_cmp_total, tied_itself, eq_by_cmp_equiv, ranked}
use Rattle.std.proofs.lemmas.Map.Text.{is_eq-slice_cmp}
use Rattle.std.proofs.lemmas.Slice.Eq.{bytes_eq-Decides}
use Rattle.std.proofs.lemmas.Map.{lookup-set_value, lookup-remove_entry}
use Rattle.std.proofs.lemmas.Map.Keys.{IsDistinct-from_sorted}
use Rattle.std.specs.List.{AllByRecursion}
use Rattle.std.specs.List.Sorted.{IsStrictlySortedBy}
use Rattle.std.specs.Map.{lookup, remove_entry, set_value, keys_of}
use Rattle.std.specs.BTreeMap.{is_at, insert_entry}

equal_from : (r : Ordering) → is_eq r ≡ true → r ≡ Equal
equal_from Less is = absurd (let f : ⊥ = cc in f)
equal_from Equal is = refl
equal_from Greater is = absurd (let f : ⊥ = cc in f)

module _ {K : Type 0} {R : K → K → Ordering} (o : IsTotalOrder R) where
  apart_from : (q k e : K) → Greater ≡ R k e → is_eq (R q e) ≡ true → is_eq (R q k) ≡ true → ⊥
  apart_from q k e greater first second =
      let a : R q e ≡ Equal = equal_from (R q e) first in
      let b : R q k ≡ Equal = equal_from (R q k) second in
      let d : R q e ≡ R k e = o.congr q k e b in
      let f : ⊥ = cc in f

  one_test : (k x y : K) → is_eq (R k x) ≡ true → is_eq (R k y) ≡ is_eq (R x y)
  one_test k x y is = ap is_eq (o.congr k x y (equal_from (R k x) is))

  all_less : (k e : K) (ks : List K) → R k e ≡ Less → AllByRecursion (λ y. R e y ≡ Less) ks → AllByRecursion (λ y. R k y ≡ Less) ks
  all_less k e [] less all = all
  all_less k e (y ∷ ks) less all = (o.trans k e y less all.0, all_less k e ks less all.1)

  level : (q k e : K) → R k e ≡ Equal → R q e ≡ R q k
  level q k e same = o.antisymm q e ∙ (ap ordering_reverse (sym (o.congr k e q same)) ∙ sym (o.antisymm q k))

-- a list without entries is in order
pub sorted-nil : {K : Type 0} (R : K → K → Ordering) → IsStrictlySortedBy R []
unfolding IsStrictlySortedBy
sorted-nil R = tt

module _ {K X : Type 0} {R : K → K → Ordering} (o : IsTotalOrder R) where
  swap_by : (b d : Bool) (x y : Option X) (z : Option X) → (b ≡ true → d ≡ true → ⊥) → cond b x (cond d y z) ≡ cond d y (cond b x z)
  swap_by true true x y z apart = absurd (apart refl refl)
  swap_by true false x y z apart = refl
  swap_by false true x y z apart = refl
  swap_by false false x y z apart = refl

  twice : (b : Bool) (x y z : Option X) → cond b x z ≡ cond b x (cond b y z)
  twice true x y z = refl
  twice false x y z = refl

  insert_by : (r : Ordering) (k q : K) (v : X) (e : K × X) (es rest : List (K × X)) → r ≡ R k e.0
      → lookup (is_at (R q)) rest ≡ cond (is_eq (R q k)) (Some v) (lookup (is_at (R q)) es)
      → lookup (is_at (R q)) (match_ordering r ((k, v) ∷ e ∷ es) ((e.0, v) ∷ es) (e ∷ rest)) ≡ cond (is_eq (R q k)) (Some v) (lookup (is_at (R q)) (e ∷ es))
  insert_by Less k q v e es rest same go = refl
  insert_by Equal k q v e es rest same go =
      rw (level o q k e.0 (sym same)) (twice (is_eq (R q k)) (Some v) (Some e.1) (lookup (is_at (R q)) es))
  insert_by Greater k q v e es rest same go =
      ap (cond (is_eq (R q e.0)) (Some e.1)) go ∙ swap_by (is_eq (R q e.0)) (is_eq (R q k)) (Some e.1) (Some v) (lookup (is_at (R q)) es) (apart_from o q k e.0 same)

  -- after an insert
  pub lookup-insert_entry : (k q : K) (v : X) (es : List (K × X)) → lookup (is_at (R q)) (insert_entry R es k v) ≡ cond (is_eq (R q k)) (Some v) (lookup (is_at (R q)) es)
  lookup-insert_entry k q v [] = refl
  lookup-insert_entry k q v (e ∷ es) = insert_by (R k e.0) k q v e es (insert_entry R es k v) refl (lookup-insert_entry k q v es)

  -- after a value is set
  pub lookup-set : (k q : K) (w : X) (es : List (K × X)) → IsSome (lookup (is_at (R k)) es) → lookup (is_at (R q)) (set_value (is_at (R k)) es w) ≡ cond (is_eq (R k q)) (Some w) (lookup (is_at (R q)) es)
  lookup-set k q w es some = lookup-set_value (eq_by_cmp_equiv o) (is_at (R k)) (one_test o k) q w es some

  -- after a removal
  pub lookup-removed : (k q : K) (es : List (K × X)) → IsStrictlySortedBy R (keys_of es) → lookup (is_at (R q)) (remove_entry (is_at (R k)) es) ≡ cond (is_eq (R k q)) None (lookup (is_at (R q)) es)
  lookup-removed k q es sorted = lookup-remove_entry (eq_by_cmp_equiv o) (is_at (R k)) (one_test o k) q es (IsDistinct-from_sorted R (keys_of es) sorted)

  insert_all_by : (r : Ordering) (P : K → Type 0) (k : K) (v : X) (e : K × X) (es rest : List (K × X)) → P k → P e.0 → AllByRecursion P (keys_of es) → AllByRecursion P (keys_of rest)
      → AllByRecursion P (keys_of (match_ordering r ((k, v) ∷ e ∷ es) ((e.0, v) ∷ es) (e ∷ rest)))
  insert_all_by Less P k v e es rest here first all more = (here, (first, all))
  insert_all_by Equal P k v e es rest here first all more = (first, all)
  insert_all_by Greater P k v e es rest here first all more = (first, more)

  insert_all : (P : K → Type 0) (k : K) (v : X) (es : List (K × X)) → P k → AllByRecursion P (keys_of es) → AllByRecursion P (keys_of (insert_entry R es k v))
  insert_all P k v [] here all = (here, tt)
  insert_all P k v (e ∷ es) here all = insert_all_by (R k e.0) P k v e es (insert_entry R es k v) here all.0 all.1 (insert_all P k v es here all.1)

  sorted_by : (r : Ordering) (k : K) (v : X) (e : K × X) (es : List (K × X)) → r ≡ R k e.0 → AllByRecursion (λ y. R e.0 y ≡ Less) (keys_of es) → IsStrictlySortedBy R (keys_of es)
      → IsStrictlySortedBy R (keys_of (insert_entry R es k v))
      → IsStrictlySortedBy R (keys_of (match_ordering r ((k, v) ∷ e ∷ es) ((e.0, v) ∷ es) (e ∷ insert_entry R es k v)))
  unfolding IsStrictlySortedBy
  sorted_by Less k v e es same first rest more = ((sym same, all_less o k e.0 (keys_of es) (sym same) first), (first, rest))
  sorted_by Equal k v e es same first rest more = (first, rest)
  sorted_by Greater k v e es same first rest more =
      let less : R e.0 k ≡ Less = o.antisymm e.0 k ∙ ap ordering_reverse (sym same) in
      (insert_all (λ y. R e.0 y ≡ Less) k v es less first, more)

  -- an insert keeps the keys in order
  pub sorted-insert : (k : K) (v : X) (es : List (K × X)) → IsStrictlySortedBy R (keys_of es) → IsStrictlySortedBy R (keys_of (insert_entry R es k v))
  unfolding IsStrictlySortedBy
  sorted-insert k v [] sorted = (tt, tt)
  sorted-insert k v (e ∷ es) sorted = sorted_by (R k e.0) k v e es refl sorted.0 sorted.1 (sorted-insert k v es sorted.1)

  remove_all_by : (b : Bool) (P : K → Type 0) (e : K × X) (es rest : List (K × X)) → P e.0 → AllByRecursion P (keys_of es) → AllByRecursion P (keys_of rest) → AllByRecursion P (keys_of (cond b es (e ∷ rest)))
  remove_all_by true P e es rest first all more = all
  remove_all_by false P e es rest first all more = (first, more)

  remove_all : (test : K → Bool) (P : K → Type 0) (es : List (K × X)) → AllByRecursion P (keys_of es) → AllByRecursion P (keys_of (remove_entry test es))
  remove_all test P [] all = all
  remove_all test P (e ∷ es) all = remove_all_by (test e.0) P e es (remove_entry test es) all.0 all.1 (remove_all test P es all.1)

  sorted_cut : (b : Bool) (test : K → Bool) (e : K × X) (es : List (K × X)) → AllByRecursion (λ y. R e.0 y ≡ Less) (keys_of es) → IsStrictlySortedBy R (keys_of es)
      → IsStrictlySortedBy R (keys_of (remove_entry test es)) → IsStrictlySortedBy R (keys_of (cond b es (e ∷ remove_entry test es)))
  unfolding IsStrictlySortedBy
  sorted_cut true test e es first rest more = rest
  sorted_cut false test e es first rest more = (remove_all test (λ y. R e.0 y ≡ Less) es first, more)

  -- a removal keeps the keys in order
  pub sorted-remove : (test : K → Bool) (es : List (K × X)) → IsStrictlySortedBy R (keys_of es) → IsStrictlySortedBy R (keys_of (remove_entry test es))
  unfolding IsStrictlySortedBy
  sorted-remove test [] sorted = tt
  sorted-remove test (e ∷ es) sorted = sorted_cut (test e.0) test e es sorted.0 sorted.1 (sorted-remove test es sorted.1)

-- at numbers
pub same_number : (a b : ℕ) → is_eq (nat_cmp a b) ≡ true → a ≡ b
same_number a b is = number_by (nat_cmp a b) a b refl is
  where
    number_by : (r : Ordering) (a b : ℕ) → r ≡ nat_cmp a b → is_eq r ≡ true → a ≡ b
    number_by Less a b same is = absurd (let f : ⊥ = cc in f)
    number_by Equal a b same is = ranked a b Equal same
    number_by Greater a b same is = absurd (let f : ⊥ = cc in f)

pub self_number : (a : ℕ) → is_eq (nat_cmp a a) ≡ true
self_number a = ap is_eq (tied_itself nat_cmp_total a)

apart_by : (b : Bool) (a c : ℕ) → is_eq (nat_cmp a c) ≡ b → (a ≡ c → ⊥) → b ≡ false
apart_by true a c same apart = absurd (apart (same_number a c same))
apart_by false a c same apart = refl

pub other_number : (a c : ℕ) → (a ≡ c → ⊥) → is_eq (nat_cmp a c) ≡ false
other_number a c apart = apart_by (is_eq (nat_cmp a c)) a c refl apart

-- at names
pub same_name : (a b : List ℕ) → is_eq (slice_cmp nat_cmp a b) ≡ true → a ≡ b
same_name a b is = (bytes_eq-Decides a b).0 (sym (is_eq-slice_cmp a b) ∙ is)

pub self_name : (a : List ℕ) → is_eq (slice_cmp nat_cmp a a) ≡ true
self_name a = ap is_eq (tied_itself nat_list_cmp_total a)
