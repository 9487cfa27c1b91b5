-- The names of a directory by the entries of its map.
use Rattle.std.proofs.Common.{◌≡◌, ℕ, Bool, true, false, cond, List, [], ◌∷◌, ◌++◌, Some, map, vec_len, refl, ap}
use Rattle.std.proofs.Common.{Ordering, Less, Equal, Greater}
use Rattle.std.specs.List.{AllZip, All}
use Rattle.std.proofs.lemmas.List.Elements.{All-head, All-tail}
use Rattle.std.specs.Ordering.{nat_cmp, match_ordering}
use Rattle.std.specs.Cmp.Lexicographic.{slice_cmp}
use Rattle.std.specs.Map.{lookup, remove_entry, keys_of}
use Rattle.std.specs.BTreeMap.{insert_entry}
use Rattle.std.specs.declared.alloc.Global.{Global}
use Rattle.std.specs.declared.vec.Vec.{Vec}
use Rattle.file_tree.specs.Entries.{named}

pub lookup_named : (test : List ℕ → Bool) (es : List (Vec ℕ Global × ℕ)) → lookup (λ k. test k.items) es ≡ lookup test (named es)
lookup_named test [] = refl
lookup_named test (e ∷ es) = ap (cond (test e.0.items) (Some e.1)) (lookup_named test es)

removed_head : (b : Bool) (e : Vec ℕ Global × ℕ) (es rest : List (Vec ℕ Global × ℕ)) (to : List (List ℕ × ℕ)) → named rest ≡ to
    → named (cond b es (e ∷ rest)) ≡ cond b (named es) ((e.0.items, e.1) ∷ to)
removed_head true e es rest to same = refl
removed_head false e es rest to same = ap (λ (t : List (List ℕ × ℕ)). (e.0.items, e.1) ∷ t) same

pub remove_named : (test : List ℕ → Bool) (es : List (Vec ℕ Global × ℕ)) → named (remove_entry (λ k. test k.items) es) ≡ remove_entry test (named es)
remove_named test [] = refl
remove_named test (e ∷ es) = removed_head (test e.0.items) e es (remove_entry (λ k. test k.items) es) (remove_entry test (named es)) (remove_named test es)

inserted_head : (o : Ordering) (n e : Vec ℕ Global × ℕ) (es rest : List (Vec ℕ Global × ℕ)) (to : List (List ℕ × ℕ)) → named rest ≡ to
    → named (match_ordering o (n ∷ e ∷ es) ((e.0, n.1) ∷ es) (e ∷ rest))
    ≡ match_ordering o ((n.0.items, n.1) ∷ (e.0.items, e.1) ∷ named es) ((e.0.items, n.1) ∷ named es) ((e.0.items, e.1) ∷ to)
inserted_head Less n e es rest to same = refl
inserted_head Equal n e es rest to same = refl
inserted_head Greater n e es rest to same = ap (λ (t : List (List ℕ × ℕ)). (e.0.items, e.1) ∷ t) same

pub insert_named : (name : Vec ℕ Global) (inode : ℕ) (es : List (Vec ℕ Global × ℕ))
    → named (insert_entry (λ x y. slice_cmp nat_cmp x.items y.items) es name inode) ≡ insert_entry (slice_cmp nat_cmp) (named es) name.items inode
insert_named name inode [] = refl
insert_named name inode (e ∷ es) =
    inserted_head (slice_cmp nat_cmp name.items e.0.items) (name, inode) e es (insert_entry (λ x y. slice_cmp nat_cmp x.items y.items) es name inode) (insert_entry (slice_cmp nat_cmp) (named es) name.items inode) (insert_named name inode es)

-- each name and inode of a clone is that of the original
pub named_clone : (C : Vec ℕ Global → Vec ℕ Global → Type 0) (D : ℕ → ℕ → Type 0) → ((x y : Vec ℕ Global) → C x y → y.items ≡ x.items) → ((v w : ℕ) → D v w → w ≡ v)
    → (es fs : List (Vec ℕ Global × ℕ)) → AllZip (λ p q. C p.0 q.0 × D p.1 q.1) es fs → named fs ≡ named es
named_clone C D g h [] [] a = refl
named_clone C D g h [] (y ∷ ys) a = absurd a
named_clone C D g h (x ∷ xs) [] a = absurd a
named_clone C D g h (x ∷ xs) (y ∷ ys) a = λ i. (g x.0 y.0 a.0.0 i, h x.1 y.1 a.0.1 i) ∷ named_clone C D g h xs ys a.1 i

pub keys_named : (es : List (Vec ℕ Global × ℕ)) → map (λ k. k.items) (keys_of es) ≡ keys_of (named es)
keys_named [] = refl
keys_named (e ∷ es) = ap (λ (t : List (List ℕ)). e.0.items ∷ t) (keys_named es)

-- what holds of all holds of one in the middle
pub all_mid : (P : List ℕ → Type 0) (xs : List (List ℕ)) (y : List ℕ) (ys : List (List ℕ)) → All P (xs ++ y ∷ ys) → P y
all_mid P [] y ys all = All-head P y ys all
all_mid P (x ∷ xs) y ys all = all_mid P xs y ys (All-tail P x (xs ++ y ∷ ys) all)

pub zip_same : (xs ys : List ℕ) → AllZip (λ x y. y ≡ x) xs ys → ys ≡ xs
zip_same [] [] all = refl
zip_same [] (y ∷ ys) all = absurd all
zip_same (x ∷ xs) [] all = absurd all
zip_same (x ∷ xs) (y ∷ ys) all = λ i. all.0 i ∷ zip_same xs ys all.1 i

pub named_copy : (es fs : List (Vec ℕ Global × ℕ)) → AllZip (λ p q. (AllZip (λ x y. y ≡ x) p.0.items q.0.items × (vec_len q.0 ≡ vec_len p.0)) × (q.1 ≡ p.1)) es fs → named fs ≡ named es
named_copy es fs all =
    named_clone (λ v w. AllZip (λ x y. y ≡ x) v.items w.items × (vec_len w ≡ vec_len v)) (λ x y. y ≡ x) (λ v w same. zip_same v.items w.items same.0) (λ v w same. same) es fs all
