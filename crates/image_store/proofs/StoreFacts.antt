-- Changes that are done one after another.
use Rattle.std.proofs.Common.{◌≡◌, ℕ, ◌+◌, ◌-◌, ◌<◌, ◌≤◌, List, [], ◌∷◌, ◌++◌, length, get_or, take, drop, reverse, Option, Result, Ok, Err, OnOk, OnErr, refl, sym, ap, ◌∙◌, subst, inl, inr, arith}
use Rattle.std.specs.List.{flat_map}
use Rattle.std.proofs.lemmas.List.{append-nil, drop_more, take_more, take-append-drop, reverse-append}
use Rattle.std.proofs.lemmas.List.Concat.{flat_map-append}
use Rattle.file_tree.specs.Nodes.{Tree}
use Rattle.image_store.specs.declared.folder.Entry.{Entry}
use Rattle.image_store.specs.declared.folder.Listed.{Listed}
use Rattle.image_store.specs.AllPaths.{AreAllPaths}
use Rattle.image_store.specs.Storing.{AreBegun, AreChanges, AreDone, Change, IsPartlyStored, IsStored, making, removal}

pub done_behind : (front behind : List Change) (old mid new : Option (List Entry)) → AreDone front old mid → AreDone behind mid new → AreDone (front ++ behind) old new
done_behind [] behind old mid new first second = subst (λ (m : Option (List Entry)). AreDone behind m new) first second
done_behind (change ∷ front) behind old mid new first second = (first.0, first.1, done_behind front behind first.0 mid new first.2 second)

pub begun_more : (front behind : List Change) (old new : Option (List Entry)) → AreBegun front old new → AreBegun (front ++ behind) old new
begun_more [] behind old new begun = absurd begun
begun_more (change ∷ front) behind old new (inl left) = inl left
begun_more (change ∷ front) behind old new (inr done) = inr (done.0, done.1, begun_more front behind done.0 new done.2)

pub begun_behind : (front behind : List Change) (old mid new : Option (List Entry)) → AreDone front old mid → AreBegun behind mid new → AreBegun (front ++ behind) old new
begun_behind [] behind old mid new first second = subst (λ (m : Option (List Entry)). AreBegun behind m new) first second
begun_behind (change ∷ front) behind old mid new first second = inr (first.0, first.1, begun_behind front behind first.0 mid new first.2 second)

one_more : {X : Type 0} (changes : X → List Change) (front : List X) (x : X) → flat_map changes (front ++ x ∷ []) ≡ flat_map changes front ++ changes x
one_more changes front x = flat_map-append changes front (x ∷ []) ∙ ap (λ (more : List Change). flat_map changes front ++ more) (append-nil (changes x))

-- ---- forward over a list

pub done_next : {X : Type 0} (changes : X → List Change) (xs : List X) (i : ℕ) (x : X) (old mid new : Option (List Entry)) → i < length xs → x ≡ get_or xs i x
    → AreDone (flat_map changes (take i xs)) old mid → AreDone (changes x) mid new → AreDone (flat_map changes (take (i + 1) xs)) old new
done_next changes xs i x old mid new within is first second =
    let whole : take (i + 1) xs ≡ take i xs ++ x ∷ [] = take_more xs i x within ∙ ap (λ y. take i xs ++ y ∷ []) (sym is) in
    subst (λ c. AreDone c old new) (sym (ap (flat_map changes) whole ∙ one_more changes (take i xs) x)) (done_behind (flat_map changes (take i xs)) (changes x) old mid new first second)

pub begun_next : {X : Type 0} (changes : X → List Change) (xs : List X) (i : ℕ) (x : X) (old mid new : Option (List Entry)) → i < length xs → x ≡ get_or xs i x
    → AreDone (flat_map changes (take i xs)) old mid → AreBegun (changes x) mid new → AreBegun (flat_map changes xs) old new
begun_next changes xs i x old mid new within is first second =
    let behind : drop i xs ≡ x ∷ drop (i + 1) xs = drop_more xs i x within ∙ ap (λ y. y ∷ drop (i + 1) xs) (sym is) in
    let whole : xs ≡ take i xs ++ x ∷ drop (i + 1) xs = sym (take-append-drop i xs) ∙ ap (λ more. take i xs ++ more) behind in
    subst (λ c. AreBegun c old new) (sym (ap (flat_map changes) whole ∙ flat_map-append changes (take i xs) (x ∷ drop (i + 1) xs)))
    (begun_behind (flat_map changes (take i xs)) (changes x ++ flat_map changes (drop (i + 1) xs)) old mid new first (begun_more (changes x) (flat_map changes (drop (i + 1) xs)) mid new second))

-- ---- backwards over a list

behind_of : {X : Type 0} (xs : List X) (place : ℕ) (x : X) → 0 < place → place ≤ length xs → x ≡ get_or xs (place - 1) x → drop (place - 1) xs ≡ x ∷ drop place xs
behind_of xs place x some within is =
    let one : place - 1 + 1 ≡ place = omega arith in
    let low : place - 1 < length xs = omega arith in
    drop_more xs (place - 1) x low ∙ (ap (λ y. y ∷ drop (place - 1 + 1) xs) (sym is) ∙ ap (λ n. x ∷ drop n xs) one)

back_more : {X : Type 0} (changes : X → List Change) (x : X) (xs : List X) → flat_map changes (reverse (x ∷ xs)) ≡ flat_map changes (reverse xs) ++ changes x
back_more changes x xs = ap (flat_map changes) (reverse-append (x ∷ []) xs) ∙ one_more changes (reverse xs) x

pub done_back : {X : Type 0} (changes : X → List Change) (xs : List X) (place : ℕ) (x : X) (old mid new : Option (List Entry)) → 0 < place → place ≤ length xs → x ≡ get_or xs (place - 1) x
    → AreDone (flat_map changes (reverse (drop place xs))) old mid → AreDone (changes x) mid new → AreDone (flat_map changes (reverse (drop (place - 1) xs))) old new
done_back changes xs place x old mid new some within is first second =
    subst (λ c. AreDone c old new) (sym (ap (λ more. flat_map changes (reverse more)) (behind_of xs place x some within is) ∙ back_more changes x (drop place xs)))
    (done_behind (flat_map changes (reverse (drop place xs))) (changes x) old mid new first second)

back_whole : {X : Type 0} (changes : X → List Change) (front behind : List X) → flat_map changes (reverse (front ++ behind)) ≡ flat_map changes (reverse behind) ++ flat_map changes (reverse front)
back_whole changes front behind = ap (flat_map changes) (reverse-append front behind) ∙ flat_map-append changes (reverse behind) (reverse front)

pub begun_back : {X : Type 0} (changes : X → List Change) (xs : List X) (place : ℕ) (x : X) (old mid new : Option (List Entry)) → 0 < place → place ≤ length xs → x ≡ get_or xs (place - 1) x
    → AreDone (flat_map changes (reverse (drop place xs))) old mid → AreBegun (changes x) mid new → AreBegun (flat_map changes (reverse xs)) old new
begun_back changes xs place x old mid new some within is first second =
    let begun = subst (λ c. AreBegun c old new) (sym (ap (λ more. flat_map changes (reverse more)) (behind_of xs place x some within is) ∙ back_more changes x (drop place xs)))
    (begun_behind (flat_map changes (reverse (drop place xs))) (changes x) old mid new first second) in
    subst (λ c. AreBegun c old new) (sym (ap (λ all. flat_map changes (reverse all)) (sym (take-append-drop (place - 1) xs)) ∙ back_whole changes (take (place - 1) xs) (drop (place - 1) xs)))
    (begun_more (flat_map changes (reverse (drop (place - 1) xs))) (flat_map changes (reverse (take (place - 1) xs))) old new begun)

-- ---- both parts

abbrev parts : List Listed → Tree → Tree → List (List ℕ) → List Change
parts listing before after paths = flat_map (removal after) (reverse listing) ++ flat_map (making before after) paths

are_changes : (listing : List Listed) (before after : Tree) (paths : List (List ℕ)) → AreAllPaths after paths → AreChanges listing before after (parts listing before after paths)
are_changes listing before after paths all = record { paths = paths; all = all; are = refl }

pub partly_first : (listing some : List Listed) (before after : Tree) (paths : List (List ℕ)) (old new : Option (List Entry)) → AreAllPaths after paths → some ≡ listing
    → AreBegun (flat_map (removal after) (reverse some)) old new → IsPartlyStored listing before after old new
partly_first listing some before after paths old new all same begun =
    let first = subst (λ (l : List Listed). AreBegun (flat_map (removal after) (reverse l)) old new) same begun in
    inr (parts listing before after paths, are_changes listing before after paths all, begun_more (flat_map (removal after) (reverse listing)) (flat_map (making before after) paths) old new first)

pub partly_second : (listing some : List Listed) (before after : Tree) (paths more : List (List ℕ)) (old mid new : Option (List Entry)) → AreAllPaths after paths → some ≡ listing → more ≡ paths
    → AreDone (flat_map (removal after) (reverse some)) old mid → AreBegun (flat_map (making before after) more) mid new → IsPartlyStored listing before after old new
partly_second listing some before after paths more old mid new all same equal done begun =
    let first = subst (λ (l : List Listed). AreDone (flat_map (removal after) (reverse l)) old mid) same done in
    let second = subst (λ (p : List (List ℕ)). AreBegun (flat_map (making before after) p) mid new) equal begun in
    inr (parts listing before after paths, are_changes listing before after paths all, begun_behind (flat_map (removal after) (reverse listing)) (flat_map (making before after) paths) old mid new first second)

pub stored : (listing some : List Listed) (before after : Tree) (paths more : List (List ℕ)) (old mid new : Option (List Entry)) → AreAllPaths after paths → some ≡ listing → more ≡ paths
    → AreDone (flat_map (removal after) (reverse some)) old mid → AreDone (flat_map (making before after) more) mid new → IsStored listing before after old new
stored listing some before after paths more old mid new all same equal done made =
    let first = subst (λ (l : List Listed). AreDone (flat_map (removal after) (reverse l)) old mid) same done in
    let second = subst (λ (p : List (List ℕ)). AreDone (flat_map (making before after) p) mid new) equal made in
    (parts listing before after paths, are_changes listing before after paths all, done_behind (flat_map (removal after) (reverse listing)) (flat_map (making before after) paths) old mid new first second)

pub on_ok : {T E : Type 0} (result : Result T E) (P Q : Type 0) → (P → Q) → OnOk result P → OnOk result Q
on_ok (Ok value) P Q go holds = go holds
on_ok (Err error) P Q go holds = tt

pub on_err : {T E : Type 0} (result : Result T E) (P Q : Type 0) → (P → Q) → OnErr result P → OnErr result Q
on_err (Ok value) P Q go holds = tt
on_err (Err error) P Q go holds = go holds
