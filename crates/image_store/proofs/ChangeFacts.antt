-- Entries to which one is added, or from which one is taken, where the paths rise.
use Rattle.std.proofs.Common.{◌≡◌, ℕ, zero, suc, ◌<◌, ◌≤◌, ◌⊎◌, Bool, true, false, cond, List, [], ◌∷◌, ◌++◌, map, length, get_or, take, drop, set, Option, Some, None, Ok, Err, refl, sym, ap, ◌∙◌, subst, inl, inr, arith}
use Rattle.std.specs.List.{All, AllByRecursion, Any, insert, remove}
use Rattle.std.specs.List.Sorted.{IsStrictlySortedBy, IsBinarySearchResult, IsPermutation}
use Rattle.std.specs.Ordering.{nat_cmp, is_eq}
use Rattle.std.specs.Prelude.{nat_eq}
use Rattle.std.specs.Cmp.Lexicographic.{slice_cmp, pointwise}
use Rattle.std.specs.declared.cmp.Ordering.{Ordering}
use Rattle.std.specs.declared.cmp.Ordering.TheVariants.{Less, Equal, Greater}
use Rattle.std.proofs.lemmas.Cmp.{nat_list_cmp_total, tied_itself}
use Rattle.std.proofs.lemmas.List.{get_or-map, length-map, take-append-drop}
use Rattle.std.proofs.lemmas.List.Elements.{All-cons, All-tail}
use Rattle.std.proofs.lemmas.List.Sorted.{All-permutation, IsPermutation-map, IsPermutation-middle, IsPermutation-sym, searchable_from_sorted}
use Rattle.std.proofs.lemmas.Map.Lookups.{exact_bytes}
use Rattle.std.proofs.lemmas.Bool.{eq-eqb}
use Rattle.std.proofs.Math.Seq.{take-append_seam}
use Rattle.image_store.specs.declared.folder.Entry.{Entry}
use Rattle.image_store.specs.declared.folder.Listed.{Listed}
use Rattle.image_store.specs.declared.folder.Kind.TheVariants.{File, Dir}
use Rattle.image_store.specs.Files.{listed}
use Rattle.image_store.specs.Listing.{HasDir, IsHoused, IsHousedAt, IsListing, is_path}
use Rattle.image_store.specs.Changes.{IsChanged, entry_at}
use Rattle.image_store.proofs.OrderFacts.{found_at, sorted}
use Rattle.image_store.proofs.ParentFacts.{all_housed, all_housed_at}
use Rattle.image_store.proofs.FileFacts.{same_paths}

abbrev cmp : List ℕ → List ℕ → Ordering
cmp = slice_cmp nat_cmp

abbrev path_of : Entry → List ℕ
path_of entry = entry.path

-- ---- looking for a path

other_by : (o : Ordering) → (o ≡ Equal → ⊥) → is_eq o ≡ false
other_by Less never = refl
other_by Equal never = absurd (never refl)
other_by Greater never = refl

other_path : (path other : List ℕ) → (path ≡ other → ⊥) → is_eq (cmp path other) ≡ false
other_path path other never = other_by (cmp path other) (λ tied. never (exact_bytes path other tied))

less_apart : (path other : List ℕ) → cmp path other ≡ Less → path ≡ other → ⊥
less_apart path other less same =
    let tied : cmp path other ≡ Equal = rw same (tied_itself nat_list_cmp_total other) in
    let f : ⊥ = cc in f

same_path : (path other : List ℕ) → path ≡ other → is_eq (cmp path other) ≡ true
same_path path other same = rw same (ap is_eq (tied_itself nat_list_cmp_total other))

passed : (test : Bool) (entry : Entry) (rest : Option Entry) → test ≡ false → cond test (Some entry) rest ≡ rest
passed true entry rest is = absurd (let f : ⊥ = cc in f)
passed false entry rest is = refl

taken : (test : Bool) (entry : Entry) (rest : Option Entry) → test ≡ true → cond test (Some entry) rest ≡ Some entry
taken true entry rest is = refl
taken false entry rest is = absurd (let f : ⊥ = cc in f)

find_others : (path : List ℕ) (front behind : List Entry) (entry : Entry) → (entry.path ≡ path → ⊥) → entry_at path (front ++ entry ∷ behind) ≡ entry_at path (front ++ behind)
find_others path [] behind entry never = passed (is_eq (cmp entry.path path)) entry (entry_at path behind) (other_path entry.path path never)
find_others path (first ∷ front) behind entry never =
    ap (λ (r : Option Entry). cond (is_eq (cmp first.path path)) (Some first) r) (find_others path front behind entry never)

-- ---- what stands around a path, where the paths rise

pub record IsAround (path : List ℕ) (front behind : List Entry) : Type 0 where
  pub below : AllByRecursion (λ entry. cmp entry.path path ≡ Less) front
  pub above : AllByRecursion (λ other. cmp path other ≡ Less) (map path_of behind)

find_behind : (path : List ℕ) (behind : List Entry) → AllByRecursion (λ other. cmp path other ≡ Less) (map path_of behind) → entry_at path behind ≡ None
find_behind path [] above = refl
find_behind path (first ∷ behind) above =
    passed (is_eq (cmp first.path path)) first (entry_at path behind) (other_path first.path path (λ same. less_apart path first.path above.0 (sym same))) ∙ find_behind path behind above.1

find_none : (path : List ℕ) (front behind : List Entry) → AllByRecursion (λ entry. cmp entry.path path ≡ Less) front → AllByRecursion (λ other. cmp path other ≡ Less) (map path_of behind)
    → entry_at path (front ++ behind) ≡ None
find_none path [] behind below above = find_behind path behind above
find_none path (first ∷ front) behind below above =
    passed (is_eq (cmp first.path path)) first (entry_at path (front ++ behind)) (other_path first.path path (less_apart first.path path below.0)) ∙ find_none path front behind below.1 above

find_here : (path : List ℕ) (front behind : List Entry) (entry : Entry) → AllByRecursion (λ other. cmp other.path path ≡ Less) front → entry.path ≡ path → entry_at path (front ++ entry ∷ behind) ≡ Some entry
find_here path [] behind entry below same = taken (is_eq (cmp entry.path path)) entry (entry_at path behind) (same_path entry.path path same)
find_here path (first ∷ front) behind entry below same =
    passed (is_eq (cmp first.path path)) first (entry_at path (front ++ entry ∷ behind)) (other_path first.path path (less_apart first.path path below.0)) ∙ find_here path front behind entry below.1 same

paths_in : (P : List ℕ → Type 0) (front behind : List Entry) (entry : Entry) → P entry.path → AllByRecursion P (map path_of (front ++ behind)) → AllByRecursion P (map path_of (front ++ entry ∷ behind))
paths_in P [] behind entry one all = (one, all)
paths_in P (first ∷ front) behind entry one all = (all.0, paths_in P front behind entry one all.1)

paths_out : (P : List ℕ → Type 0) (front behind : List Entry) (entry : Entry) → AllByRecursion P (map path_of (front ++ entry ∷ behind)) → AllByRecursion P (map path_of (front ++ behind))
paths_out P [] behind entry all = all.1
paths_out P (first ∷ front) behind entry all = (all.0, paths_out P front behind entry all.1)

paths_here : (P : List ℕ → Type 0) (front behind : List Entry) (entry : Entry) → AllByRecursion P (map path_of (front ++ entry ∷ behind)) → P entry.path
paths_here P [] behind entry all = all.0
paths_here P (first ∷ front) behind entry all = paths_here P front behind entry all.1

rises_in : (front behind : List Entry) (entry : Entry) → AllByRecursion (λ other. cmp other.path entry.path ≡ Less) front → AllByRecursion (λ other. cmp entry.path other ≡ Less) (map path_of behind)
    → IsStrictlySortedBy cmp (map path_of (front ++ behind)) → IsStrictlySortedBy cmp (map path_of (front ++ entry ∷ behind))
unfolding IsStrictlySortedBy
rises_in [] behind entry below above rises = (above, rises)
rises_in (first ∷ front) behind entry below above rises =
    (paths_in (λ other. cmp first.path other ≡ Less) front behind entry below.0 rises.0, rises_in front behind entry below.1 above rises.1)

rises_out : (front behind : List Entry) (entry : Entry) → IsStrictlySortedBy cmp (map path_of (front ++ entry ∷ behind)) → IsStrictlySortedBy cmp (map path_of (front ++ behind))
unfolding IsStrictlySortedBy
rises_out [] behind entry rises = rises.1
rises_out (first ∷ front) behind entry rises = (paths_out (λ other. cmp first.path other ≡ Less) front behind entry rises.0, rises_out front behind entry rises.1)

below_of : (front behind : List Entry) (entry : Entry) → IsStrictlySortedBy cmp (map path_of (front ++ entry ∷ behind)) → AllByRecursion (λ other. cmp other.path entry.path ≡ Less) front
unfolding IsStrictlySortedBy
below_of [] behind entry rises = tt
below_of (first ∷ front) behind entry rises = (paths_here (λ other. cmp first.path other ≡ Less) front behind entry rises.0, below_of front behind entry rises.1)

above_of : (front behind : List Entry) (entry : Entry) → IsStrictlySortedBy cmp (map path_of (front ++ entry ∷ behind)) → AllByRecursion (λ other. cmp entry.path other ≡ Less) (map path_of behind)
unfolding IsStrictlySortedBy
above_of [] behind entry rises = rises.0
above_of (first ∷ front) behind entry rises = above_of front behind entry rises.1

around_of : (front behind : List Entry) (entry : Entry) → IsStrictlySortedBy cmp (map path_of (front ++ entry ∷ behind)) → IsAround entry.path front behind
around_of front behind entry rises = record { below = below_of front behind entry rises; above = above_of front behind entry rises }

-- ---- directories

any_split : {X : Type 0} (P : X → Type 0) (x : X) (xs : List X) → Any P (x ∷ xs) → P x ⊎ Any P xs
any_split P x xs any = split any.0 any.1 any.2 any.3 any.4
  where
    split : (k : ℕ) (y : _) → k < length (x ∷ xs) → get_or (x ∷ xs) k y ≡ y → P y → P x ⊎ Any P xs
    split zero y within same one = inl (subst P (sym same) one)
    split (suc k) y within same one = inr (k, y, omega arith, same, one)

any_first : {X : Type 0} (P : X → Type 0) (x : X) (xs : List X) → P x → Any P (x ∷ xs)
any_first P x xs one = (0, x, omega arith, refl, one)

any_rest : {X : Type 0} (P : X → Type 0) (x : X) (xs : List X) → Any P xs → Any P (x ∷ xs)
any_rest P x xs any = (suc any.0, any.1, (let w : any.0 < length xs = any.2 in omega arith), any.3, any.4)

dir_in : (path : List ℕ) (front behind : List Entry) (entry : Entry) → HasDir (map listed (front ++ behind)) path → HasDir (map listed (front ++ entry ∷ behind)) path
dir_in path [] behind entry dir = any_rest (λ e. (e.path ≡ path) × (e.kind ≡ Dir)) (listed entry) (map listed behind) dir
dir_in path (first ∷ front) behind entry dir =
    elim (any_split (λ e. (e.path ≡ path) × (e.kind ≡ Dir)) (listed first) (map listed (front ++ behind)) dir) [
      | inl here ↦ any_first (λ e. (e.path ≡ path) × (e.kind ≡ Dir)) (listed first) (map listed (front ++ entry ∷ behind)) here
      | inr there ↦ any_rest (λ e. (e.path ≡ path) × (e.kind ≡ Dir)) (listed first) (map listed (front ++ entry ∷ behind)) (dir_in path front behind entry there)
    ]

dir_out : (path : List ℕ) (front behind : List Entry) (entry : Entry) → (entry.path ≡ path → entry.kind ≡ Dir → ⊥) → HasDir (map listed (front ++ entry ∷ behind)) path → HasDir (map listed (front ++ behind)) path
dir_out path [] behind entry never dir =
    elim (any_split (λ e. (e.path ≡ path) × (e.kind ≡ Dir)) (listed entry) (map listed behind) dir) [
      | inl here ↦ absurd (never here.0 here.1)
      | inr there ↦ there
    ]
dir_out path (first ∷ front) behind entry never dir =
    elim (any_split (λ e. (e.path ≡ path) × (e.kind ≡ Dir)) (listed first) (map listed (front ++ entry ∷ behind)) dir) [
      | inl here ↦ any_first (λ e. (e.path ≡ path) × (e.kind ≡ Dir)) (listed first) (map listed (front ++ behind)) here
      | inr there ↦ any_rest (λ e. (e.path ≡ path) × (e.kind ≡ Dir)) (listed first) (map listed (front ++ behind)) (dir_out path front behind entry never there)
    ]

moved : (front behind : List Entry) (entry : Entry) → IsPermutation (map listed (entry ∷ (front ++ behind))) (map listed (front ++ entry ∷ behind))
moved front behind entry =
    IsPermutation-map listed (entry ∷ (front ++ behind)) (front ++ entry ∷ behind) (IsPermutation-sym (front ++ entry ∷ behind) (entry ∷ (front ++ behind)) (IsPermutation-middle front entry behind))

all_in : (P : Listed → Type 0) (front behind : List Entry) (entry : Entry) → P (listed entry) → All P (map listed (front ++ behind)) → All P (map listed (front ++ entry ∷ behind))
all_in P front behind entry one all =
    All-permutation P (map listed (entry ∷ (front ++ behind))) (map listed (front ++ entry ∷ behind)) (moved front behind entry) (All-cons P (listed entry) (map listed (front ++ behind)) one all)

all_out : (P : Listed → Type 0) (front behind : List Entry) (entry : Entry) → All P (map listed (front ++ entry ∷ behind)) → All P (map listed (front ++ behind))
all_out P front behind entry all =
    All-tail P (listed entry) (map listed (front ++ behind))
    (All-permutation P (map listed (front ++ entry ∷ behind)) (map listed (entry ∷ (front ++ behind)))
    (IsPermutation-sym (map listed (entry ∷ (front ++ behind))) (map listed (front ++ entry ∷ behind)) (moved front behind entry)) all)

-- ---- one entry more, and one less

rises_listed : (entries : List Entry) → IsStrictlySortedBy cmp (map path_of entries) → IsStrictlySortedBy cmp (map (λ entry. entry.path) (map listed entries))
rises_listed entries rises = subst (IsStrictlySortedBy cmp) (sym (same_paths entries)) rises

rises_of : (entries : List Entry) → IsListing (map listed entries) → IsStrictlySortedBy cmp (map path_of entries)
rises_of entries sound = subst (IsStrictlySortedBy cmp) (same_paths entries) sound.rising

sound_in : (front behind : List Entry) (entry : Entry) → IsListing (map listed (front ++ behind)) → IsAround entry.path front behind → is_path entry.path ≡ true → IsHousedAt (map listed (front ++ behind)) entry.path
    → IsListing (map listed (front ++ entry ∷ behind))
sound_in front behind entry sound around plain housed = record {
  plain = all_in (λ e. is_path e.path ≡ true) front behind entry plain sound.plain;
  rising = rises_listed (front ++ entry ∷ behind) (rises_in front behind entry around.below around.above (rises_of (front ++ behind) sound));
  housed = all_housed (map listed (front ++ entry ∷ behind))
      (all_in (λ e. IsHousedAt (map listed (front ++ entry ∷ behind)) e.path) front behind entry
      (λ parent name same none. dir_in parent front behind entry (housed parent name same none))
      (λ k d within parent name same none. dir_in parent front behind entry (all_housed_at (map listed (front ++ behind)) sound.housed k d within parent name same none)));
}

-- no entry of these stands below a path
abbrev pub NoneBelow : List ℕ → List Entry → Type 0
NoneBelow path entries = All (λ entry. (rest : List ℕ) → entry.path ≡ path ++ 47 ∷ rest → ⊥) entries

below_listed : (path : List ℕ) (entries : List Entry) → NoneBelow path entries → All (λ entry. (rest : List ℕ) → entry.path ≡ path ++ 47 ∷ rest → ⊥) (map listed entries)
below_listed path [] none k d within = absurd (omega arith)
below_listed path (entry ∷ entries) none zero d within = none 0 entry (omega arith)
below_listed path (entry ∷ entries) none (suc k) d within =
    below_listed path entries (All-tail (λ e. (rest : List ℕ) → e.path ≡ path ++ 47 ∷ rest → ⊥) entry entries none) k d (omega arith)

sound_out : (front behind : List Entry) (entry : Entry) → IsListing (map listed (front ++ entry ∷ behind)) → (entry.kind ≡ Dir → NoneBelow entry.path (front ++ entry ∷ behind)) → IsListing (map listed (front ++ behind))
sound_out front behind entry sound empty = record {
  plain = all_out (λ e. is_path e.path ≡ true) front behind entry sound.plain;
  rising = rises_listed (front ++ behind) (rises_out front behind entry (rises_of (front ++ entry ∷ behind) sound));
  housed = all_out (λ e. IsHoused (map listed (front ++ behind)) e.path) front behind entry
      (λ k d within parent rest same. dir_out parent front behind entry
      (λ here dir. below_listed entry.path (front ++ entry ∷ behind) (empty dir) k d within rest (same ∙ ap (λ (p : List ℕ). p ++ 47 ∷ rest) (sym here)))
      (sound.housed k d within parent rest same));
}

in_changed : (front behind : List Entry) (entry : Entry) → IsListing (map listed (front ++ behind)) → IsAround entry.path front behind → is_path entry.path ≡ true → IsHousedAt (map listed (front ++ behind)) entry.path
    → IsChanged entry.path (Some entry) (front ++ behind) (front ++ entry ∷ behind)
in_changed front behind entry sound around plain housed = record {
  sound = sound_in front behind entry sound around plain housed;
  here = find_here entry.path front behind entry around.below refl;
  others = λ other apart. find_others other front behind entry (λ same. apart (sym same));
}

out_changed : (front behind : List Entry) (entry : Entry) → IsListing (map listed (front ++ entry ∷ behind)) → (entry.kind ≡ Dir → NoneBelow entry.path (front ++ entry ∷ behind))
    → IsChanged entry.path None (front ++ entry ∷ behind) (front ++ behind)
out_changed front behind entry sound empty =
    let around = around_of front behind entry (rises_of (front ++ entry ∷ behind) sound) in
    record {
      sound = sound_out front behind entry sound empty;
      here = find_none entry.path front behind around.below around.above;
      others = λ other apart. sym (find_others other front behind entry (λ same. apart (sym same)));
    }

-- ---- a file in place of one

plain_at : (front behind : List Entry) (entry : Entry) → IsListing (map listed (front ++ entry ∷ behind)) → is_path entry.path ≡ true
plain_at front behind entry sound =
    let all = All-permutation (λ (e : Listed). is_path e.path ≡ true) (map listed (front ++ entry ∷ behind)) (map listed (entry ∷ (front ++ behind)))
    (IsPermutation-sym (map listed (entry ∷ (front ++ behind))) (map listed (front ++ entry ∷ behind)) (moved front behind entry)) sound.plain in
    all 0 (listed entry) (omega arith)

housed_at : (front behind : List Entry) (entry : Entry) → IsListing (map listed (front ++ entry ∷ behind)) → IsHousedAt (map listed (front ++ entry ∷ behind)) entry.path
housed_at front behind entry sound =
    let all = All-permutation (λ (e : Listed). IsHousedAt (map listed (front ++ entry ∷ behind)) e.path) (map listed (front ++ entry ∷ behind)) (map listed (entry ∷ (front ++ behind)))
    (IsPermutation-sym (map listed (entry ∷ (front ++ behind))) (map listed (front ++ entry ∷ behind)) (moved front behind entry)) (all_housed_at (map listed (front ++ entry ∷ behind)) sound.housed) in
    all 0 (listed entry) (omega arith)

file_for_file : (front behind : List Entry) (old entry : Entry) → IsListing (map listed (front ++ old ∷ behind)) → old.kind ≡ File → old.path ≡ entry.path
    → IsChanged entry.path (Some entry) (front ++ old ∷ behind) (front ++ entry ∷ behind)
file_for_file front behind old entry sound file same =
    let never : old.kind ≡ Dir → ⊥ = λ dir. (let f : ⊥ = cc in f) in
    let out = out_changed front behind old sound (λ dir. absurd (never dir)) in
    let around = subst (λ (p : List ℕ). IsAround p front behind) same (around_of front behind old (rises_of (front ++ old ∷ behind) sound)) in
    let housed : IsHousedAt (map listed (front ++ behind)) entry.path = λ parent name is none. dir_out parent front behind old (λ here dir. never dir) (housed_at front behind old sound parent name (same ∙ is) none) in
    let put = in_changed front behind entry out.sound around (subst (λ (p : List ℕ). is_path p ≡ true) same (plain_at front behind old sound)) housed in
    record {
      sound = put.sound;
      here = put.here;
      others = λ other apart. put.others other apart ∙ out.others other (λ is. apart (is ∙ same));
    }

-- ---- by the place that a search gives

reversed : (one other : List ℕ) → cmp one other ≡ Greater → cmp other one ≡ Less
reversed one other more = rw (nat_list_cmp_total.antisymm other one, more) refl

front_at : (entries : List Entry) (place : ℕ) (path : List ℕ) → place ≤ length entries → ((k : ℕ) (d : Entry) → k < place → cmp (get_or entries k d).path path ≡ Less)
    → AllByRecursion (λ entry. cmp entry.path path ≡ Less) (take place entries)
front_at entries zero path within below = tt
front_at [] (suc place) path within below = tt
front_at (entry ∷ entries) (suc place) path within below = (below 0 entry (omega arith), front_at entries place path (omega arith) (λ k d low. below (suc k) d (omega arith)))

behind_at : (entries : List Entry) (place : ℕ) (path : List ℕ) → ((k : ℕ) (d : Entry) → place ≤ k → k < length entries → cmp (get_or entries k d).path path ≡ Greater)
    → AllByRecursion (λ other. cmp path other ≡ Less) (map path_of (drop place entries))
behind_at [] zero path above = tt
behind_at (entry ∷ entries) zero path above =
    (reversed entry.path path (above 0 entry (omega arith) (omega arith)), behind_at entries zero path (λ k d low high. above (suc k) d (omega arith) (omega arith)))
behind_at [] (suc place) path above = tt
behind_at (entry ∷ entries) (suc place) path above = behind_at entries place path (λ k d low high. above (suc k) d (omega arith) (omega arith))

pub inserted : (entries : List Entry) (place : ℕ) (entry : Entry) → IsListing (map listed entries) → place ≤ length entries → IsBinarySearchResult (λ other. cmp other.path entry.path) entries (Err place)
    → is_path entry.path ≡ true → IsHousedAt (map listed entries) entry.path → IsChanged entry.path (Some entry) entries (insert entries place entry)
inserted entries place entry sound within found plain housed =
    let whole = take-append-drop place entries in
    let parts = found (searchable_from_sorted nat_list_cmp_total path_of entries entry.path (sorted path_of entries (rises_of entries sound))) in
    let around : IsAround entry.path (take place entries) (drop place entries) =
    record { below = front_at entries place entry.path within (λ k d low. parts.0 k d (omega arith) low); above = behind_at entries place entry.path (λ k d low high. parts.1 k d low high) } in
    subst (λ (old : List Entry). IsChanged entry.path (Some entry) old (insert entries place entry)) whole
    (in_changed (take place entries) (drop place entries) entry
    (subst (λ (old : List Entry). IsListing (map listed old)) (sym whole) sound) around plain
    (subst (λ (old : List Entry). IsHousedAt (map listed old) entry.path) (sym whole) housed))

parted : (entries : List Entry) (place : ℕ) (d : Entry) → place < length entries → take place entries ++ get_or entries place d ∷ drop (suc place) entries ≡ entries
parted [] place d within = absurd (omega arith)
parted (entry ∷ entries) zero d within = refl
parted (entry ∷ entries) (suc place) d within = ap (λ (rest : List Entry). entry ∷ rest) (parted entries place d (omega arith))

put_there : (entries : List Entry) (place : ℕ) (entry : Entry) → place < length entries → set entries place entry ≡ take place entries ++ entry ∷ drop (suc place) entries
put_there [] place entry within = absurd (omega arith)
put_there (first ∷ entries) zero entry within = refl
put_there (first ∷ entries) (suc place) entry within = ap (λ (rest : List Entry). first ∷ rest) (put_there entries place entry (omega arith))

pub replaced : (entries : List Entry) (place : ℕ) (old entry : Entry) → IsListing (map listed entries) → place < length entries → IsBinarySearchResult (λ other. cmp other.path entry.path) entries (Ok place)
    → old ≡ get_or entries place old → old.kind ≡ File → IsChanged entry.path (Some entry) entries (set entries place entry)
replaced entries place old entry sound within found is file =
    let whole = parted entries place old within in
    let there = get_or entries place old in
    rw (put_there entries place entry within)
    (subst (λ (all : List Entry). IsChanged entry.path (Some entry) all (take place entries ++ entry ∷ drop (suc place) entries)) whole
    (file_for_file (take place entries) (drop (suc place) entries) there entry (subst (λ (all : List Entry). IsListing (map listed all)) (sym whole) sound)
    (ap (λ (e : Entry). e.kind) (sym is) ∙ file) (found_at path_of entries entry.path place old found)))

pub removed : (entries : List Entry) (place : ℕ) (path : List ℕ) (d : Entry) → IsListing (map listed entries) → place < length entries → IsBinarySearchResult (λ other. cmp other.path path) entries (Ok place)
    → NoneBelow path entries → IsChanged path None entries (remove entries place)
removed entries place path d sound within found none =
    let whole = parted entries place d within in
    let here = found_at path_of entries path place d found in
    subst (λ (p : List ℕ). IsChanged p None entries (remove entries place)) here
    (subst (λ (all : List Entry). IsChanged (get_or entries place d).path None all (remove entries place)) whole
    (out_changed (take place entries) (drop (suc place) entries) (get_or entries place d) (subst (λ (all : List Entry). IsListing (map listed all)) (sym whole) sound)
    (λ dir. subst (λ (all : List Entry). NoneBelow (get_or entries place d).path all) (sym whole) (subst (λ (p : List ℕ). NoneBelow p entries) (sym here) none))))

-- ---- what stands below a path

same_bytes : (bytes : List ℕ) → pointwise nat_eq bytes bytes ≡ true
same_bytes [] = refl
same_bytes (byte ∷ bytes) = rw (eq-eqb byte byte refl) (same_bytes bytes)

pub not_below : (path other rest : List ℕ) → pointwise nat_eq (take (length other) path) other ≡ false → path ≡ other ++ 47 ∷ rest → ⊥
not_below path other rest apart same =
    let front : take (length other) path ≡ other = ap (take (length other)) same ∙ take-append_seam other (47 ∷ rest) in
    let is : pointwise nat_eq (take (length other) path) other ≡ true = ap (λ (p : List ℕ). pointwise nat_eq p other) front ∙ same_bytes other in
    let f : ⊥ = cc in f

-- ---- the directory of a path

pub dir_at_place : (entries : List Entry) (path : List ℕ) (place : ℕ) (entry : Entry) → place < length entries → IsBinarySearchResult (λ other. cmp other.path path) entries (Ok place)
    → entry ≡ get_or entries place entry → entry.kind ≡ Dir → HasDir (map listed entries) path
dir_at_place entries path place entry within found is dir =
    let same : get_or (map listed entries) place (listed entry) ≡ listed entry = get_or-map listed entries place entry (listed entry) within ∙ ap listed (sym is) in
    (place, listed entry, rw (length-map entries listed) within, same, (ap path_of is ∙ found_at path_of entries path place entry found, dir))
