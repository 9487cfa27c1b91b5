-- What the checks say of the list of the segments that are loaded.
use Rattle.std.proofs.Common.{◌≡◌, ◌<◌, ◌⊎◌, ◌||◌, ◌&&◌, not, ℕ, zero, suc, List, [], ◌∷◌, ◌++◌, append-nil, Option, Some, None, Bool, true, false, refl, cond, ◌∙◌, inl, inr, arith}
use Rattle.std.specs.List.{list_all, list_any}
use Rattle.std.proofs.lemmas.List.Folds.{list_all-append}
use Rattle.elf_file.specs.declared.fault.ElfFault.{ElfFault}
use Rattle.elf_file.specs.Below.{below, any_below}
use Rattle.elf_file.specs.Segments.{SegmentImage, all_pairs, shares_byte, clashes, runs_at, is_writable, is_executable}
use Rattle.elf_file.specs.Headers.{is_loaded, is_placed, segment, segment_if, segments_below, overlap_at, clash_at, is_writable_code, runs_entry, entry}
use Rattle.elf_file.specs.Checks.{first_fault, pair_checks, overlap_checks, segment_checks}
use Rattle.elf_file.proofs.Faults.{below_each, first_fault_passes}
use Rattle.elf_file.proofs.BelowFacts.{any_below_found}

pub and_true : (a b : Bool) → a ≡ true → b ≡ true → (a && b) ≡ true
and_true true b one other = other
and_true false b one other = cc

pub and_first : (a b : Bool) → (a && b) ≡ true → a ≡ true
and_first true b both = refl
and_first false b both = both

pub and_second : (a b : Bool) → (a && b) ≡ true → b ≡ true
and_second true b both = both
and_second false b both = cc

or_first : (a b : Bool) → (a || b) ≡ false → a ≡ false
or_first true b both = both
or_first false b both = refl

or_second : (a b : Bool) → (a || b) ≡ false → b ≡ false
or_second true b both = cc
or_second false b both = both

pub or_cases : (a b : Bool) → (a || b) ≡ true → (a ≡ true) ⊎ (b ≡ true)
or_cases true b either = inl refl
or_cases false b either = inr either

pub or_left : (a b : Bool) → a ≡ true → (a || b) ≡ true
or_left true b one = refl
or_left false b one = cc

pub or_right : (a b : Bool) → b ≡ true → (a || b) ≡ true
or_right true b other = refl
or_right false b other = other

-- ---- lists with one segment more

list_all_last : (test : SegmentImage → Bool) (xs : List SegmentImage) (y : SegmentImage) → list_all test xs ≡ true → test y ≡ true → list_all test (xs ++ y ∷ []) ≡ true
list_all_last test xs y front here = list_all-append test xs (y ∷ []) ∙ and_true (list_all test xs) (list_all test (y ∷ [])) front (and_true (test y) true here refl)

all_pairs_last : (related : SegmentImage → SegmentImage → Bool) (xs : List SegmentImage) (y : SegmentImage) → all_pairs related xs ≡ true → list_all (λ x. related x y) xs ≡ true → all_pairs related (xs ++ y ∷ []) ≡ true
unfolding all_pairs
all_pairs_last related [] y pairs each = refl
all_pairs_last related (x ∷ xs) y pairs each =
    let first = and_first (list_all (related x) xs) (all_pairs related xs) pairs in
    let rest = and_second (list_all (related x) xs) (all_pairs related xs) pairs in
    let here = and_first (related x y) (list_all (λ z. related z y) xs) each in
    let others = and_second (related x y) (list_all (λ z. related z y) xs) each in
    and_true (list_all (related x) (xs ++ y ∷ [])) (all_pairs related (xs ++ y ∷ [])) (list_all_last (related x) xs y first here) (all_pairs_last related xs y rest others)

list_any_front : (test : SegmentImage → Bool) (xs ys : List SegmentImage) → list_any test xs ≡ true → list_any test (xs ++ ys) ≡ true
list_any_front test [] ys some = cc
list_any_front test (x ∷ xs) ys some =
    elim (or_cases (test x) (list_any test xs) some) [
      | inl here ↦ or_left (test x) (list_any test (xs ++ ys)) here
      | inr later ↦ or_right (test x) (list_any test (xs ++ ys)) (list_any_front test xs ys later)
    ]

list_any_last : (test : SegmentImage → Bool) (xs : List SegmentImage) (y : SegmentImage) → test y ≡ true → list_any test (xs ++ y ∷ []) ≡ true
list_any_last test [] y here = or_left (test y) false here
list_any_last test (x ∷ xs) y here = or_right (test x) (list_any test (xs ++ y ∷ [])) (list_any_last test xs y here)

-- ---- the segments that are loaded

all_if : (test : SegmentImage → Bool) (xs : List SegmentImage) (loaded : Bool) (s : SegmentImage) → list_all test xs ≡ true → (loaded ≡ true → test s ≡ true) → list_all test (xs ++ segment_if loaded s) ≡ true
all_if test xs true s front here = list_all_last test xs s front (here refl)
all_if test xs false s front here = rw append-nil front

pairs_if : (related : SegmentImage → SegmentImage → Bool) (xs : List SegmentImage) (loaded : Bool) (s : SegmentImage) → all_pairs related xs ≡ true → (loaded ≡ true → list_all (λ x. related x s) xs ≡ true) → all_pairs related (xs ++ segment_if loaded s) ≡ true
pairs_if related xs true s front here = all_pairs_last related xs s front (here refl)
pairs_if related xs false s front here = rw append-nil front

pub all_below : (test : SegmentImage → Bool) (file : List ℕ) (n : ℕ) → ((i : ℕ) → i < n → is_loaded file i ≡ true → test (segment file i) ≡ true) → list_all test (segments_below file n) ≡ true
unfolding below
all_below test file zero each = refl
all_below test file (suc n) each =
    all_if test (segments_below file n) (is_loaded file n) (segment file n) (all_below test file n (λ i inside loaded. each i (omega arith) loaded)) (λ loaded. each n (omega arith) loaded)

pub pairs_below : (related : SegmentImage → SegmentImage → Bool) (file : List ℕ) (n : ℕ) → ((i j : ℕ) → i < j → j < n → is_loaded file i ≡ true → is_loaded file j ≡ true → related (segment file i) (segment file j) ≡ true) → all_pairs related (segments_below file n) ≡ true
unfolding below all_pairs
pairs_below related file zero each = refl
pairs_below related file (suc n) each =
    pairs_if related (segments_below file n) (is_loaded file n) (segment file n)
    (pairs_below related file n (λ i j order inside one other. each i j order (omega arith) one other))
    (λ loaded. all_below (λ x. related x (segment file n)) file n (λ i inside one. each i n inside (omega arith) one loaded))

any_if : (test : SegmentImage → Bool) (xs : List SegmentImage) (loaded : Bool) (s : SegmentImage) → (list_any test xs ≡ true) ⊎ ((loaded && test s) ≡ true) → list_any test (xs ++ segment_if loaded s) ≡ true
any_if test xs loaded s (inl front) = list_any_front test xs (segment_if loaded s) front
any_if test xs true s (inr here) = list_any_last test xs s here
any_if test xs false s (inr here) = cc

pub some_below : (test : SegmentImage → Bool) (file : List ℕ) (n : ℕ) → any_below (λ i. is_loaded file i && test (segment file i)) n ≡ true → list_any test (segments_below file n) ≡ true
unfolding below any_below
some_below test file zero some = cc
some_below test file (suc n) some =
    elim (or_cases (any_below (λ i. is_loaded file i && test (segment file i)) n) (is_loaded file n && test (segment file n)) some) [
      | inl front ↦ any_if test (segments_below file n) (is_loaded file n) (segment file n) (inl (some_below test file n front))
      | inr here ↦ any_if test (segments_below file n) (is_loaded file n) (segment file n) (inr here)
    ]

-- ---- what the checks say

holds_if_none : (holds : Bool) (rest : Option ElfFault) (fault : ElfFault) → cond holds rest (Some fault) ≡ None → holds ≡ true
holds_if_none true rest fault none = refl
holds_if_none false rest fault none = cc

rest_if_none : (holds : Bool) (rest : Option ElfFault) (fault : ElfFault) → cond holds rest (Some fault) ≡ None → rest ≡ None
rest_if_none true rest fault none = none
rest_if_none false rest fault none = cc

not_true : (a : Bool) → not a ≡ true → a ≡ false
not_true true denied = cc
not_true false denied = refl

apart_by : (one other shared : Bool) → ((one && other) && shared) ≡ false → one ≡ true → other ≡ true → not shared ≡ true
apart_by true true true none first second = cc
apart_by true true false none first second = refl
apart_by true false shared none first second = cc
apart_by false other shared none first second = cc

pair_apart : (file : List ℕ) (j i : ℕ) → first_fault (pair_checks file j i) ≡ None → overlap_at file i j ≡ false
unfolding pair_checks first_fault
pair_apart file j i none = not_true (overlap_at file i j) (holds_if_none (not (overlap_at file i j)) None _ none)

pub no_overlap : (file : List ℕ) (n i j : ℕ) → first_fault (below (overlap_checks file) n) ≡ None → i < j → j < n → overlap_at file i j ≡ false
unfolding overlap_checks
no_overlap file n i j none order inside = pair_apart file j i (below_each (pair_checks file j) j i order (below_each (overlap_checks file) n j inside none))

not_shared : (file : List ℕ) (i j : ℕ) → overlap_at file i j ≡ false → is_loaded file i ≡ true → is_loaded file j ≡ true → not (shares_byte (segment file i) (segment file j)) ≡ true
unfolding overlap_at
not_shared file i j none one other = apart_by (is_loaded file i) (is_loaded file j) (shares_byte (segment file i) (segment file j)) none one other

-- no two segments share a byte
pub apart_below : (file : List ℕ) (n : ℕ) → first_fault (below (overlap_checks file) n) ≡ None → all_pairs (λ s t. not (shares_byte s t)) (segments_below file n) ≡ true
apart_below file n none =
    pairs_below (λ s t. not (shares_byte s t)) file n
    (λ i j order inside one other. not_shared file i j (no_overlap file n i j none order inside) one other)

guarded : (loaded wrong : Bool) → (not loaded || not wrong) ≡ true → loaded ≡ true → wrong ≡ false
guarded true wrong either given = not_true wrong either
guarded false wrong either given = cc

pub one_way_at : (file : List ℕ) (i : ℕ) → first_fault (segment_checks file i) ≡ None → is_loaded file i ≡ true → is_writable_code file i ≡ false
unfolding segment_checks first_fault
one_way_at file i none loaded =
    guarded (is_loaded file i) (is_writable_code file i)
    (holds_if_none (not (is_loaded file i) || not (is_writable_code file i)) None _
    (rest_if_none (not (is_loaded file i) || is_placed file i) _ _
    (rest_if_none _ _ _ none))) loaded

any_false : (test : ℕ → Bool) (n i : ℕ) → any_below test n ≡ false → i < n → test i ≡ false
any_false test n i none inside = elim_false (test i) (λ some. let found = any_below_found test n i inside some in cc)
  where
    elim_false : (b : Bool) → (b ≡ true → ⊥) → b ≡ false
    elim_false true denied = absurd (denied refl)
    elim_false false denied = refl

no_clash_at : (file : List ℕ) (i j : ℕ) → is_writable_code file j ≡ false → i < j → clash_at file i j ≡ false
unfolding is_writable_code
no_clash_at file i j none order =
    any_false (λ k. clash_at file k j) j i (or_second (is_writable (segment file j).rights && is_executable (segment file j).rights) (any_below (λ k. clash_at file k j) j) none) order

not_clashing : (file : List ℕ) (i j : ℕ) → clash_at file i j ≡ false → is_loaded file i ≡ true → is_loaded file j ≡ true → not (clashes (segment file i) (segment file j)) ≡ true
unfolding clash_at
not_clashing file i j none one other = apart_by (is_loaded file i) (is_loaded file j) (clashes (segment file i) (segment file j)) none one other

-- no page of two segments is writable and executable
pub clear_below : (file : List ℕ) (n : ℕ) → first_fault (below (segment_checks file) n) ≡ None → all_pairs (λ s t. not (clashes s t)) (segments_below file n) ≡ true
clear_below file n none =
    pairs_below (λ s t. not (clashes s t)) file n
    (λ i j order inside one other. not_clashing file i j (no_clash_at file i j (one_way_at file j (below_each (segment_checks file) n j inside none) other) order) one other)

-- no segment is writable and executable
pub one_way_below : (file : List ℕ) (n i : ℕ) → first_fault (below (segment_checks file) n) ≡ None → i < n → is_loaded file i ≡ true → (is_writable (segment file i).rights && is_executable (segment file i).rights) ≡ false
unfolding is_writable_code
one_way_below file n i none inside loaded =
    or_first _ (any_below (λ k. clash_at file k i) i) (one_way_at file i (below_each (segment_checks file) n i inside none) loaded)

-- the entry is in a segment that can be executed
pub runs_below : (file : List ℕ) (n : ℕ) → any_below (runs_entry file) n ≡ true → list_any (λ s. runs_at s (entry file)) (segments_below file n) ≡ true
unfolding runs_entry
runs_below file n some = some_below (λ s. runs_at s (entry file)) file n some

-- ---- where no two segments meet

pub any_none : (test : ℕ → Bool) (n : ℕ) → ((i : ℕ) → i < n → test i ≡ false) → any_below test n ≡ false
unfolding any_below
any_none test zero none = refl
any_none test (suc n) none =
    rw (any_none test n (λ i low. none i (omega arith))) (none n (omega arith))

pairs_pass : (file : List ℕ) (j n : ℕ) → ((i : ℕ) → i < n → overlap_at file i j ≡ false) → first_fault (below (pair_checks file j) n) ≡ None
unfolding below pair_checks first_fault
pairs_pass file j zero none = refl
pairs_pass file j (suc n) none =
    first_fault_passes (below (pair_checks file j) n) (pair_checks file j n) (pairs_pass file j n (λ i low. none i (omega arith)))
    ∙ rw (none n (omega arith)) refl

pub overlaps_pass : (file : List ℕ) (j : ℕ) → ((i : ℕ) → i < j → overlap_at file i j ≡ false) → first_fault (overlap_checks file j) ≡ None
unfolding overlap_checks
overlaps_pass file j none = pairs_pass file j j none
