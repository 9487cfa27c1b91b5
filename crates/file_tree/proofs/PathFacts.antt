-- The names of a path by its first slash.
use Rattle.std.proofs.Common.{◌≡◌, ℕ, suc, ◌+◌, ◌-◌, ◌<◌, ◌≤◌, ◌==◌, not, Bool, true, false, if◌then◌else◌, List, [], ◌∷◌, take, drop, length, get_or, Some, None, refl, sym, ap, ◌∙◌, arith, length-take, length-drop}
use Rattle.std.specs.Prelude.{position, nat_lt}
use Rattle.std.specs.Str.{is_utf8, IsUtf8}
use Rattle.std.proofs.lemmas.Str.{is_utf8-from_IsUtf8, IsUtf8-from_is_utf8}
use Rattle.std.specs.List.{position_or_len}
use Rattle.std.proofs.lemmas.List.{take_all}
use Rattle.file_tree.specs.Paths.{pieces, onto, filled, names, ends_in_slash}

-- how many bytes stand before the first slash
abbrev pub first : List ℕ → ℕ
first path = position_or_len (λ b. b == 47) path

-- how many slashes stand before the first other byte
abbrev pub slashes : List ℕ → ℕ
slashes path = position_or_len (λ b. not (b == 47)) path

cut_by : (test : Bool) (b : ℕ) (path : List ℕ) → (b == 47) ≡ test
    → (tl : List (List ℕ)) × ((pieces path ≡ take (first path) path ∷ tl) × (filled tl ≡ filled (pieces (drop (first path) path))))
    → (tl : List (List ℕ)) × (((if test then [] ∷ pieces path else onto b (pieces path)) ≡ take (if not test then 1 + first path else 0) (b ∷ path) ∷ tl)
    × (filled tl ≡ filled (pieces (drop (if not test then 1 + first path else 0) (b ∷ path)))))
cut_by true b path same rest = (pieces path, (refl, rw same refl))
cut_by false b path same rest =
    let e : 1 + first path ≡ suc (first path) = omega arith in
    rw e (rest.0, (ap (onto b) rest.1.0, rest.1.1))

cut_filled : (path : List ℕ) → (tl : List (List ℕ)) × ((pieces path ≡ take (first path) path ∷ tl) × (filled tl ≡ filled (pieces (drop (first path) path))))
cut_filled [] = ([], (refl, refl))
cut_filled (b ∷ path) = cut_by (b == 47) b path refl (cut_filled path)

filled_front : (piece : List ℕ) (rest : List (List ℕ)) → 0 < length piece → filled (piece ∷ rest) ≡ piece ∷ filled rest
filled_front [] rest some = absurd (omega arith)
filled_front (b ∷ piece) rest some = refl

within_by : (test : Bool) (n m : ℕ) → n ≤ m → (if not test then 1 + n else 0) ≤ suc m
within_by true n m low = omega arith
within_by false n m low = omega arith

pub first_within : (path : List ℕ) → first path ≤ length path
first_within [] = omega arith
first_within (b ∷ path) = within_by (b == 47) (first path) (length path) (first_within path)

-- a path that begins with a name
pub names_first : (path : List ℕ) → 0 < first path → names path ≡ take (first path) path ∷ names (drop (first path) path)
unfolding names
names_first path some =
    let cut = cut_filled path in
    let low = first_within path in
    let long : 0 < length (take (first path) path) = simp length-take (omega arith) in
    ap filled cut.1.0 ∙ (filled_front (take (first path) path) cut.0 long ∙ ap (λ (t : List (List ℕ)). take (first path) path ∷ t) cut.1.1)

skip_by : (test : Bool) (b : ℕ) (path : List ℕ) → (b == 47) ≡ test → names (drop (slashes path) path) ≡ names path
    → names (drop (if not (not test) then 1 + slashes path else 0) (b ∷ path)) ≡ names (b ∷ path)
unfolding names
skip_by true b path same rest =
    let e : 1 + slashes path ≡ suc (slashes path) = omega arith in
    rw (e, same) rest
skip_by false b path same rest = refl

-- slashes in front mean nothing
pub skip_names : (path : List ℕ) → names (drop (slashes path) path) ≡ names path
skip_names [] = refl
skip_names (b ∷ path) = skip_by (b == 47) b path refl (skip_names path)

starts_by : (test : Bool) (b : ℕ) (path : List ℕ) → (b == 47) ≡ test → (slashes path < length path → 0 < first (drop (slashes path) path))
    → (if not (not test) then 1 + slashes path else 0) < suc (length path) → 0 < first (drop (if not (not test) then 1 + slashes path else 0) (b ∷ path))
starts_by true b path same rest some =
    let e : 1 + slashes path ≡ suc (slashes path) = omega arith in
    rw e (rest (omega arith))
starts_by false b path same rest some = rw same (omega arith)

pub skip_starts : (path : List ℕ) → slashes path < length path → 0 < first (drop (slashes path) path)
skip_starts [] some = absurd (omega arith)
skip_starts (b ∷ path) some = starts_by (b == 47) b path refl (skip_starts path) some

none_by : (test : Bool) (b : ℕ) (path : List ℕ) → (b == 47) ≡ test → (length path ≤ slashes path → filled (pieces path) ≡ [])
    → suc (length path) ≤ (if not (not test) then 1 + slashes path else 0) → filled (if test then [] ∷ pieces path else onto b (pieces path)) ≡ []
none_by true b path same rest all = rest (omega arith)
none_by false b path same rest all = absurd (omega arith)

-- slashes alone have no name
names_none : (path : List ℕ) → length path ≤ slashes path → filled (pieces path) ≡ []
names_none [] all = refl
names_none (b ∷ path) all = none_by (b == 47) b path refl (names_none path) all

test_by : (test : Bool) (path : List ℕ) → nat_lt (slashes path) (length path) ≡ test → (if test then Some (slashes path) else None) ≡ None → length path ≤ slashes path
test_by true path same none = absurd (let f : ⊥ = cc in f)
test_by false path same none = grind arith

pub without_names : (path : List ℕ) → position (λ b. not (b == 47)) path ≡ None → names path ≡ []
unfolding names
without_names path none = names_none path (test_by (nat_lt (slashes path) (length path)) path refl none)

start_by : (test : Bool) (path : List ℕ) (start : ℕ) → nat_lt (slashes path) (length path) ≡ test → (if test then Some (slashes path) else None) ≡ Some start
    → (start ≡ slashes path) × (slashes path < length path)
start_by true path start same some = (let e : start ≡ slashes path = cc in e, grind arith)
start_by false path start same some = absurd (let f : ⊥ = cc in f)

-- a path by its first name
pub with_first : (path : List ℕ) (start : ℕ) → position (λ b. not (b == 47)) path ≡ Some start
    → (names path ≡ take (first (drop start path)) (drop start path) ∷ names (drop (first (drop start path)) (drop start path))) × (length (drop (first (drop start path)) (drop start path)) < length path)
with_first path start some =
    let is = start_by (nat_lt (slashes path) (length path)) path start refl some in
    let begins : 0 < first (drop start path) = rw is.0 (skip_starts path is.1) in
    let low : start < length path = rw is.0 is.1 in
    let same : names (drop start path) ≡ names path = rw is.0 (skip_names path) in
    (sym same ∙ names_first (drop start path) begins, simp (length-drop) (omega arith))

-- the last byte
pub last_slash : (path : List ℕ) → 0 < length path → (get_or path (length path - 1) 0 == 47) ≡ ends_in_slash path
last_slash [] some = absurd (omega arith)
last_slash (b ∷ []) some = refl
last_slash (b ∷ c ∷ path) some =
    let e : suc (suc (length path)) - 1 ≡ suc (suc (length path) - 1) = omega arith in
    rw e (last_slash (c ∷ path) (omega arith))

no_text_by : (test : Bool) (bytes : List ℕ) → is_utf8 bytes ≡ test → (IsUtf8 bytes → ⊥) → false ≡ test
no_text_by true bytes same none = absurd (none (IsUtf8-from_is_utf8 bytes same))
no_text_by false bytes same none = refl

pub no_text : (bytes : List ℕ) → (IsUtf8 bytes → ⊥) → false ≡ is_utf8 bytes
no_text bytes none = no_text_by (is_utf8 bytes) bytes refl none

pub text : (bytes : List ℕ) → IsUtf8 bytes → true ≡ is_utf8 bytes
text bytes is = sym (is_utf8-from_IsUtf8 bytes is)

length_by : (test : Bool) (path : List ℕ) (n : ℕ) → nat_lt (first path) (length path) ≡ test → (if test then Some (first path) else None) ≡ Some n → n ≡ first path
length_by true path n same some = cc
length_by false path n same some = absurd (let f : ⊥ = cc in f)

pub length_some : (path : List ℕ) (n : ℕ) → position (λ b. b == 47) path ≡ Some n → n ≡ first path
length_some path n some = length_by (nat_lt (first path) (length path)) path n refl some

whole_by : (test : Bool) (path : List ℕ) → nat_lt (first path) (length path) ≡ test → (if test then Some (first path) else None) ≡ None → length path ≤ first path
whole_by true path same none = absurd (let f : ⊥ = cc in f)
whole_by false path same none = grind arith

pub length_none : (path : List ℕ) → position (λ b. b == 47) path ≡ None → length path ≡ first path
length_none path none =
    let high = whole_by (nat_lt (first path) (length path)) path refl none in
    let low = first_within path in
    omega arith

rest_all : (path : List ℕ) (n : ℕ) → take (length path - n) (drop n path) ≡ drop n path
rest_all path n = take_all (length path - n) (drop n path) (simp length-drop (omega arith))

-- the same with the rest of the path as the code cuts it
pub cut_first : (path front behind : List ℕ) (start len : ℕ) → position (λ b. not (b == 47)) path ≡ Some start
    → len ≡ first (take (length path - start) (drop start path))
    → front ≡ take len (take (length path - start) (drop start path)) → behind ≡ drop len (take (length path - start) (drop start path))
    → (names path ≡ front ∷ names behind) × (length behind < length path)
cut_first path front behind start len some is before after =
    let whole = rest_all path start in
    let at = with_first path start some in
    let n : len ≡ first (drop start path) = is ∙ ap first whole in
    rw (before, after, whole, n) at

pub within_rest : (path : List ℕ) (start len : ℕ) → len ≡ first (take (length path - start) (drop start path)) → len ≤ length (take (length path - start) (drop start path))
within_rest path start len is =
    let low = first_within (take (length path - start) (drop start path)) in
    omega arith
