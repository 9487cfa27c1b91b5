-- One more text, one more word.
use Rattle.std.proofs.Common.{◌≡◌, ℕ, ◌+◌, ◌*◌, ◌<◌, ◌≤◌, List, [], ◌∷◌, ◌++◌, suc, length, get_or, take, refl, sym, ap, ◌∙◌, arith, length-append}
use Rattle.std.specs.List.{flat_map}
use Rattle.std.proofs.lemmas.List.{take_more}
use Rattle.std.proofs.lemmas.List.Concat.{flat_map-append}
use Rattle.std.proofs.lemmas.List.Folds.{length-flat_map-take}
use Rattle.byteorder.specs.Endian.{little_bytes}
use Rattle.start_stack.specs.Texts.{joined, with_zero, addresses_from}
use Rattle.start_stack.specs.Words.{bytes_of}

pub append_none : {X : Type 0} (xs : List X) → xs ++ [] ≡ xs
append_none [] = refl
append_none (x ∷ xs) = ap (λ (l : List _). x ∷ l) (append_none xs)

more : {X Y : Type 0} (f : X → List Y) (xs : List X) (i : ℕ) (x : X) → i < length xs → x ≡ get_or xs i x → flat_map f (take (i + 1) xs) ≡ flat_map f (take i xs) ++ f x
more f xs i x low read =
    ap (flat_map f) (take_more xs i x low)
    ∙ (flat_map-append f (take i xs) (get_or xs i x ∷ [])
    ∙ (ap (λ (l : List _). flat_map f (take i xs) ++ l) (append_none (f (get_or xs i x)))
    ∙ ap (λ (y : _). flat_map f (take i xs) ++ f y) (sym read)))

-- one more text
pub joined_more : (texts : List (List ℕ)) (i : ℕ) (text : List ℕ) → i < length texts → text ≡ get_or texts i text → joined (take (i + 1) texts) ≡ joined (take i texts) ++ with_zero text
joined_more texts i text low read = more with_zero texts i text low read

pub length_joined_more : (texts : List (List ℕ)) (i : ℕ) (text : List ℕ) → i < length texts → text ≡ get_or texts i text → length (joined (take (i + 1) texts)) ≡ length (joined (take i texts)) + (length text + 1)
length_joined_more texts i text low read =
    ap length (joined_more texts i text low read)
    ∙ (length-append (joined (take i texts)) (with_zero text)
    ∙ ap (λ (n : ℕ). length (joined (take i texts)) + n) (length-append text (0 ∷ [])))

pub bytes_more : (words : List ℕ) (i word : ℕ) → i < length words → word ≡ get_or words i word → bytes_of (take (i + 1) words) ≡ bytes_of (take i words) ++ little_bytes 8 word
unfolding bytes_of
bytes_more words i word low read = more (λ (w : ℕ). little_bytes 8 w) words i word low read

-- a text ends no later than all texts
pub joined_fits : (texts : List (List ℕ)) (i : ℕ) (text : List ℕ) → i < length texts → text ≡ get_or texts i text → length (joined (take i texts)) + (length text + 1) ≤ length (joined texts)
joined_fits texts i text low read =
    let e : length (with_zero (get_or texts i text)) ≡ length text + 1 =
    ap (λ (t : List ℕ). length (with_zero t)) (sym read) ∙ length-append text (0 ∷ []) in
    let h = length-flat_map-take with_zero texts i text low in
    omega arith

addresses_append : (at : ℕ) (xs ys : List (List ℕ)) → addresses_from at (xs ++ ys) ≡ addresses_from at xs ++ addresses_from (at + length (joined xs)) ys
unfolding addresses_from
addresses_append at [] ys =
    let e : at ≡ at + 0 = omega arith in
    ap (λ (a : ℕ). addresses_from a ys) e
addresses_append at (x ∷ xs) ys =
    let n : ℕ = at + length (with_zero x) in
    let e : at + length (with_zero x) + length (joined xs) ≡ at + length (with_zero x ++ joined xs) =
    simp length-append (omega arith) in
    ap (λ (l : List ℕ). at ∷ l) (addresses_append (at + length (with_zero x)) xs ys
    ∙ ap (λ (a : ℕ). addresses_from (at + length (with_zero x)) xs ++ addresses_from a ys) e)

-- one more address
pub addresses_more : (at : ℕ) (texts : List (List ℕ)) (i : ℕ) (text : List ℕ) (last : ℕ) → i < length texts → last ≡ at + length (joined (take i texts)) → addresses_from at (take (i + 1) texts) ≡ addresses_from at (take i texts) ++ last ∷ []
unfolding addresses_from
addresses_more at texts i text last low is =
    ap (addresses_from at) (take_more texts i text low)
    ∙ (addresses_append at (take i texts) (get_or texts i text ∷ [])
    ∙ ap (λ (n : ℕ). addresses_from at (take i texts) ++ n ∷ []) (sym is))

pub addresses_none : (at : ℕ) → addresses_from at [] ≡ []
unfolding addresses_from
addresses_none at = refl

pub length_addresses : (at : ℕ) (texts : List (List ℕ)) → length (addresses_from at texts) ≡ length texts
unfolding addresses_from
length_addresses at [] = refl
length_addresses at (text ∷ texts) = ap suc (length_addresses (at + length (with_zero text)) texts)

pub length_bytes : (words : List ℕ) → length (bytes_of words) ≡ 8 * length words
unfolding bytes_of
length_bytes [] = refl
length_bytes (word ∷ words) =
    let e : length (little_bytes 8 word) ≡ 8 = refl in
    let h = length_bytes words in
    let more : length (little_bytes 8 word ++ bytes_of words) ≡ length (little_bytes 8 word) + length (bytes_of words) =
    length-append (little_bytes 8 word) (bytes_of words) in
    omega arith
