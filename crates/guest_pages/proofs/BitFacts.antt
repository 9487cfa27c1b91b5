-- Bits in words, after one or a word of them is set or cleared.
use Rattle.std.proofs.Common.{◌≡◌, ◌≢◌, ◌⊎◌, ℕ, zero, suc, ◌+◌, ◌-◌, ◌*◌, ◌/◌, ◌%◌, ◌^◌, ◌<◌, ◌≤◌, Bool, true, false, ◌==◌, if◌then◌else◌, List, [], ◌∷◌, ◌++◌, length, get_or, set, w64, bit_or, bit_and, inl, inr, refl, sym, ap, ◌∙◌, arith}
use Rattle.std.specs.Int.{bit_at, bit_not}
use Rattle.std.proofs.lemmas.Bool.{cases_lt, cases_eq}
use Rattle.std.proofs.lemmas.List.{get_or-set_same, get_or-set_other, get_or_past}
use Rattle.std.proofs.lemmas.Nat.Bits.{bit_at-zero, bit_at_ones, bit_at_set_same, bit_at_clear_same}
use Rattle.guest_pages.specs.Bits.{bit_of}
use Rattle.guest_pages.specs.Ranges.{within}
use Rattle.guest_pages.proofs.RightsFacts.{within_inside, within_outside}

is_one : ℕ → Bool
is_one n = n == 1

-- a bit of the word that was put
pub put_same : (words : List ℕ) (k word : ℕ) → k / 64 < length words → bit_of (set words (k / 64) word) k ≡ (bit_at word (k % 64) == 1)
unfolding bit_of
put_same words k word low = ap (λ (w : ℕ). bit_at w (k % 64) == 1) (get_or-set_same words (k / 64) word 0 low)

pub put_other : (words : List ℕ) (index k word : ℕ) → k / 64 ≢ index → bit_of (set words index word) k ≡ bit_of words k
unfolding bit_of
put_other words index k word other = ap (λ (w : ℕ). bit_at w (k % 64) == 1) (get_or-set_other words index (k / 64) word 0 other)

pub set_same : (word place : ℕ) → place < 64 → (bit_at (bit_or word (1 * 2 ^ place % 2 ^ 64)) place == 1) ≡ true
set_same word place low = ap (λ (b : ℕ). b == 1) (bit_at_set_same w64 word place low)

pub clear_same : (word place : ℕ) → place < 64 → (bit_at (bit_and word (bit_not w64 (1 * 2 ^ place % 2 ^ 64))) place == 1) ≡ false
clear_same word place low = ap (λ (b : ℕ). b == 1) (bit_at_clear_same w64 word place low)

word_of : (words : List ℕ) (place k : ℕ) → k / 64 ≡ place / 64 → bit_of words k ≡ (bit_at (get_or words (place / 64) 0) (k % 64) == 1)
unfolding bit_of
word_of words place k same = ap (λ (i : ℕ). bit_at (get_or words i 0) (k % 64) == 1) same

put_near : (words : List ℕ) (place k word : ℕ) → place / 64 < length words → k / 64 ≡ place / 64 → bit_of (set words (place / 64) word) k ≡ (bit_at word (k % 64) == 1)
put_near words place k word low same =
    ap (λ (i : ℕ). bit_of (set words i word) k) (sym same) ∙ put_same words k word (omega arith)

-- a word that differs in one bit leaves all others
pub one_changed : (words : List ℕ) (place k word : ℕ) → place / 64 < length words → k ≢ place → ((i : ℕ) → i < 64 → i ≢ place % 64 → bit_at word i ≡ bit_at (get_or words (place / 64) 0) i) → bit_of (set words (place / 64) word) k ≡ bit_of words k
one_changed words place k word low other near =
    elim (cases_eq (k / 64) (place / 64)) [
      | inl same ↦
          put_near words place k word low same
          ∙ (ap (λ (b : ℕ). b == 1) (near (k % 64) (omega arith) (omega arith))
          ∙ sym (word_of words place k same))
      | inr far ↦ put_other words (place / 64) k word far
    ]

-- all bits of a word
pub word_here : (words : List ℕ) (index k : ℕ) (on : Bool) → index < length words → k / 64 ≡ index → bit_of (set words index (if on then 2 ^ 64 - 1 else 0)) k ≡ on
word_here words index k true low here =
    ap (λ (i : ℕ). bit_of (set words i (2 ^ 64 - 1)) k) (sym here)
    ∙ (put_same words k (2 ^ 64 - 1) (omega arith) ∙ ap (λ (b : ℕ). b == 1) (bit_at_ones 64 (k % 64) (omega arith)))
word_here words index k false low here =
    ap (λ (i : ℕ). bit_of (set words i 0) k) (sym here)
    ∙ (put_same words k 0 (omega arith) ∙ ap (λ (b : ℕ). b == 1) (bit_at-zero (k % 64)))

pub chosen_in : (first count k : ℕ) (on old : Bool) → first ≤ k → k < first + count → (if within first count k then on else old) ≡ on
chosen_in first count k on old low high = rw (within_inside first count k low high) refl

pub chosen_out : (first count k : ℕ) (on old : Bool) → (k < first) ⊎ (first + count ≤ k) → (if within first count k then on else old) ≡ old
chosen_out first count k on old out = rw (within_outside first count k out) refl

-- some more bits are put
pub bits_more : (old new new-2 : ℕ → Bool) (first done more : ℕ) (on : Bool) → ((k : ℕ) → new k ≡ (if within first done k then on else old k)) → ((k : ℕ) → new-2 k ≡ (if within (first + done) more k then on else new k)) → (k : ℕ) → new-2 k ≡ (if within first (done + more) k then on else old k)
bits_more old new new-2 first done more on before after k =
    elim (cases_lt k first) [
      | inl below ↦
          after k ∙ (chosen_out (first + done) more k on (new k) (inl (omega arith))
          ∙ (before k ∙ (chosen_out first done k on (old k) (inl below) ∙ sym (chosen_out first (done + more) k on (old k) (inl below)))))
      | inr from ↦ elim (cases_lt k (first + done)) [
        | inl inside ↦
            after k ∙ (chosen_out (first + done) more k on (new k) (inl inside)
            ∙ (before k ∙ (chosen_in first done k on (old k) from inside ∙ sym (chosen_in first (done + more) k on (old k) from (omega arith)))))
        | inr past ↦ elim (cases_lt k (first + done + more)) [
          | inl inside ↦
              after k ∙ (chosen_in (first + done) more k on (new k) past inside ∙ sym (chosen_in first (done + more) k on (old k) from (omega arith)))
          | inr out ↦
              after k ∙ (chosen_out (first + done) more k on (new k) (inr out)
              ∙ (before k ∙ (chosen_out first done k on (old k) (inr past) ∙ sym (chosen_out first (done + more) k on (old k) (inr (omega arith))))))
        ]
      ]
    ]

-- one range of bits is put, another is not
pub bits_by_place : (old new : ℕ → Bool) (first count : ℕ) (on : Bool) → ((k : ℕ) → first ≤ k → k < first + count → new k ≡ on) → ((k : ℕ) → (k < first) ⊎ (first + count ≤ k) → new k ≡ old k) → (k : ℕ) → new k ≡ (if within first count k then on else old k)
bits_by_place old new first count on here others k =
    elim (cases_lt k first) [
      | inl below ↦ others k (inl below) ∙ sym (chosen_out first count k on (old k) (inl below))
      | inr from ↦ elim (cases_lt k (first + count)) [
        | inl inside ↦ here k from inside ∙ sym (chosen_in first count k on (old k) from inside)
        | inr past ↦ others k (inr past) ∙ sym (chosen_out first count k on (old k) (inr past))
      ]
    ]

-- bits of a word that is all ones or all zeros
pub bits_of_word : (words : List ℕ) (index k : ℕ) (on : Bool) → get_or words index 0 ≡ (if on then 2 ^ 64 - 1 else 0) → k / 64 ≡ index → bit_of words k ≡ on
unfolding bit_of
bits_of_word words index k true is here =
    ap (λ (i : ℕ). bit_at (get_or words i 0) (k % 64) == 1) here ∙ (ap (λ (w : ℕ). bit_at w (k % 64) == 1) is ∙ ap (λ (b : ℕ). b == 1) (bit_at_ones 64 (k % 64) (omega arith)))
bits_of_word words index k false is here =
    ap (λ (i : ℕ). bit_at (get_or words i 0) (k % 64) == 1) here ∙ (ap (λ (w : ℕ). bit_at w (k % 64) == 1) is ∙ ap (λ (b : ℕ). b == 1) (bit_at-zero (k % 64)))

-- none is set past the last word
pub bits_past : (words : List ℕ) (k : ℕ) → length words ≤ k / 64 → bit_of words k ≡ false
unfolding bit_of
bits_past words k past =
    ap (λ (w : ℕ). bit_at w (k % 64) == 1) (get_or_past words (k / 64) 0 past) ∙ ap (λ (b : ℕ). b == 1) (bit_at-zero (k % 64))

-- words of zeros behind the last change no bit
pub bits_push : (words : List ℕ) (k : ℕ) → bit_of (words ++ 0 ∷ []) k ≡ bit_of words k
unfolding bit_of
bits_push words k = ap (λ (w : ℕ). bit_at w (k % 64) == 1) (zero_push words (k / 64))
  where
    zero_push : (xs : List ℕ) (i : ℕ) → get_or (xs ++ 0 ∷ []) i 0 ≡ get_or xs i 0
    zero_push [] zero = refl
    zero_push [] (suc i) = refl
    zero_push (x ∷ xs) zero = refl
    zero_push (x ∷ xs) (suc i) = zero_push xs i

-- bits that are put as far as there are words
pub bits_as_far : (old new : List ℕ) (first count part : ℕ) (on : Bool) → length new ≡ length old → part ≤ count → ((k : ℕ) → k < first + count → first + part ≤ k → (length old ≤ k / 64) × (on ≡ false)) → ((k : ℕ) → bit_of new k ≡ (if within first part k then on else bit_of old k)) → (k : ℕ) → bit_of new k ≡ (if within first count k then on else bit_of old k)
bits_as_far old new first count part on size few past put =
    bits_by_place (bit_of old) (bit_of new) first count on
    (λ k low high. elim (cases_lt k (first + part)) [
      | inl inside ↦ put k ∙ chosen_in first part k on (bit_of old k) low inside
      | inr out ↦
          let end = past k high out in
          put k ∙ (chosen_out first part k on (bit_of old k) (inr out) ∙ (bits_past old k end.0 ∙ sym end.1))
    ])
    (λ k out. put k ∙ chosen_out first part k on (bit_of old k) (elim out [ inl below ↦ inl below | inr from ↦ inr (omega arith) ]))

pub bits_none : (words : List ℕ) (first count : ℕ) (on : Bool) → ((k : ℕ) → first ≤ k → k < first + count → (length words ≤ k / 64) × (on ≡ false)) → (k : ℕ) → bit_of words k ≡ (if within first count k then on else bit_of words k)
bits_none words first count on past =
    bits_by_place (bit_of words) (bit_of words) first count on
    (λ k low high. let end = past k low high in bits_past words k end.0 ∙ sym end.1)
    (λ k out. refl)

pub unless_true : (b : Bool) → (b ≡ true → ⊥) → b ≡ false
unless_true true never = absurd (never refl)
unless_true false never = refl

pub bits_nowhere : (old : ℕ → Bool) (first : ℕ) (on : Bool) → (k : ℕ) → old k ≡ (if within first 0 k then on else old k)
bits_nowhere old first on k =
    sym (chosen_out first 0 k on (old k) (elim (cases_lt k first) [ inl below ↦ inl below | inr from ↦ inr (omega arith) ]))

pub bits_all : (old new : ℕ → Bool) (first done count : ℕ) (on : Bool) → done ≡ count → ((k : ℕ) → new k ≡ (if within first done k then on else old k)) → (k : ℕ) → new k ≡ (if within first count k then on else old k)
bits_all old new first done count on all put k = put k ∙ ap (λ (n : ℕ). if within first n k then on else old k) all

pub unless_false : (b : Bool) → (b ≡ false → ⊥) → b ≡ true
unless_false true never = refl
unless_false false never = absurd (never refl)
