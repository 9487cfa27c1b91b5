-- Which words `parse` reads are spelled as a number is.
use Rattle.std.proofs.Common.{◌≡◌, ◌≢◌, ℕ, zero, suc, ◌^◌, ◌<◌, ◌≤◌, List, [], ◌∷◌, length, get_or, Result, Ok, Err, refl, sym, ap, ◌∙◌, arith}
use Rattle.std.specs.Fmt.{decimal}
use Rattle.std.specs.Str.Parse.{AllDigits, digits_value, ParsesUnsigned}
use Rattle.std.proofs.lemmas.Str.Parse.{IsNumeralModel, numerals_by_value, tells_digits, parse_plain}
use Rattle.std.proofs.lemmas.Fmt.{decimal-digits_value, parse-decimal, first_decimal, decimal_digit}

own : IsNumeralModel (AllDigits 10) (digits_value 10)
own = numerals_by_value (AllDigits 10) tells_digits

-- no plus in front, and no zero in front of more
abbrev pub IsPlain : List ℕ → Type 0
IsPlain bytes = (get_or bytes 0 0 ≢ 43) × (get_or bytes 0 0 ≡ 48 → length bytes ≡ 1)

plain_digit : (bytes : List ℕ) → bytes ≡ 48 ∷ [] → IsPlain bytes
plain_digit bytes same = rw same ((λ equal. absurd (omega arith)), λ _. refl)

plain_above : (bytes : List ℕ) → 48 < get_or bytes 0 0 → IsPlain bytes
plain_above bytes above = ((λ equal. omega arith), λ equal. absurd (omega arith))

pub plain_decimal : (budget : ℕ) → budget ≤ 33554432 → IsPlain (decimal budget)
plain_decimal zero small = plain_digit (decimal 0) (decimal_digit 0 (omega arith))
plain_decimal (suc budget) small = plain_above (decimal (suc budget)) (first_decimal (suc budget) (omega arith) (omega arith))

-- what is read of a plain word is what it spells
pub spelled : (bytes : List ℕ) (budget : ℕ) → IsPlain bytes → ParsesUnsigned {E = ℕ} 32 10 bytes (Ok budget) → bytes ≡ decimal budget
spelled bytes budget plain parses =
    let facts = parse_plain own {E = ℕ} 32 bytes (Ok budget) parses plain.0 in
    let big : digits_value 10 bytes < 2 ^ 64 = omega (arith, facts.0.2) in
    sym (ap decimal facts.1 ∙ decimal-digits_value own bytes facts.0.0 facts.0.1 plain.1 big)

-- a word that isn't read spells no budget
pub not_spelled : {E : Type 0} → (bytes : List ℕ) (error : E) → ParsesUnsigned {E = E} 32 10 bytes (Err error) → (budget : ℕ) → budget ≤ 33554432 → bytes ≡ decimal budget → ⊥
not_spelled {E} bytes error parses budget small same =
    let result : Result ℕ E = Err error in
    let read = parse-decimal {E = E} 32 budget bytes result (omega arith) (omega arith) same parses in
    cc

-- nor does one that is read as too great a number
pub too_great : (bytes : List ℕ) (great : ℕ) → ParsesUnsigned {E = ℕ} 32 10 bytes (Ok great) → 33554432 < great → (budget : ℕ) → budget ≤ 33554432 → bytes ≡ decimal budget → ⊥
too_great bytes great parses above budget small same =
    let result : Result ℕ ℕ = Ok great in
    let read = parse-decimal {E = ℕ} 32 budget bytes result (omega arith) (omega arith) same parses in
    let equal : great ≡ budget = cc in
    omega arith

-- nor one that isn't plain
pub not_plain : (bytes : List ℕ) → (IsPlain bytes → ⊥) → (budget : ℕ) → budget ≤ 33554432 → bytes ≡ decimal budget → ⊥
not_plain bytes not budget small same = not (rw same (plain_decimal budget small))
