-- Digits one after the other.
use Rattle.std.proofs.Common.{◌≡◌, ◌<◌, ◌≤◌, ℕ, ◌+◌, ◌*◌, ◌^◌, Bool, true, false, List, take, length, get_or, Option, Some, None, cond, nat_lt, arith, refl, sym, ap, ◌∙◌}
use Rattle.std.proofs.lemmas.List.Sums.{fold_more}
use Rattle.std.proofs.lemmas.Bool.{ltb-false, le-ltb}
use Rattle.isa_asm.specs.Literals.{digit_value, digits_value, with_next, within}

too_great : (base front digit : ℕ) → 0 < base → 2 ^ 128 ≤ front → 2 ^ 128 ≤ front * base + digit
too_great base front digit positive great = grind arith

-- a number past 128 bits stays so
next : (base front digit : ℕ) (small : Bool) → nat_lt front (2 ^ 128) ≡ small → 0 < base → with_next base (cond small (Some front) None) digit ≡ within (front * base + digit_value digit)
next base front digit true is positive = refl
next base front digit false is positive =
    let great : 2 ^ 128 ≤ front = ltb-false front (2 ^ 128) is in
    let small : nat_lt (front * base + digit_value digit) (2 ^ 128) ≡ false = le-ltb _ _ (too_great base front (digit_value digit) positive great) in
    rw small

pub value_goes_on : (base : ℕ) (digits : List ℕ) (place : ℕ) (value : Option ℕ) → 0 < base → place < length digits → value ≡ within (digits_value base (take place digits))
    → with_next base value (get_or digits place 0) ≡ within (digits_value base (take (place + 1) digits))
unfolding digits_value
value_goes_on base digits place value positive inside is =
    ap (λ v. with_next base v (get_or digits place 0)) is
    ∙ next base (digits_value base (take place digits)) (get_or digits place 0) (nat_lt (digits_value base (take place digits)) (2 ^ 128)) refl positive
    ∙ ap within (sym (fold_more (λ (value digit : ℕ). value * base + digit_value digit) 0 digits place 0 inside))
