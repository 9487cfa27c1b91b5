-- Numbers as they are written.
-- The project's own.
use Rattle.std.specs.Prelude.{ℕ, ◌+◌, ◌-◌, ◌*◌, ◌^◌, ◌==◌, nat_lt, Bool, true, false, ◌||◌, ◌&&◌, if◌then◌else◌, List, [], ◌∷◌, Option, Some, None, option_and_then, fold}
use Rattle.std.specs.List.{list_all}
use Rattle.std.specs.Option.{option_map}
use Rattle.isa_asm.specs.Lexing.{is_between, is_digit}
use Rattle.isa_asm.specs.declared.literal.Literal.{Literal}

-- a digit of the base, which is 10 or 16
abbrev pub is_digit_of : ℕ → ℕ → Bool
is_digit_of base byte =
    is_digit byte || ((base == 16) && (is_between 97 102 byte || is_between 65 70 byte))

-- what a digit stands for
unfoldable pub digit_value : ℕ → ℕ
digit_value byte = if nat_lt byte 58 then byte - 48 else (if nat_lt byte 97 then byte - 55 else byte - 87)

-- what digits stand for, the highest first
unfoldable pub digits_value : ℕ → List ℕ → ℕ
digits_value base digits = fold (λ value digit. value * base + digit_value digit) 0 digits

-- a number of 128 bits, if it is one
abbrev pub within : ℕ → Option ℕ
within value = if nat_lt value (2 ^ 128) then Some value else None

-- the number with one more digit, none of more than 128 bits
abbrev pub with_next : ℕ → Option ℕ → ℕ → Option ℕ
with_next base value digit = option_and_then (λ front. within (front * base + digit_value digit)) value

unfoldable pub digits_of : ℕ → List ℕ → Option (Option ℕ)
digits_of base digits = if list_all (is_digit_of base) digits then Some (within (digits_value base digits)) else None

-- at least one digit
unfoldable pub some_digits : ℕ → List ℕ → Option (Option ℕ)
some_digits base [] = None
some_digits base (digit ∷ digits) = digits_of base (digit ∷ digits)

-- what follows a zero: nothing, or `x` and hexadecimal digits
unfoldable pub behind_zero : List ℕ → Option (Option ℕ)
behind_zero [] = Some (Some 0)
behind_zero (byte ∷ bytes) = if byte == 120 then some_digits 16 bytes else None

-- the number without its sign: decimal digits with no zero in front, `0`, or `0x` and hexadecimal digits. One of
-- more than 128 bits is a number, but no other is told of it
unfoldable pub magnitude : List ℕ → Option (Option ℕ)
magnitude [] = None
magnitude (byte ∷ bytes) = if byte == 48 then behind_zero bytes else digits_of 10 (byte ∷ bytes)

unfoldable pub signed_literal : Bool → List ℕ → Option Literal
signed_literal negative bytes = option_map (λ size. record { negative = negative; magnitude = size }) (magnitude bytes)

-- a number, before which a `-` may stand
unfoldable pub literal : List ℕ → Option Literal
literal [] = None
literal (byte ∷ bytes) = if byte == 45 then signed_literal true bytes else signed_literal false (byte ∷ bytes)
