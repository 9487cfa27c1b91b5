-- What numbers' fields hold.
-- Source: the RISC-V unprivileged manual, "Immediate Encoding Variants" and "Integer Computational Instructions" for `lui`.
use Rattle.std.specs.Prelude.{ℕ, ◌-◌, ◌*◌, ◌%◌, ◌^◌, ◌==◌, nat_lt, nat_le, Bool, ◌&&◌, not, if◌then◌else◌, ℤ, pos, neg_ℤ, ◌+ℤ◌, ◌-ℤ◌, Option, Some, None, option_and_then}
use Rattle.std.specs.Int.{int_rem_euclid}
use Rattle.isa_decode.specs.Fields.{reading}
use Rattle.isa_asm.specs.declared.literal.Literal.{Literal}

-- a number of 64 bits with its sign
abbrev pub signed_magnitude : Bool → ℕ → Option ℤ
signed_magnitude negative size =
    if negative then (if nat_le size (2 ^ 63) then Some (neg_ℤ (pos size)) else None)
    else (if nat_lt size (2 ^ 63) then Some (pos size) else None)

unfoldable pub signed_64 : Literal → Option ℤ
signed_64 literal = option_and_then (λ size. signed_magnitude literal.negative size) literal.magnitude

-- half of the range of a field: it takes its signed and its unsigned numbers, and a negative one by two's complement
abbrev pub stored_magnitude : ℕ → Bool → ℕ → Option ℕ
stored_magnitude half negative size =
    if negative then (if nat_le size half then Some ((2 * half - size) % (2 * half)) else None)
    else (if nat_lt size (2 * half) then Some size else None)

unfoldable pub stored : ℕ → Literal → Option ℕ
stored half literal = option_and_then (λ size. stored_magnitude half literal.negative size) literal.magnitude

-- no number below 0
abbrev pub natural_magnitude : Bool → ℕ → Option ℕ
natural_magnitude negative size = if negative && not (size == 0) then None else Some size

unfoldable pub natural : Literal → Option ℕ
natural literal = option_and_then (λ size. natural_magnitude literal.negative size) literal.magnitude

-- the signed immediate of 20 bits without a sign, above 12 zeros
abbrev pub upper_bits : ℕ → Option ℤ
upper_bits size = if nat_lt size (2 ^ 20) then Some (reading (2 ^ 31) (size * 4096)) else None

unfoldable pub upper : Literal → Option ℤ
upper literal = option_and_then upper_bits (natural literal)

-- a number's part for `addi` behind `lui` or `auipc`, from -2048 to 2047: what is left of it above a multiple of 4096
unfoldable pub low_part : ℤ → ℤ
low_part z = int_rem_euclid (z +ℤ pos 2048) (pos 4096) -ℤ pos 2048

-- the multiple of 4096 that is left for them
abbrev pub high_part : ℤ → ℤ
high_part z = z -ℤ low_part z
