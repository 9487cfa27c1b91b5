-- What an atomic operation writes, of the old value and a register.
-- Source: the RISC-V unprivileged manual, "Atomic Memory Operations".
use Rattle.std.specs.Prelude.{ℕ, ◌+◌, ◌%◌, ◌^◌, Bool, true, false, nat_lt, if◌then◌else◌, ℤ, int_lt, bit_and, bit_or, bit_xor}
use Rattle.std.specs.Int.{w32, w64, cast_signed, cast_unsigned}
use Rattle.isa_decode.specs.declared.instruction.AmoOp.{AmoOp}
use Rattle.isa_decode.specs.declared.instruction.AmoOp.TheVariants.{Amoswap, Amoadd, Amoxor, Amoand, Amoor, Amomin, Amomax, Amominu, Amomaxu}

-- the number read in two's complement, of 64 bits or of the lower 32
abbrev pub signed : Bool → ℕ → ℤ
signed true n = cast_signed w64 n
signed false n = cast_signed w32 n

-- the bytes of an access
abbrev pub size_of : Bool → ℕ
size_of true = 8
size_of false = 4

-- the lowest 64 or 32 bits
abbrev pub cut : Bool → ℕ → ℕ
cut true n = n % 2 ^ 64
cut false n = n % 2 ^ 32

-- what is written, of an old value and an operand that both have the width's bits
abbrev pub combined : AmoOp → Bool → ℕ → ℕ → ℕ
combined Amoswap wide old operand = operand
combined Amoadd wide old operand = cut wide (old + operand)
combined Amoxor wide old operand = bit_xor old operand
combined Amoand wide old operand = bit_and old operand
combined Amoor wide old operand = bit_or old operand
combined Amomin wide old operand = if int_lt (signed wide old) (signed wide operand) then old else operand
combined Amomax wide old operand = if int_lt (signed wide old) (signed wide operand) then operand else old
combined Amominu wide old operand = if nat_lt old operand then old else operand
combined Amomaxu wide old operand = if nat_lt old operand then operand else old

-- a word that was read fills a register sign-extended
abbrev pub filled : Bool → ℕ → ℕ
filled true n = n
filled false n = cast_unsigned w64 (cast_signed w32 n)
