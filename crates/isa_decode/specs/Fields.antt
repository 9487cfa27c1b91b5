-- Fields of an instruction word, and the immediates that they make.
-- Source: the RISC-V unprivileged manual, "Base Instruction Formats" and "Immediate Encoding Variants".
use Rattle.std.specs.Prelude.{ℕ, ◌+◌, ◌-◌, ◌*◌, ◌/◌, ◌%◌, ◌^◌, nat_lt, if◌then◌else◌, ℤ, pos, ◌-ℤ◌}

-- w[high:low], as a number
abbrev pub bits : ℕ → ℕ → ℕ → ℕ
bits w high low = w / 2 ^ low % 2 ^ (high + 1 - low)

-- the number n below 2 * half, read in two's complement
abbrev pub reading : ℕ → ℕ → ℤ
reading half n = if nat_lt n half then pos n else pos n -ℤ pos (2 * half)

-- the number n of k bits, read in two's complement
abbrev pub signed : ℕ → ℕ → ℤ
signed k n = reading (2 ^ (k - 1)) n

abbrev pub rd_of : ℕ → ℕ
rd_of w = bits w 11 7

abbrev pub rs1_of : ℕ → ℕ
rs1_of w = bits w 19 15

abbrev pub rs2_of : ℕ → ℕ
rs2_of w = bits w 24 20

-- aq is bit 26 and counts 2, rl is bit 25 and counts 1
abbrev pub order_of : ℕ → ℕ
order_of w = bits w 26 25

-- the amounts of shifts of 64 and of 32 bits
abbrev pub amount_6 : ℕ → ℤ
amount_6 w = pos (bits w 25 20)

abbrev pub amount_5 : ℕ → ℤ
amount_5 w = pos (bits w 24 20)

-- the immediates of the formats: each piece of the word at the bits of the immediate where it stands
unfoldable pub immediate_i : ℕ → ℤ
immediate_i w = signed 12 (bits w 31 20)

unfoldable pub immediate_s : ℕ → ℤ
immediate_s w = signed 12 (bits w 31 25 * 2 ^ 5 + bits w 11 7)

unfoldable pub immediate_b : ℕ → ℤ
immediate_b w =
    signed 13 (bits w 31 31 * 2 ^ 12 + bits w 7 7 * 2 ^ 11 + bits w 30 25 * 2 ^ 5 + bits w 11 8 * 2)

unfoldable pub immediate_u : ℕ → ℤ
immediate_u w = signed 32 (bits w 31 12 * 2 ^ 12)

unfoldable pub immediate_j : ℕ → ℤ
immediate_j w =
    signed 21 (bits w 31 31 * 2 ^ 20 + bits w 19 12 * 2 ^ 12 + bits w 20 20 * 2 ^ 11 + bits w 30 21 * 2)
