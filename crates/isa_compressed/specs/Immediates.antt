-- The registers and immediates of instructions of 2 bytes: each piece of the half word at the bits of the immediate
-- where it stands.
-- Source: the RISC-V unprivileged manual, "C" Standard Extension for Compressed Instructions, "RVC Instruction Set
-- Listings".
use Rattle.std.specs.Prelude.{ℕ, ◌+◌, ◌*◌, ◌^◌, ℤ}
use Rattle.isa_decode.specs.Fields.{bits, signed}

-- the registers of five bits
abbrev pub rd_of : ℕ → ℕ
rd_of h = bits h 11 7

abbrev pub rs2_of : ℕ → ℕ
rs2_of h = bits h 6 2

-- the registers of three bits: x8 to x15
abbrev pub high_register : ℕ → ℕ
high_register h = bits h 9 7 + 8

abbrev pub low_register : ℕ → ℕ
low_register h = bits h 4 2 + 8

-- unsigned

-- c.addi4spn
unfoldable pub stack_address : ℕ → ℕ
stack_address h = bits h 10 7 * 2 ^ 6 + bits h 12 11 * 2 ^ 4 + bits h 5 5 * 2 ^ 3 + bits h 6 6 * 2 ^ 2

-- c.lw, c.sw
unfoldable pub word_offset : ℕ → ℕ
word_offset h = bits h 5 5 * 2 ^ 6 + bits h 12 10 * 2 ^ 3 + bits h 6 6 * 2 ^ 2

-- c.ld, c.sd
unfoldable pub doubleword_offset : ℕ → ℕ
doubleword_offset h = bits h 6 5 * 2 ^ 6 + bits h 12 10 * 2 ^ 3

-- c.lwsp
unfoldable pub word_load_offset : ℕ → ℕ
word_load_offset h = bits h 3 2 * 2 ^ 6 + bits h 12 12 * 2 ^ 5 + bits h 6 4 * 2 ^ 2

-- c.ldsp
unfoldable pub doubleword_load_offset : ℕ → ℕ
doubleword_load_offset h = bits h 4 2 * 2 ^ 6 + bits h 12 12 * 2 ^ 5 + bits h 6 5 * 2 ^ 3

-- c.swsp
unfoldable pub word_store_offset : ℕ → ℕ
word_store_offset h = bits h 8 7 * 2 ^ 6 + bits h 12 9 * 2 ^ 2

-- c.sdsp
unfoldable pub doubleword_store_offset : ℕ → ℕ
doubleword_store_offset h = bits h 9 7 * 2 ^ 6 + bits h 12 10 * 2 ^ 3

-- c.slli, c.srli, c.srai: an amount from 0 to 63
unfoldable pub amount : ℕ → ℕ
amount h = bits h 12 12 * 2 ^ 5 + bits h 6 2

-- signed

-- c.addi, c.addiw, c.li, c.andi
unfoldable pub small_immediate : ℕ → ℤ
small_immediate h = signed 6 (bits h 12 12 * 2 ^ 5 + bits h 6 2)

-- c.addi16sp
unfoldable pub stack_step : ℕ → ℤ
stack_step h =
    signed 10 (bits h 12 12 * 2 ^ 9 + bits h 4 3 * 2 ^ 7 + bits h 5 5 * 2 ^ 6 + bits h 2 2 * 2 ^ 5 + bits h 6 6 * 2 ^ 4)

-- c.lui
unfoldable pub upper_immediate : ℕ → ℤ
upper_immediate h = signed 18 (bits h 12 12 * 2 ^ 17 + bits h 6 2 * 2 ^ 12)

-- c.j
unfoldable pub jump_offset : ℕ → ℤ
jump_offset h =
    signed 12
    (bits h 12 12 * 2 ^ 11 + bits h 8 8 * 2 ^ 10 + bits h 10 9 * 2 ^ 8 + bits h 6 6 * 2 ^ 7 + bits h 7 7 * 2 ^ 6
    + bits h 2 2 * 2 ^ 5 + bits h 11 11 * 2 ^ 4 + bits h 5 3 * 2
    )

-- c.beqz, c.bnez
unfoldable pub branch_offset : ℕ → ℤ
branch_offset h =
    signed 9
    (bits h 12 12 * 2 ^ 8 + bits h 6 5 * 2 ^ 6 + bits h 2 2 * 2 ^ 5 + bits h 11 10 * 2 ^ 3 + bits h 4 3 * 2
    )
