-- The mnemonics of one opcode.
-- Source: the RISC-V unprivileged manual, "RISC-V base opcode map".
use Rattle.std.specs.Prelude.{ℕ, ◌==◌, List, Option}
use Rattle.std.specs.List.{filter}
use Rattle.isa_decode.specs.declared.instruction.Instr.{Instr}
use Rattle.isa_decode.specs.Listing.{first, mnemonics, row_of}

abbrev pub of_opcode : ℕ → List Instr → List Instr
of_opcode opcode instrs = filter (λ instr. opcode == (row_of instr).opcode) instrs

-- the mnemonic of the word among those of the opcode
unfoldable pub in_group : ℕ → ℕ → Option Instr
in_group opcode w = first w (of_opcode opcode mnemonics)
