-- The registers of a thread.
-- Source: the RISC-V unprivileged manual, "Programmers' Model for Base Integer ISA".
use Rattle.std.specs.Prelude.{ℕ, ◌+◌, ◌%◌, ◌^◌, ◌==◌, if◌then◌else◌, List, replicate, slice_index, slice_set}

-- the address of the next instruction, and the integer registers, of which there are 32
pub record Registers : Type 0 where
  pub pc : ℕ
  pub x : List ℕ

-- a program begins at the address, with all integer registers 0
abbrev pub starting_at : ℕ → Registers
starting_at address = record { pc = address; x = replicate 32 0 }

-- what an integer register holds; register 0 holds 0
abbrev pub register : Registers → ℕ → ℕ
register regs number = slice_index regs.x number

-- a write to register 0 is dropped
unfoldable pub with_register : ℕ → ℕ → Registers → Registers
with_register number value regs =
    if number == 0 then regs else record { pc = regs.pc; x = slice_set regs.x number value }

-- the program goes on at an address
unfoldable pub going_on_at : ℕ → Registers → Registers
going_on_at address regs = record { pc = address; x = regs.x }

-- the address that is so many bytes behind pc
abbrev pub behind : ℕ → Registers → ℕ
behind size regs = (regs.pc + size) % 2 ^ 64
