-- A state of the emulator: a system of threads, each with its registers, place, flag and noted signals.
-- The project's own, after the safe system calls of QEMU's linux-user: a thread looks at a flag, stands in a short
-- window, and then enters the host.
use Rattle.std.specs.Prelude.{ℕ, Bool, List}
use Rattle.guest_core.specs.declared.places.Place.{Place}
use Rattle.guest_core.specs.System.{System}
use Rattle.isa_exec.specs.Registers.{Registers}

-- what a thread has of its own
pub record Thread : Type 0 where
  pub regs : Registers
  pub place : Place
  pub flag : Bool
  -- the ids of the pending signals that it has noted
  pub noted : List ℕ

abbrev pub Machine : Type 0
Machine = System Thread

-- the first thread of a process
abbrev pub first_thread : ℕ
first_thread = 1000
