-- A Linux process, as far as programs see it: a system of tasks. It knows no place, flag, window or journal: signals act on
-- it directly, between two instructions.
-- Source: signal(7); the form is the project's own.
use Rattle.file_table.specs.State.{Files, outputs_of}
use Rattle.std.specs.Prelude.{ℕ, List, Option}
use Rattle.guest_core.specs.declared.ends.End.{End}
use Rattle.guest_core.specs.Machine.{first_thread}
use Rattle.guest_core.specs.Start.{Program, first_shared, first_regs}
use Rattle.guest_core.specs.System.{System, alone}
use Rattle.isa_exec.specs.Registers.{Registers}

-- what a process has of a thread
pub record Task : Type 0 where
  pub regs : Registers

abbrev pub ProcessState : Type 0
ProcessState = System Task

-- ---- the start, and what is seen

-- a process that starts a program
unfoldable pub begun : Program → Files → ProcessState
begun program files = alone (first_shared program files) first_thread (record { regs = first_regs program })

-- what is seen of a run: the bytes written to each device, in order, and the end
abbrev pub seen_outputs : ProcessState → List (List ℕ)
seen_outputs process = outputs_of process.shared.files

abbrev pub seen_end : ProcessState → Option End
seen_end process = process.end
