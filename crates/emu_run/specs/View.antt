-- The process that a state of the emulator shows. Flag and noted signals show nothing; where a call's answer stands
-- ready, it shows in the registers.
-- The project's own.
use Rattle.guest_core.specs.declared.places.Place.{Place}
use Rattle.guest_core.specs.declared.places.Place.TheVariants.{Loop, Start, Window, Done}
use Rattle.isa_exec.specs.Registers.{Registers}
use Rattle.guest_core.specs.Call.{answered}
use Rattle.guest_core.specs.Machine.{Machine, Thread}
use Rattle.guest_core.specs.System.{system_shown}
use Rattle.linux_model.specs.Process.{ProcessState, Task}

abbrev pub shown_regs : Place → Registers → Registers
shown_regs Loop regs = regs
shown_regs Start regs = regs
shown_regs Window regs = regs
shown_regs (Done answer) regs = answered answer regs

abbrev pub shown : Thread → Task
shown thread = record { regs = shown_regs thread.place thread.regs }

abbrev pub view : Machine → ProcessState
view machine = system_shown shown machine
