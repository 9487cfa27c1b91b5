-- What the walker's state stands for: a process of one task.
use Rattle.std.specs.Prelude.{[], ◌∷◌, Some}
use Rattle.host_calls.specs.Host.{shared_of}
use Rattle.guest_core.specs.System.{After, Context}
use Rattle.linux_model.specs.declared.state.State.{State}
use Rattle.linux_model.specs.Process.{ProcessState, Task}

abbrev pub context : State → Context Task
context state = record { shared = shared_of state.host; id = state.task.id; self = record { regs = state.task.regs } }

-- its task as it is, and the end
abbrev pub after : State → After Task
after state = record {
  shared = shared_of state.host;
  self = Some (record { regs = state.task.regs });
  added = [];
  end = state.end;
}

abbrev pub process : State → ProcessState
process state = record {
  shared = shared_of state.host;
  members = record { id = state.task.id; self = record { regs = state.task.regs } } ∷ [];
  end = state.end;
}
