-- What every state of the emulator keeps, at each moment between two events.
use Rattle.std.specs.Prelude.{◌≡◌, ◌≤◌, ℕ, ◌+◌, ◌==◌, Bool, true, false, List, [], ◌∷◌}
use Rattle.std.specs.List.{list_all, list_any}
use Rattle.guest_core.specs.declared.places.Place.{Place}
use Rattle.guest_core.specs.declared.places.Place.TheVariants.{Loop, Start, Window, Done}
use Rattle.host_calls.specs.declared.queue.Instance.{Instance}
use Rattle.host_calls.specs.Queue.{due}
use Rattle.host_calls.specs.Shared.{Shared}
use Rattle.isa_exec.specs.Registers.{Registers}
use Rattle.isa_step.specs.Instruction.{Calls, instruction}
use Rattle.guest_pages.specs.Apart.{IsApart}
use Rattle.guest_core.specs.Machine.{Machine, Thread}
use Rattle.guest_core.specs.System.{Member}

-- pc stands at an ecall, whoever looks
abbrev pub IsAtCall : Shared → Registers → Type 0
IsAtCall shared regs = (thread : ℕ) → instruction thread regs shared.memory shared.held ≡ Calls

-- at every place but the loop, pc stands at an ecall
abbrev pub CallKeeps : Shared → Registers → Place → Type 0
CallKeeps shared regs Loop = Unit {0}
CallKeeps shared regs Start = IsAtCall shared regs
CallKeeps shared regs Window = IsAtCall shared regs
CallKeeps shared regs (Done answer) = IsAtCall shared regs

-- at the window the flag is clear
abbrev pub PlaceKeeps : Place → Bool → Type 0
PlaceKeeps Loop flag = Unit {0}
PlaceKeeps Start flag = Unit {0}
PlaceKeeps Window flag = flag ≡ false
PlaceKeeps (Done answer) flag = Unit {0}

-- of a thread
pub record KeepsThread (shared : Shared) (thread : Thread) : Type 0 where
  -- nothing can be both written and executed
  pub apart : IsApart shared.memory
  -- where something is noted, the flag is set
  pub flag_set : thread.flag ≡ false → thread.noted ≡ []
  pub by_place : PlaceKeeps thread.place thread.flag
  pub at_call : CallKeeps shared thread.regs thread.place

abbrev pub EachKeeps : Shared → List (Member Thread) → Type 0
EachKeeps shared [] = Unit {0}
EachKeeps shared (member ∷ members) = KeepsThread shared member.self × EachKeeps shared members

-- ---- what the end of each event sees to

abbrev pub has_id : List Instance → ℕ → Bool
has_id instances id = list_any (λ instance. instance.id == id) instances

-- each id is that of an instance
abbrev pub all_have : List ℕ → List Instance → Bool
all_have ids instances = list_all (has_id instances) ids

-- what is noted is due
abbrev pub NotedDue : Shared → List (Member Thread) → Type 0
NotedDue shared [] = Unit {0}
NotedDue shared (member ∷ members) = (all_have member.self.noted (due member.id shared.queue) ≡ true) × NotedDue shared members

-- ---- ids

-- they rise, from a bound on: so each is another
abbrev pub IdsRise : ℕ → List (Member Thread) → Type 0
IdsRise low [] = Unit {0}
IdsRise low (member ∷ members) = (low ≤ member.id) × IdsRise (member.id + 1) members

pub record Keeps (machine : Machine) : Type 0 where
  pub each : EachKeeps machine.shared machine.members
  pub noted_due : NotedDue machine.shared machine.members
  pub ids_rise : IdsRise 0 machine.members
