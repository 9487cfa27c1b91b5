-- What the code's state stands for.
use Rattle.std.specs.Prelude.{◌≡◌, ℕ, zero, suc, List, [], map, Option, None, Some}
use Rattle.guest_core.specs.declared.ends.End.{End}
use Rattle.guest_core.specs.declared.state.State.{State}
use Rattle.guest_core.specs.declared.thread.Thread as code
use Rattle.guest_core.specs.Machine.{Thread, Machine}
use Rattle.guest_core.specs.System.{After, Context, Member}
use Rattle.host_calls.specs.declared.host.Host.{Host}
use Rattle.host_calls.specs.declared.queue.Instance.{Instance}
use Rattle.host_calls.specs.Host.{shared_of}
use Rattle.host_calls.specs.Marks.{IsSettled, Marked, first_new, noted_of, still_noted}
use Rattle.host_calls.specs.Queue.{due, first_of}
use Rattle.std.specs.Option.{option_map}
use Rattle.guest_core.specs.Rows.{done, due_now, instruction_of, noted, row_of, taken}
use Rattle.guest_pages.specs.Ranges.{Range}
use Rattle.host_calls.specs.Shared.{later}
use Rattle.isa_exec.specs.Registers.{Registers}
use Rattle.isa_step.specs.Instruction.{Runs}
use Rattle.word_memory.specs.declared.reservations.Held.{Held}

-- what a thread has noted stands as marks on what is pending
abbrev pub self_of : Marked → code.Thread → Thread
self_of pending thread = record {
  regs = thread.regs;
  place = thread.place;
  flag = thread.flag;
  noted = noted_of thread.id pending;
}

abbrev pub member_of : Marked → code.Thread → Member Thread
member_of pending thread = record { id = thread.id; self = self_of pending thread }

abbrev pub context : Host → code.Thread → Context Thread
context host thread = record { shared = shared_of host; id = thread.id; self = self_of host.pending thread }

-- a thread that goes on so, and the end
abbrev pub goes_on : Host → code.Thread → Option End → After Thread
goes_on host thread end = record { shared = shared_of host; self = Some (self_of host.pending thread); added = []; end = end }

abbrev pub machine : State → Machine
machine state = record {
  shared = shared_of state.host;
  members = map (member_of state.host.pending) state.threads.items;
  end = state.end;
}

-- ---- what a step gives, as far as it is still due

abbrev pub still_due : List Instance → Option Thread → Option Thread
still_due instances None = None
still_due instances (Some thread) = Some (record thread { noted = still_noted thread.noted instances })

abbrev pub settled_after : ℕ → After Thread → After Thread
settled_after id after = record after { self = still_due (due id after.shared.queue) after.self }

-- the row that fits is done, none where none fits
abbrev pub row_after : Context Thread → Option (After Thread)
row_after context = option_map (λ row. settled_after context.id (done row context)) (row_of context)

-- ---- what rows come to

-- what is noted by each thread is due to it
abbrev pub AllSettled : Marked → Type 0
AllSettled pending = (of : ℕ) → IsSettled of pending pending

-- the first due signal that isn't noted was noted
pub record NotesDue (old : Context Thread) (after : After Thread) : Type 0 where
  pub instance : Instance
  pub first : first_new (due_now old) old.self.noted ≡ Some instance
  pub is : settled_after old.id (noted instance old) ≡ after

-- the first due signal was taken
pub record TakesDue (old : Context Thread) (after : After Thread) : Type 0 where
  pub instance : Instance
  pub first : first_of (due_now old) ≡ Some instance
  pub is : settled_after old.id (taken instance old) ≡ after

-- a plain instruction was made, and time went on
pub record MadePlain (old : Host) (was : code.Thread) (next : Host) (new : code.Thread) : Type 0 where
  pub regs : Registers
  pub memory : List Range
  pub held : List Held
  pub runs : instruction_of (context old was) ≡ Runs regs memory held
  pub new_is : new ≡ record was { regs = regs }
  pub shared_is : shared_of next ≡ record (later (shared_of old)) { memory = memory; held = held }
  pub pending : next.pending ≡ old.pending

-- so many plain instructions were made, one behind another
abbrev pub PlainRun : ℕ → Host → code.Thread → Host → code.Thread → Type 0
PlainRun zero old was next new = (next ≡ old) × (new ≡ was)
PlainRun (suc count) old was next new =
    (middle : Host) × (between : code.Thread) × PlainRun count old was middle between × MadePlain middle between next new
