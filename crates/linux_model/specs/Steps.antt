-- Which labels a process allows, and what each does. None is allowed after the end.
-- Source: signal(7): pending signals are taken before the thread goes on in its program. The labels are the project's
-- own.
use Rattle.std.specs.Prelude.{ℕ, ◌==◌, if◌then◌else◌, List, [], ◌∷◌, Option, Some, None, is_none}
use Rattle.host_calls.specs.declared.queue.Instance.{Instance}
use Rattle.guest_core.specs.Call.{Called, answered, called}
use Rattle.guest_core.specs.declared.calls.CallOutcome.{CallOutcome}
use Rattle.guest_core.specs.declared.calls.CallOutcome.TheVariants.{Answers, Ends}
use Rattle.guest_core.specs.Signals.{end_of_taking}
use Rattle.guest_core.specs.System.{After, Context, context_of, ends, found, put, stays, with_shared}
use Rattle.isa_step.specs.Instruction.{Calls, Faults, InstructionOutcome, Runs, instruction}
use Rattle.host_calls.specs.Queue.{sent_forced, taken_out, first_of, is_empty, due}
use Rattle.host_calls.specs.Shared.{Shared, later}
use Rattle.linux_model.specs.declared.labels.Label.{Label}
use Rattle.linux_model.specs.declared.labels.Label.TheVariants.{Instr, Call, Take, Tick}
use Rattle.linux_model.specs.Process.{ProcessState, Task}

-- ---- what a thread does

-- the signals that act on the thread next
abbrev pub due_now : Context Task → List Instance
due_now context = due context.id context.shared.queue

-- an instruction other than ecall is made; its fault sends a forced signal
abbrev pub instructed : InstructionOutcome → Context Task → Option (After Task)
instructed (Runs regs memory held) context =
    Some (stays (record context.shared { memory = memory; held = held }) (record { regs = regs }))
instructed Calls context = None
instructed (Faults fault) context =
    Some (stays (record context.shared { queue = sent_forced context.id fault context.shared.queue }) context.self)

-- a call was made: its answer reaches the registers, or the process ends
abbrev pub outcome_done : CallOutcome → Shared → Context Task → After Task
outcome_done (Answers answer) shared context = stays shared (record { regs = answered answer context.self.regs })
outcome_done (Ends end) shared context = ends shared context.self end

abbrev pub call_done : Called → Context Task → After Task
call_done made context = outcome_done made.outcome made.shared context

-- at an ecall, and at nothing else, a call is made
abbrev pub called_at : InstructionOutcome → Context Task → Option (After Task)
called_at Calls context = Some (call_done (called context.id context.self.regs context.shared) context)
called_at (Runs regs memory held) context = None
called_at (Faults fault) context = None

-- the first due signal, and no other, is taken
abbrev pub taken : Option Instance → ℕ → Context Task → Option (After Task)
taken None id context = None
taken (Some instance) id context =
    if instance.id == id then Some (ends (record context.shared { queue = taken_out instance context.shared.queue }) context.self (end_of_taking instance)) else None

-- what the thread's instruction does
abbrev pub instruction_of : Context Task → InstructionOutcome
instruction_of context = instruction context.id context.self.regs context.shared.memory context.shared.held

-- ---- the labels of a thread: instructions and calls wait until nothing is due

unfoldable pub makes_instruction : Context Task → Option (After Task)
makes_instruction context = if is_empty (due_now context) then instructed (instruction_of context) context else None

unfoldable pub makes_call : Context Task → Option (After Task)
makes_call context = if is_empty (due_now context) then called_at (instruction_of context) context else None

unfoldable pub takes : ℕ → Context Task → Option (After Task)
takes id context = taken (first_of (due_now context)) id context

-- ---- a process

abbrev pub gone_on : ℕ → Option (After Task) → ProcessState → Option ProcessState
gone_on id None process = None
gone_on id (Some after) process = Some (put id after process)

-- the thread does so, where it lives
abbrev pub by_task : ℕ → (Context Task → Option (After Task)) → Option Task → ProcessState → Option ProcessState
by_task id act None process = None
by_task id act (Some task) process = gone_on id (act (context_of id task process)) process

abbrev pub allowed : Label → ProcessState → Option ProcessState
allowed Tick process = Some (with_shared (later process.shared) process)
allowed (Instr thread) process = by_task thread makes_instruction (found thread process.members) process
allowed (Call thread) process = by_task thread makes_call (found thread process.members) process
allowed (Take thread id) process = by_task thread (takes id) (found thread process.members) process

-- the state after a label, none where it isn't allowed
unfoldable pub step : ProcessState → Label → Option ProcessState
step process label = if is_none process.end then allowed label process else None

abbrev pub goes_on : Option ProcessState → Label → Option ProcessState
goes_on (Some process) label = step process label
goes_on None label = None

-- the state after the labels, none where one isn't allowed after those before it
abbrev pub follow : Option ProcessState → List Label → Option ProcessState
follow state [] = state
follow state (label ∷ labels) = follow (goes_on state label) labels
