-- A thread's step: which row fits its state, and what each row does. A row is a condition and an effect; the first that
-- fits is done.
-- The project's own, after the safe system calls of QEMU's linux-user.
use Rattle.std.specs.Prelude.{◌≡◌, ◌⊎◌, ◌&&◌, ◌+◌, ◌<◌, ◌^◌, true, false, not, if◌then◌else◌, ℤ, [], ◌∷◌, ◌++◌, List, Option, Some, None}
use Rattle.std.specs.Option.{option_map}
use Rattle.guest_core.specs.declared.places.Place.{Place}
use Rattle.guest_core.specs.declared.places.Place.TheVariants.{Loop, Start, Window, Done}
use Rattle.host_calls.specs.declared.queue.Instance.{Instance}
use Rattle.host_calls.specs.Marks.{first_new}
use Rattle.isa_step.specs.Instruction.{Calls, Faults, InstructionOutcome, IsFaultless, Runs, instruction}
use Rattle.guest_core.specs.Call.{Called, answered, called}
use Rattle.guest_core.specs.declared.calls.CallOutcome.{CallOutcome}
use Rattle.guest_core.specs.declared.calls.CallOutcome.TheVariants.{Answers, Ends}
use Rattle.guest_core.specs.Machine.{Thread}
use Rattle.guest_core.specs.Signals.{end_of_taking}
use Rattle.guest_core.specs.System.{After, Context, ends, stays}
use Rattle.host_calls.specs.Queue.{sent_forced, taken_out, due, first_of, is_empty}
use Rattle.host_calls.specs.Shared.{Shared}

pub data Row : Type 0 where
  Note : Instance → Row
  Take : Instance → Row
  ClearFlag : Row
  Execute : Row
  Check : Row
  Enter : Row
  Return : ℤ → Row

-- the signals that act on the thread next
abbrev pub due_now : Context Thread → List Instance
due_now context = due context.id context.shared.queue

-- ---- the rows: none where it doesn't fit

-- a due signal isn't noted
unfoldable pub note_row : Context Thread → Option Row
note_row context = option_map Note (first_new (due_now context) context.self.noted)

abbrev pub take_at : Place → Context Thread → Option Row
take_at Loop context = option_map Take (first_of (due_now context))
take_at Start context = None
take_at Window context = None
take_at (Done answer) context = None

-- the flag is set, and a signal is noted: the first is taken
unfoldable pub take_row : Context Thread → Option Row
take_row context =
    if context.self.flag && not (is_empty context.self.noted) then take_at context.self.place context else None

abbrev pub clear_at : Place → Option Row
clear_at Loop = Some ClearFlag
clear_at Start = None
clear_at Window = None
clear_at (Done answer) = None

-- the flag is set, and nothing is noted
unfoldable pub clear_row : Context Thread → Option Row
clear_row context =
    if context.self.flag && is_empty context.self.noted then clear_at context.self.place else None

abbrev pub execute_at : Place → Option Row
execute_at Loop = Some Execute
execute_at Start = None
execute_at Window = None
execute_at (Done answer) = None

-- the flag is clear
unfoldable pub execute_row : Context Thread → Option Row
execute_row context = if context.self.flag then None else execute_at context.self.place

abbrev pub check_at : Place → Option Row
check_at Loop = None
check_at Start = Some Check
check_at Window = None
check_at (Done answer) = None

unfoldable pub check_row : Context Thread → Option Row
check_row context = check_at context.self.place

abbrev pub enter_at : Place → Option Row
enter_at Loop = None
enter_at Start = None
enter_at Window = Some Enter
enter_at (Done answer) = None

unfoldable pub enter_row : Context Thread → Option Row
enter_row context = enter_at context.self.place

abbrev pub return_at : Place → Option Row
return_at Loop = None
return_at Start = None
return_at Window = None
return_at (Done answer) = Some (Return answer)

unfoldable pub return_row : Context Thread → Option Row
return_row context = return_at context.self.place

abbrev pub or_else : Option Row → Option Row → Option Row
or_else (Some row) other = Some row
or_else None other = other

-- the first row that fits
unfoldable pub row_of : Context Thread → Option Row
row_of context =
    or_else (note_row context)
    (or_else (take_row context)
    (or_else (clear_row context)
    (or_else (execute_row context)
    (or_else (check_row context)
    (or_else (enter_row context) (return_row context))))))

-- ---- what the rows do

-- a thread in the window goes back to the check
abbrev pub noted_at : Place → Place
noted_at Window = Start
noted_at Loop = Loop
noted_at Start = Start
noted_at (Done answer) = Done answer

-- the signal is noted, and the flag is set
unfoldable pub noted : Instance → Context Thread → After Thread
noted instance context = stays context.shared (record context.self {
  noted = context.self.noted ++ instance.id ∷ [];
  flag = true;
  place = noted_at context.self.place;
})

-- the signal is taken (that it is noted no more is seen to at the event's end)
unfoldable pub taken : Instance → Context Thread → After Thread
taken instance context =
    ends (record context.shared { queue = taken_out instance context.shared.queue }) context.self (end_of_taking instance)

unfoldable pub flag_cleared : Context Thread → After Thread
flag_cleared context = stays context.shared (record context.self { flag = false })

abbrev pub after_instruction : InstructionOutcome → Context Thread → After Thread
after_instruction (Runs regs memory held) context =
    stays (record context.shared { memory = memory; held = held }) (record context.self { regs = regs })
after_instruction Calls context = stays context.shared (record context.self { place = Start })
after_instruction (Faults fault) context =
    stays (record context.shared { queue = sent_forced context.id fault context.shared.queue }) context.self

-- what the thread's instruction does
abbrev pub instruction_of : Context Thread → InstructionOutcome
instruction_of context =
    instruction context.id context.self.regs context.shared.memory context.shared.held

unfoldable pub executed : Context Thread → After Thread
executed context = after_instruction (instruction_of context) context

-- the check looks at the flag
unfoldable pub checked : Context Thread → After Thread
checked context = stays context.shared (record context.self { place = if context.self.flag then Loop else Window })

abbrev pub after_call : CallOutcome → Shared → Context Thread → After Thread
after_call (Answers answer) shared context = stays shared (record context.self { place = Done answer })
after_call (Ends end) shared context = ends shared context.self end

abbrev pub after_called : Called → Context Thread → After Thread
after_called made context = after_call made.outcome made.shared context

-- the host is entered
unfoldable pub entered : Context Thread → After Thread
entered context = after_called (called context.id context.self.regs context.shared) context

-- the answer reaches the registers
unfoldable pub returned : ℤ → Context Thread → After Thread
returned answer context = stays context.shared (record context.self { regs = answered answer context.self.regs; place = Loop })

abbrev pub done : Row → Context Thread → After Thread
done (Note instance) context = noted instance context
done (Take instance) context = taken instance context
done ClearFlag context = flag_cleared context
done Execute context = executed context
done Check context = checked context
done Enter context = entered context
done (Return answer) context = returned answer context

-- ---- which steps take no memory

abbrev pub RowIsSteady : Row → Context Thread → Type 0
RowIsSteady (Note instance) context = Unit {0}
RowIsSteady (Take instance) context = Unit {0}
RowIsSteady ClearFlag context = Unit {0}
RowIsSteady Execute context =
    IsFaultless (instruction_of context) ⊎ ((context.shared.queue.next_id + 1 < 2 ^ 64) × (context.shared.queue.pending ≡ []))
RowIsSteady Check context = Unit {0}
RowIsSteady Enter context = ⊥
RowIsSteady (Return answer) context = Unit {0}

abbrev pub StepIsSteady : Option Row → Context Thread → Type 0
StepIsSteady None context = ⊥
StepIsSteady (Some row) context = RowIsSteady row context

-- a row fits, and it makes no call, and has an id left and no other instance beside it where it meets a fault
abbrev pub IsSteady : Context Thread → Type 0
IsSteady context = StepIsSteady (row_of context) context
