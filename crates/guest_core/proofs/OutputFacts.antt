-- That outputs only grow, at most one of them in an event, and that devices only die.
use Rattle.file_table.specs.State.{OnlyDie, outputs_of}
use Rattle.std.proofs.Common.{◌≡◌, ℕ, Some, refl, sym, subst}
use Rattle.guest_core.specs.declared.calls.CallOutcome.{CallOutcome}
use Rattle.guest_core.specs.declared.calls.CallOutcome.TheVariants.{Answers, Ends}
use Rattle.guest_core.specs.declared.events.Event.{Event}
use Rattle.guest_core.specs.declared.events.Event.TheVariants.{Step}
use Rattle.host_calls.specs.Owes.{Grows}
use Rattle.host_calls.specs.Shared.{Shared}
use Rattle.host_calls.proofs.Shapes.{same_grows}
use Rattle.isa_step.specs.Instruction.{Calls, Faults, InstructionOutcome, Runs}
use Rattle.guest_core.specs.Call.{called}
use Rattle.guest_core.specs.Event.{event_after, settled, ticked}
use Rattle.guest_core.specs.Machine.{Machine, Thread}
use Rattle.guest_core.specs.Rows.{Row, Note, Take, ClearFlag, Execute, Check, Enter, Return, done, noted, taken, flag_cleared, after_instruction, executed, checked, after_call, entered, instruction_of, returned}
use Rattle.guest_core.specs.System.{Context, context_of, put}
use Rattle.guest_core.proofs.CallFacts.{called_owes}
use Rattle.guest_core.proofs.EventCases.{happened}

call_shared : (outcome : CallOutcome) (shared : Shared) (context : Context Thread) → (after_call outcome shared context).shared ≡ shared
call_shared (Answers answer) shared context = refl
call_shared (Ends end) shared context = refl

instruction_same : (outcome : InstructionOutcome) (context : Context Thread) → (outputs_of (after_instruction outcome context).shared.files) ≡ (outputs_of context.shared.files)
instruction_same (Runs regs memory held) context = refl
instruction_same Calls context = refl
instruction_same (Faults fault) context = refl

row_grows : (row : Row) (context : Context Thread) → Grows (outputs_of context.shared.files) (outputs_of (done row context).shared.files)
unfolding noted taken flag_cleared executed checked entered returned
row_grows (Note instance) context = same_grows _ _ refl
row_grows (Take instance) context = same_grows _ _ refl
row_grows ClearFlag context = same_grows _ _ refl
row_grows Execute context = same_grows _ _ (instruction_same (instruction_of context) context)
row_grows Check context = same_grows _ _ refl
row_grows Enter context =
    let made = called context.id context.self.regs context.shared in
    subst (λ (shared : Shared). Grows (outputs_of context.shared.files) (outputs_of shared.files)) (sym (call_shared made.outcome made.shared context)) (called_owes context.id context.self.regs context.shared).outputs
row_grows (Return answer) context = same_grows _ _ refl

step_grows : (id : ℕ) (thread : Thread) (row : Row) (machine : Machine) → Grows (outputs_of machine.shared.files) (outputs_of (settled (put id (done row (context_of id thread (ticked machine))) (ticked machine))).shared.files)
unfolding settled ticked
step_grows id thread row machine = row_grows row (context_of id thread (ticked machine))

pub event_grows : (event : Event) (machine next : Machine) → event_after machine event ≡ Some next → Grows (outputs_of machine.shared.files) (outputs_of next.shared.files)
event_grows (Step id) machine next is =
    let was = happened id machine next is in
    subst (λ (m : Machine). Grows (outputs_of machine.shared.files) (outputs_of m.shared.files)) (sym was.next_is) (step_grows id was.thread was.row machine)

-- ---- devices

instruction_dies : (outcome : InstructionOutcome) (context : Context Thread) → OnlyDie context.shared.files.devices (after_instruction outcome context).shared.files.devices
instruction_dies (Runs regs memory held) context = λ device lives. lives
instruction_dies Calls context = λ device lives. lives
instruction_dies (Faults fault) context = λ device lives. lives

row_dies : (row : Row) (context : Context Thread) → OnlyDie context.shared.files.devices (done row context).shared.files.devices
unfolding noted taken flag_cleared executed checked entered returned
row_dies (Note instance) context = λ device lives. lives
row_dies (Take instance) context = λ device lives. lives
row_dies ClearFlag context = λ device lives. lives
row_dies Execute context = instruction_dies (instruction_of context) context
row_dies Check context = λ device lives. lives
row_dies Enter context =
    let made = called context.id context.self.regs context.shared in
    subst (λ (shared : Shared). OnlyDie context.shared.files.devices shared.files.devices) (sym (call_shared made.outcome made.shared context)) (called_owes context.id context.self.regs context.shared).lives
row_dies (Return answer) context = λ device lives. lives

step_dies : (id : ℕ) (thread : Thread) (row : Row) (machine : Machine) → OnlyDie machine.shared.files.devices (settled (put id (done row (context_of id thread (ticked machine))) (ticked machine))).shared.files.devices
unfolding settled ticked
step_dies id thread row machine = row_dies row (context_of id thread (ticked machine))

pub event_dies : (event : Event) (machine next : Machine) → event_after machine event ≡ Some next → OnlyDie machine.shared.files.devices next.shared.files.devices
event_dies (Step id) machine next is =
    let was = happened id machine next is in
    subst (λ (m : Machine). OnlyDie machine.shared.files.devices m.shared.files.devices) (sym was.next_is) (step_dies id was.thread was.row machine)
