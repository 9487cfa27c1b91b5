-- The labels of the process machine that an event of the emulator makes: a tick, and by its row at most one more.
-- The project's own.
use Rattle.std.specs.Prelude.{ℕ, List, [], ◌∷◌, ◌++◌, Option, Some, None}
use Rattle.guest_core.specs.declared.events.Event.{Event}
use Rattle.guest_core.specs.declared.events.Event.TheVariants.{Step}
use Rattle.guest_core.specs.Event.{event_after, ticked}
use Rattle.isa_step.specs.Instruction.{Calls, Faults, InstructionOutcome, Runs}
use Rattle.guest_core.specs.Machine.{Machine, Thread}
use Rattle.guest_core.specs.Rows as rows
use Rattle.guest_core.specs.System.{Context, context_of, found}
use Rattle.linux_model.specs.declared.labels.Label.{Label}
use Rattle.linux_model.specs.declared.labels.Label.TheVariants.{Instr, Call, Take, Tick}

-- an instruction has a label, but none where an ecall leaves the loop
abbrev pub instruction_label : ℕ → InstructionOutcome → Option Label
instruction_label thread (Runs regs memory held) = Some (Instr thread)
instruction_label thread Calls = None
instruction_label thread (Faults fault) = Some (Instr thread)

abbrev pub row_label : rows.Row → Context Thread → Option Label
row_label (rows.Row.Note instance) context = None
row_label (rows.Row.Take instance) context = Some (Take context.id instance.id)
row_label rows.Row.ClearFlag context = None
row_label rows.Row.Execute context = instruction_label context.id (rows.instruction_of context)
row_label rows.Row.Check context = None
row_label rows.Row.Enter context = Some (Call context.id)
row_label (rows.Row.Return answer) context = None

abbrev pub at_most : Option Label → List Label
at_most None = []
at_most (Some one) = one ∷ []

abbrev pub label_by : Option rows.Row → Context Thread → Option Label
label_by None context = None
label_by (Some row) context = row_label row context

-- of a thread's step
abbrev pub step_label : ℕ → Machine → Option Thread → Option Label
step_label id machine None = None
step_label id machine (Some thread) = label_by (rows.row_of (context_of id thread machine)) (context_of id thread machine)

abbrev pub acted_labels : Event → Machine → List Label
acted_labels (Step id) machine = at_most (step_label id machine (found id machine.members))

unfoldable pub labels_of : Machine → Event → List Label
labels_of machine event = Tick ∷ acted_labels event (ticked machine)

-- the labels of a run's events
abbrev pub run_labels : Option Machine → List Event → List Label
run_labels state [] = []
run_labels None (event ∷ events) = []
run_labels (Some machine) (event ∷ events) = labels_of machine event ++ run_labels (event_after machine event) events
