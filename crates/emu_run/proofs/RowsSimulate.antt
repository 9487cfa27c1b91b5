-- Each row's label leads from what is shown before it to what is shown after it. No call is opened.
use Rattle.std.proofs.Common.{◌≡◌, ℕ, Bool, true, false, ℤ, List, [], Option, Some, None, refl, ap}
use Rattle.guest_core.specs.declared.calls.CallOutcome.{CallOutcome}
use Rattle.guest_core.specs.declared.calls.CallOutcome.TheVariants.{Answers, Ends}
use Rattle.guest_core.specs.declared.places.Place.{Place}
use Rattle.guest_core.specs.declared.places.Place.TheVariants.{Loop, Start, Window, Done}
use Rattle.host_calls.specs.declared.queue.Instance.{Instance}
use Rattle.host_calls.specs.Queue.{first_of}
use Rattle.host_calls.specs.Shared.{Shared}
use Rattle.isa_step.specs.Instruction.{Calls, Faults, InstructionOutcome, Runs, instruction}
use Rattle.guest_core.specs.Call.{called}
use Rattle.guest_core.specs.Kept.{KeepsThread}
use Rattle.guest_core.specs.Machine.{Thread}
use Rattle.guest_core.specs.Rows.{Row, Note, Take, ClearFlag, Execute, Check, Enter, Return, row_of, done, noted, taken, flag_cleared, after_instruction, executed, checked, after_call, entered, returned}
use Rattle.guest_core.specs.System.{After, Context, after_shown, context_shown, stays}
use Rattle.guest_core.proofs.RowCases.{Cases, KeptAt, Seen, at, dues, of_row}
use Rattle.guest_core.proofs.SystemFacts.{same_id}
use Rattle.linux_model.specs.declared.labels.Label.{Label}
use Rattle.linux_model.specs.declared.labels.Label.TheVariants as label
use Rattle.linux_model.specs.Process.{Task}
use Rattle.linux_model.specs.Steps as process
use Rattle.emu_run.specs.View.{shown}
use Rattle.emu_run.specs.Labels.{instruction_label, row_label}

-- what a thread's label does
abbrev pub acted_by : Label → Context Task → Option (After Task)
acted_by (label.Instr thread) context = process.makes_instruction context
acted_by (label.Call thread) context = process.makes_call context
acted_by (label.Take thread id) context = process.takes id context
acted_by label.Tick context = None

abbrev pub acts : Option Label → Context Task → Option (After Task)
acts None context = Some (stays context.shared context.self)
acts (Some one) context = acted_by one context

abbrev pub before : Context Thread → Context Task
before context = context_shown shown context

abbrev pub later : After Thread → After Task
later after = after_shown shown after

abbrev pub Simulates : Row → Context Thread → Type 0
Simulates row context = acts (row_label row context) (before context) ≡ Some (later (done row context))

note_simulates : (by : Seen) (place : Place) (flag : Bool) (ids : List ℕ) (instance : Instance) → Simulates (Note instance) (at by place flag ids)
unfolding noted
note_simulates by Loop flag ids instance = refl
note_simulates by Start flag ids instance = refl
note_simulates by Window flag ids instance = refl
note_simulates by (Done answer) flag ids instance = refl

take_simulates : (by : Seen) (ids : List ℕ) (instance : Instance) → first_of (dues by) ≡ Some instance → Simulates (Take instance) (at by Loop true ids)
unfolding taken process.takes
take_simulates by ids instance is = rw (is, same_id instance.id) refl

clear_simulates : (by : Seen) → Simulates ClearFlag (at by Loop true [])
unfolding flag_cleared
clear_simulates by = refl

execute_by : (what : InstructionOutcome) (by : Seen) → instruction by.id by.regs by.shared.memory by.shared.held ≡ what → dues by ≡ [] → acts (instruction_label by.id what) (before (at by Loop false [])) ≡ Some (later (after_instruction what (at by Loop false [])))
unfolding process.makes_instruction
execute_by (Runs regs memory held) by is none = rw (none, is) refl
execute_by Calls by is none = refl
execute_by (Faults fault) by is none = rw (none, is) refl

execute_simulates : (by : Seen) → dues by ≡ [] → Simulates Execute (at by Loop false [])
unfolding executed
execute_simulates by none = execute_by (instruction by.id by.regs by.shared.memory by.shared.held) by refl none

check_simulates : (by : Seen) (flag : Bool) (ids : List ℕ) → Simulates Check (at by Start flag ids)
unfolding checked
check_simulates by true ids = refl
check_simulates by false ids = refl

call_shows : (outcome : CallOutcome) (shared : Shared) (by : Seen) → process.outcome_done outcome shared (before (at by Window false [])) ≡ later (after_call outcome shared (at by Window false []))
call_shows (Answers answer) shared by = refl
call_shows (Ends end) shared by = refl

enter_simulates : (by : Seen) → KeptAt by Window false [] → dues by ≡ [] → Simulates Enter (at by Window false [])
unfolding entered process.makes_call
enter_simulates by keeps none =
    let made = called by.id by.regs by.shared in
    rw (none, keeps.at_call by.id) (ap (λ (a : After Task). Some a) (call_shows made.outcome made.shared by))

return_simulates : (by : Seen) (answer : ℤ) (flag : Bool) (ids : List ℕ) → Simulates (Return answer) (at by (Done answer) flag ids)
unfolding returned
return_simulates by answer flag ids = refl

simulations : Cases Simulates
simulations = record {
  notes = λ by place flag ids instance keeps is. note_simulates by place flag ids instance;
  takes = λ by ids instance keeps is. take_simulates by ids instance is;
  clears = λ by keeps. clear_simulates by;
  executes = λ by keeps none. execute_simulates by none;
  checks = λ by flag ids keeps. check_simulates by flag ids;
  enters = λ by keeps none. enter_simulates by keeps none;
  returns = λ by answer flag ids keeps. return_simulates by answer flag ids;
}

pub row_simulates : (context : Context Thread) (row : Row) → KeepsThread context.shared context.self → row_of context ≡ Some row → Simulates row context
row_simulates context row keeps fits = of_row Simulates simulations context row keeps fits
