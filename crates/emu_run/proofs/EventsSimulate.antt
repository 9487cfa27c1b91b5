-- Each event's labels are steps of the process machine, from the view before it to the view after it; and so are those of a
-- list of events.
use Rattle.std.proofs.Common.{◌≡◌, ℕ, cond, is_none, List, [], ◌∷◌, ◌++◌, map, Option, Some, None, refl, ap, sym, ◌∙◌}
use Rattle.std.specs.Option.{option_map}
use Rattle.guest_core.specs.declared.ends.End.{End}
use Rattle.guest_core.specs.declared.events.Event.{Event}
use Rattle.guest_core.specs.declared.events.Event.TheVariants.{Step}
use Rattle.file_table.specs.State.{Files}
use Rattle.host_calls.specs.Shared.{Shared}
use Rattle.isa_step.specs.Instruction.{Calls, Faults, InstructionOutcome, Runs}
use Rattle.guest_core.specs.Event.{event_after, run, settled, thread_settled, ticked}
use Rattle.guest_core.specs.Kept.{Keeps}
use Rattle.guest_core.specs.Machine.{Machine, Thread}
use Rattle.guest_core.specs.Rows.{Row, Note, Take, ClearFlag, Execute, Check, Enter, Return, done, instruction_of, row_of}
use Rattle.guest_core.specs.Start.{Program, started}
use Rattle.guest_core.specs.System.{After, Context, Member, after_shown, context_of, found, member_shown, put, stays}
use Rattle.guest_core.proofs.EventCases.{happened}
use Rattle.guest_core.proofs.EventsKeep.{event_keeps, found_keeps, ticked_keeps}
use Rattle.guest_core.proofs.SystemFacts.{found_shown, put_shown, put_stays}
use Rattle.linux_model.specs.declared.labels.Label.{Label}
use Rattle.linux_model.specs.declared.labels.Label.TheVariants as label
use Rattle.linux_model.specs.Process.{ProcessState, Task, begun}
use Rattle.linux_model.specs.Steps as process
use Rattle.linux_model.proofs.FollowFacts.{follow_append}
use Rattle.emu_run.specs.View.{shown, view}
use Rattle.emu_run.specs.Labels.{at_most, instruction_label, label_by, labels_of, row_label, run_labels, step_label}
use Rattle.emu_run.proofs.RowsSimulate.{acted_by, acts, row_simulates}

-- ---- the labels of a step are its thread's

abbrev IsOf : ℕ → Label → Type 0
IsOf id (label.Instr thread) = thread ≡ id
IsOf id (label.Call thread) = thread ≡ id
IsOf id (label.Take thread instance) = thread ≡ id
IsOf id label.Tick = ⊥

abbrev AreOf : ℕ → Option Label → Type 0
AreOf id None = Unit {0}
AreOf id (Some one) = IsOf id one

instruction_of_it : (id : ℕ) (what : InstructionOutcome) → AreOf id (instruction_label id what)
instruction_of_it id (Runs regs memory held) = refl
instruction_of_it id Calls = tt
instruction_of_it id (Faults fault) = refl

label_of_it : (row : Row) (context : Context Thread) → AreOf context.id (row_label row context)
label_of_it (Note instance) context = tt
label_of_it (Take instance) context = refl
label_of_it ClearFlag context = tt
label_of_it Execute context = instruction_of_it context.id (instruction_of context)
label_of_it Check context = tt
label_of_it Enter context = refl
label_of_it (Return answer) context = tt

-- ---- a thread's label, of the process

module _ (id : ℕ) (task : Task) (system : ProcessState) (after : After Task) (here : found id system.members ≡ Some task) where
  by_this : (act : Context Task → Option (After Task)) (named : ℕ) → named ≡ id → act (context_of id task system) ≡ Some after → process.by_task named act (found named system.members) system ≡ Some (put id after system)
  by_this act named this is =
      ap (λ (n : ℕ). process.by_task n act (found n system.members) system) this
      ∙ ap (λ (f : Option Task). process.by_task id act f system) here
      ∙ ap (λ (a : Option (After Task)). process.gone_on id a system) is

  allowed_by : (one : Label) → IsOf id one → acted_by one (context_of id task system) ≡ Some after → process.allowed one system ≡ Some (put id after system)
  allowed_by (label.Instr named) this is = by_this process.makes_instruction named this is
  allowed_by (label.Call named) this is = by_this process.makes_call named this is
  allowed_by (label.Take named instance) this is = by_this (process.takes instance) named this is
  allowed_by label.Tick this is = absurd this

step_is : (one : Label) (system : ProcessState) → system.end ≡ None → process.step system one ≡ process.allowed one system
unfolding process.step
step_is one system lives = ap (λ (e : Option End). cond (is_none e) (process.allowed one system) None) lives

follows : (one : Option Label) (id : ℕ) (task : Task) (system : ProcessState) (after : After Task) → system.end ≡ None → found id system.members ≡ Some task → AreOf id one → acts one (context_of id task system) ≡ Some after → process.follow (Some system) (at_most one) ≡ Some (put id after system)
follows None id task system after lives here this is =
    let equal : stays system.shared task ≡ after = cc in
    ap (λ (s : ProcessState). Some s) (sym (put_stays id task system lives here))
    ∙ ap (λ (a : After Task). Some (put id a system)) equal
follows (Some one) id task system after lives here this is = step_is one system lives ∙ allowed_by id task system after here one this is

-- ---- an event's labels

row_follows : (id : ℕ) (now : Machine) (thread : Thread) (row : Row) → now.end ≡ None → acts (row_label row (context_of id thread now)) (context_of id (shown thread) (view now)) ≡ Some (after_shown shown (done row (context_of id thread now))) → found id now.members ≡ Some thread → process.follow (Some (view now)) (at_most (row_label row (context_of id thread now))) ≡ Some (view (put id (done row (context_of id thread now)) now))
row_follows id now thread row lives simulates here =
    let context = context_of id thread now in
    follows (row_label row context) id (shown thread) (view now) (after_shown shown (done row context)) lives
    (found_shown shown id now.members ∙ ap (option_map shown) here)
    (label_of_it row context)
    simulates
    ∙ ap (λ (s : ProcessState). Some s) (sym (put_shown shown id (done row context) now))

label_is : (id : ℕ) (now : Machine) (thread : Thread) (row : Row) → found id now.members ≡ Some thread → row_of (context_of id thread now) ≡ Some row → step_label id now (found id now.members) ≡ row_label row (context_of id thread now)
label_is id now thread row here fits =
    ap (step_label id now) here ∙ ap (λ (r : Option Row). label_by r (context_of id thread now)) fits

tick_is : (machine : Machine) → machine.end ≡ None → process.goes_on (Some (view machine)) label.Tick ≡ Some (view (ticked machine))
unfolding ticked
tick_is machine lives = step_is label.Tick (view machine) lives

ticked_lives : (machine : Machine) → machine.end ≡ None → (ticked machine).end ≡ None
unfolding ticked
ticked_lives machine lives = lives

settle_shows : (members : List (Member Thread)) (shared : Shared) → map (member_shown shown) (map (thread_settled shared) members) ≡ map (member_shown shown) members
settle_shows [] shared = refl
settle_shows (member ∷ members) shared = ap (λ (ms : List (Member Task)). member_shown shown member ∷ ms) (settle_shows members shared)

settled_shows : (machine : Machine) → view (settled machine) ≡ view machine
unfolding settled
settled_shows machine = ap (λ (ms : List (Member Task)). let p : ProcessState = record { shared = machine.shared; members = ms; end = machine.end } in p) (settle_shows machine.members machine.shared)

event_simulates : (event : Event) (old new : Machine) → Keeps old → event_after old event ≡ Some new → process.follow (Some (view old)) (labels_of old event) ≡ Some (view new)
unfolding labels_of
event_simulates (Step id) old new keeps same =
    let was = happened id old new same in
    let now = ticked old in
    let context = context_of id was.thread now in
    let kept = found_keeps id now.members now.shared was.thread (ticked_keeps old keeps.each) was.here in
    ap (λ (s : Option ProcessState). process.follow s (at_most (step_label id now (found id now.members)))) (tick_is old was.lives)
    ∙ ap (λ (one : Option Label). process.follow (Some (view now)) (at_most one)) (label_is id now was.thread was.row was.here was.fits)
    ∙ row_follows id now was.thread was.row (ticked_lives old was.lives) (row_simulates context was.row kept was.fits) was.here
    ∙ ap (λ (s : ProcessState). Some s) (sym (settled_shows (put id (done was.row context) now)))
    ∙ ap (λ (m : Machine). Some (view m)) (sym was.next_is)

-- ---- a run

run_none : (events : List Event) → run None events ≡ None
run_none [] = refl
run_none (event ∷ events) = run_none events

run_by : (next : Option Machine) (event : Event) (events : List Event) (first last : Machine) → event_after first event ≡ next → Keeps first → ((middle : Machine) → Keeps middle → run (Some middle) events ≡ Some last → process.follow (Some (view middle)) (run_labels (Some middle) events) ≡ Some (view last)) → run next events ≡ Some last → process.follow (Some (view first)) (labels_of first event ++ run_labels next events) ≡ Some (view last)
run_by None event events first last is keeps rest ran = let none = run_none events in cc
run_by (Some middle) event events first last is keeps rest ran =
    follow_append (Some (view first)) (labels_of first event) (run_labels (Some middle) events)
    ∙ ap (λ state. process.follow state (run_labels (Some middle) events)) (event_simulates event first middle keeps is)
    ∙ rest middle (event_keeps event first middle keeps is) ran

-- The labels of a run's events are a run of the process machine, and its last state is the view of the core's.
pub run_simulates : (events : List Event) (first last : Machine) → Keeps first → run (Some first) events ≡ Some last → process.follow (Some (view first)) (run_labels (Some first) events) ≡ Some (view last)
run_simulates [] first last keeps ran = ap (λ (m : Machine). Some (view m)) (let same : first ≡ last = cc in same)
run_simulates (event ∷ events) first last keeps ran = run_by (event_after first event) event events first last refl keeps (λ middle kept on. run_simulates events middle last kept on) ran

start_shows : (program : Program) (files : Files) → view (started program files) ≡ begun program files
unfolding started begun
start_shows program files = refl

-- the same from the start of a file
pub start_simulates : (program : Program) (files : Files) (events : List Event) (last : Machine) → Keeps (started program files) → run (Some (started program files)) events ≡ Some last → process.follow (Some (begun program files)) (run_labels (Some (started program files)) events) ≡ Some (view last)
start_simulates program files events last keeps ran =
    ap (λ (p : ProcessState). process.follow (Some p) (run_labels (Some (started program files)) events)) (sym (start_shows program files))
    ∙ run_simulates events (started program files) last keeps ran
