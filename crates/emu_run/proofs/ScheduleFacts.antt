-- Where one thread lives, each run is the schedule's.
use Rattle.std.proofs.Common.{◌≡◌, ℕ, zero, suc, ◌==◌, ◌+◌, ◌-◌, ◌≤◌, Bool, true, false, cond, is_some, List, [], ◌∷◌, ◌++◌, map, length, Option, Some, None, refl, ap, sym, ◌∙◌, append-nil, zero-add, arith}
use Rattle.guest_core.specs.declared.ends.End.{End}
use Rattle.guest_core.specs.declared.events.Event.{Event}
use Rattle.guest_core.specs.declared.events.Event.TheVariants.{Step}
use Rattle.guest_core.specs.Event.{event_after, is_enabled, run, ticked}
use Rattle.guest_core.specs.Machine.{Machine, Thread, first_thread}
use Rattle.file_table.specs.State.{Files}
use Rattle.guest_core.specs.Start.{Program, started}
use Rattle.guest_core.specs.System.{Member, found, live_ids}
use Rattle.guest_core.proofs.EnabledFacts.{ended_disabled}
use Rattle.guest_core.proofs.EventCases.{happened}
use Rattle.guest_core.proofs.EventsKeep.{event_ids, run_ids}
use Rattle.guest_core.proofs.StartFacts.{start_ids}
use Rattle.guest_core.proofs.SystemFacts.{number, same_id}
use Rattle.emu_run.specs.declared.solo.Run.{Run}
use Rattle.emu_run.specs.Running.{IsEnd, OneLives}
use Rattle.emu_run.specs.Schedule.{next_turn, scheduled, turn_among}
use Rattle.emu_run.specs.Turning.{WentAhead}

-- ---- a turn

enabled : (id : ℕ) (machine next : Machine) → event_after machine (Step id) ≡ Some next → is_enabled machine (Step id) ≡ true
enabled id machine next is = ap (λ (after : Option Machine). is_some after) is

head_is : (one other : ℕ) → one ∷ [] ≡ other ∷ [] → one ≡ other
head_is one other same = cc

id_by : (this : Bool) (id : ℕ) (member : Member Thread) (thread : Thread) → (member.id == id) ≡ this → cond this (Some member.self) None ≡ Some thread → member.id ≡ id
id_by true id member thread same is = number member.id id same
id_by false id member thread same is = cc

only_by : (members : List (Member Thread)) (id first : ℕ) (thread : Thread) → map (λ member. member.id) members ≡ first ∷ [] → found id members ≡ Some thread → first ≡ id
only_by [] id first thread one is = cc
only_by (member ∷ []) id first thread one is = sym (head_is member.id first one) ∙ id_by (member.id == id) id member thread refl is
only_by (member ∷ other ∷ members) id first thread one is = cc

ticked_ids : (machine : Machine) → live_ids (ticked machine) ≡ live_ids machine
unfolding ticked
ticked_ids machine = refl

-- the thread whose step is made is the one that there is
only_live : (machine next : Machine) (id first : ℕ) → live_ids machine ≡ first ∷ [] → event_after machine (Step id) ≡ Some next → first ≡ id
only_live machine next id first one is =
    let was = happened id machine next is in
    only_by (ticked machine).members id first was.thread (ticked_ids machine ∙ one) was.here

its_turn : (machine : Machine) (id : ℕ) → live_ids machine ≡ id ∷ [] → is_enabled machine (Step id) ≡ true → next_turn [] machine ≡ Some (record { thread = id; left = [] })
unfolding next_turn
its_turn machine id one is = rw (one, is) refl

-- where one thread lives, its step is enabled, and it is the one that lives afterwards

live_by : (members : List (Member Thread)) (first : ℕ) → map (λ member. member.id) members ≡ first ∷ [] → is_some (found first members) ≡ true
live_by [] first one = cc
live_by (member ∷ []) first one = rw (head_is member.id first one, same_id first) refl
live_by (member ∷ other ∷ members) first one = cc

pub one_lives : (machine : Machine) → OneLives machine → is_some (found first_thread machine.members) ≡ true
one_lives machine one = live_by machine.members first_thread one

pub step_one : (machine next : Machine) → OneLives machine → event_after machine (Step first_thread) ≡ Some next → OneLives next
step_one machine next one is = event_ids (Step first_thread) machine next is ∙ one

run_one : (events : List Event) (machine next : Machine) → OneLives machine → run (Some machine) events ≡ Some next → OneLives next
run_one events machine next one ran = run_ids events machine next ran ∙ one

pub ahead_one : {D : Type 0} (old new : Run D) (limit : ℕ) → OneLives old.core → WentAhead old new limit → OneLives new.core
ahead_one old new limit one went = run_one went.made.events old.core new.core one went.made.made

-- ---- a run

none_stays : (events : List Event) → run None events ≡ None
none_stays [] = refl
none_stays (event ∷ events) = none_stays events

goes_by : (next : Option Machine) (event : Event) (events : List Event) (machine last : Machine) (first more : ℕ) → live_ids machine ≡ first ∷ [] → event_after machine event ≡ next → run next events ≡ Some last → ((now : Machine) → live_ids now ≡ first ∷ [] → run (Some now) events ≡ Some last → scheduled (more + length events) [] (Some now) ≡ events ++ scheduled more [] (Some last)) → scheduled (suc (more + length events)) [] (Some machine) ≡ event ∷ (events ++ scheduled more [] (Some last))
goes_by None event events machine last first more one is ran rest = let none = none_stays events in cc
goes_by (Some now) (Step id) events machine last first more one is ran rest =
    let allowed = enabled id machine now is in
    let this : first ≡ id = only_live machine now id first one is in
    let turn : next_turn [] machine ≡ Some (record { thread = id; left = [] }) = its_turn machine id (one ∙ ap (λ (n : ℕ). n ∷ []) this) allowed in
    rw (turn, is) (ap (λ (es : List Event). Step id ∷ es) (rest now (event_ids (Step id) machine now is ∙ one) ran))

none_more : (more : ℕ) → more + length {A = Event} [] ≡ more
none_more more = omega arith

one_more : (more : ℕ) (event : Event) (events : List Event) → more + length (event ∷ events) ≡ suc (more + length events)
one_more more event events = omega arith

goes_on : (events : List Event) (machine last : Machine) (first more : ℕ) → live_ids machine ≡ first ∷ [] → run (Some machine) events ≡ Some last → scheduled (more + length events) [] (Some machine) ≡ events ++ scheduled more [] (Some last)
goes_on [] machine last first more one ran =
    let same : machine ≡ last = cc in
    ap (λ (n : ℕ). scheduled n [] (Some machine)) (none_more more) ∙ ap (λ (m : Machine). scheduled more [] (Some m)) same
goes_on (event ∷ events) machine last first more one ran =
    ap (λ (n : ℕ). scheduled n [] (Some machine)) (one_more more event events)
    ∙ goes_by (event_after machine event) event events machine last first more one refl ran (λ now these on. goes_on events now last first more these on)

-- ---- the end

still_among : (ids : List ℕ) (machine : Machine) (end : End) → machine.end ≡ Some end → turn_among machine ids ≡ None
still_among [] machine end is = refl
still_among (id ∷ ids) machine end is = rw (ended_disabled id machine end is) (still_among ids machine end is)

no_turn : (machine : Machine) (end : End) → machine.end ≡ Some end → next_turn [] machine ≡ None
unfolding next_turn
no_turn machine end is = still_among (live_ids machine) machine end is

nothing_more : (count : ℕ) (machine : Machine) (end : End) → machine.end ≡ Some end → scheduled count [] (Some machine) ≡ []
nothing_more zero machine end is = refl
nothing_more (suc count) machine end is = rw (no_turn machine end is) refl

-- ---- from the start

pub start_one : (program : Program) (files : Files) (core : Machine) → core ≡ started program files → OneLives core
start_one program files core is = rw is (start_ids program files)

-- each run is the schedule's
pub start_in_turn : (program : Program) (files : Files) (events : List Event) (last : Machine) → run (Some (started program files)) events ≡ Some last → scheduled (length events) [] (Some (started program files)) ≡ events
start_in_turn program files events last ran =
    ap (λ (n : ℕ). scheduled n [] (Some (started program files))) (sym (zero-add (length events)))
    ∙ goes_on events (started program files) last first_thread 0 (start_ids program files) ran
    ∙ append-nil events

more_of : (count budget : ℕ) → count ≤ budget → (budget - count) + count ≡ budget
more_of count budget few = omega (arith, few)

ended_by : (end : Option End) (program : Program) (files : Files) (events : List Event) (budget : ℕ) (last : Machine) (told : End) → run (Some (started program files)) events ≡ Some last → length events ≤ budget → last.end ≡ end → IsEnd end (length events) budget told → scheduled budget [] (Some (started program files)) ≡ events
ended_by (Some end) program files events budget last told ran few is ended =
    ap (λ (n : ℕ). scheduled n [] (Some (started program files))) (sym (more_of (length events) budget few))
    ∙ goes_on events (started program files) last first_thread (budget - length events) (start_ids program files) ran
    ∙ ap (λ (es : List Event). events ++ es) (nothing_more (budget - length events) last end is)
    ∙ append-nil events
ended_by None program files events budget last told ran few is ended =
    ap (λ (n : ℕ). scheduled n [] (Some (started program files))) (sym ended.1) ∙ start_in_turn program files events last ran

-- one that came to its end is all that the schedule gives
pub start_whole : (program : Program) (files : Files) (events : List Event) (budget : ℕ) (last : Machine) (told : End) → run (Some (started program files)) events ≡ Some last → length events ≤ budget → IsEnd last.end (length events) budget told → scheduled budget [] (Some (started program files)) ≡ events
start_whole program files events budget last told ran few ended = ended_by last.end program files events budget last told ran few refl ended
