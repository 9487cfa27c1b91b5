-- That every event keeps what every state keeps.
use Rattle.std.proofs.Common.{◌≡◌, ℕ, ◌+◌, ◌≤◌, ◌==◌, ◌&&◌, Bool, true, false, cond, List, [], ◌∷◌, ◌++◌, map, filter, Option, Some, None, refl, ap, sym, ◌∙◌, subst, append-nil}
use Rattle.guest_pages.specs.Apart.{Stays}
use Rattle.guest_core.specs.declared.calls.CallOutcome.{CallOutcome}
use Rattle.guest_core.specs.declared.calls.CallOutcome.TheVariants.{Answers, Ends}
use Rattle.guest_core.specs.declared.events.Event.{Event}
use Rattle.guest_core.specs.declared.events.Event.TheVariants.{Step}
use Rattle.host_calls.specs.declared.queue.Instance.{Instance}
use Rattle.host_calls.specs.Marks.{is_noted, still_noted}
use Rattle.host_calls.specs.Queue.{due}
use Rattle.host_calls.specs.Shared.{Shared, later}
use Rattle.isa_step.specs.Instruction.{Calls, Faults, InstructionOutcome, Runs}
use Rattle.guest_core.specs.Call.{called}
use Rattle.guest_core.specs.Event.{event_after, run, settled, thread_settled, ticked}
use Rattle.guest_core.specs.Kept.{EachKeeps, IdsRise, Keeps, KeepsThread, NotedDue, all_have, has_id}
use Rattle.guest_core.specs.Machine.{Machine, Thread}
use Rattle.guest_core.specs.Rows.{Row, Note, Take, ClearFlag, Execute, Check, Enter, Return, after_call, after_instruction, checked, done, entered, executed, flag_cleared, instruction_of, noted, returned, taken}
use Rattle.guest_core.specs.System.{After, Context, Member, context_of, found, in_place, live_ids, placed, put}
use Rattle.guest_core.proofs.EventCases.{happened}
use Rattle.guest_core.proofs.Noted.{same_or}
use Rattle.guest_core.proofs.SystemFacts.{same_id}
use Rattle.guest_core.proofs.RowsKeep.{AfterKeeps, Goes, SelfKeeps, row_keeps, same_goes, thread_on}

-- ---- a row leaves its thread, and adds none

pub record GoesOn (after : After Thread) : Type 0 where
  pub thread : Thread
  pub self_is : after.self ≡ Some thread
  pub none_added : after.added ≡ []

goes_on : (after : After Thread) (thread : Thread) → after.self ≡ Some thread → after.added ≡ [] → GoesOn after
goes_on after thread is none = record { thread = thread; self_is = is; none_added = none }

instruction_goes : (what : InstructionOutcome) (context : Context Thread) → GoesOn (after_instruction what context)
instruction_goes (Runs regs memory held) context = goes_on _ _ refl refl
instruction_goes Calls context = goes_on _ _ refl refl
instruction_goes (Faults fault) context = goes_on _ _ refl refl

call_goes : (outcome : CallOutcome) (shared : Shared) (context : Context Thread) → GoesOn (after_call outcome shared context)
call_goes (Answers answer) shared context = goes_on _ _ refl refl
call_goes (Ends end) shared context = goes_on _ _ refl refl

pub row_goes : (row : Row) (context : Context Thread) → GoesOn (done row context)
unfolding noted taken flag_cleared executed checked entered returned
row_goes (Note instance) context = goes_on _ _ refl refl
row_goes (Take instance) context = goes_on _ _ refl refl
row_goes ClearFlag context = goes_on _ _ refl refl
row_goes Execute context = instruction_goes (instruction_of context) context
row_goes Check context = goes_on _ _ refl refl
row_goes Enter context =
    let made = called context.id context.self.regs context.shared in
    call_goes made.outcome made.shared context
row_goes (Return answer) context = goes_on _ _ refl refl

-- ---- the other threads

each_on : (members : List (Member Thread)) (before after : Shared) → Goes before after → EachKeeps before members → EachKeeps after members
each_on [] before after goes each = tt
each_on (member ∷ members) before after goes each = (thread_on member.self before after goes each.0, each_on members before after goes each.1)

in_place_keeps : (new : Option Thread) (id : ℕ) (members : List (Member Thread)) (shared : Shared) → SelfKeeps shared new → EachKeeps shared members → EachKeeps shared (in_place id new members)
in_place_keeps None id members shared self each = each
in_place_keeps (Some thread) id members shared self each = (self, each)

placed_by : (this : Bool) (id : ℕ) (new : Option Thread) (member : Member Thread) (members : List (Member Thread)) (shared : Shared) → SelfKeeps shared new → KeepsThread shared member.self → EachKeeps shared members → EachKeeps shared (placed id new members) → EachKeeps shared (cond this (in_place member.id new members) (member ∷ placed id new members))
placed_by true id new member members shared self first each on = in_place_keeps new member.id members shared self each
placed_by false id new member members shared self first each on = (first, on)

placed_keeps : (id : ℕ) (new : Option Thread) (members : List (Member Thread)) (shared : Shared) → SelfKeeps shared new → EachKeeps shared members → EachKeeps shared (placed id new members)
placed_keeps id new [] shared self each = tt
placed_keeps id new (member ∷ members) shared self each =
    placed_by (member.id == id) id new member members shared self each.0 each.1 (placed_keeps id new members shared self each.1)

joined_keeps : (members added : List (Member Thread)) (shared : Shared) → EachKeeps shared members → EachKeeps shared added → EachKeeps shared (members ++ added)
joined_keeps [] added shared each more = more
joined_keeps (member ∷ members) added shared each more = (each.0, joined_keeps members added shared each.1 more)

put_keeps : (id : ℕ) (after : After Thread) (machine : Machine) → AfterKeeps machine.shared after → EachKeeps machine.shared machine.members → EachKeeps after.shared (put id after machine).members
put_keeps id after machine keeps each =
    joined_keeps (placed id after.self machine.members) after.added after.shared
    (placed_keeps id after.self machine.members after.shared keeps.self (each_on machine.members machine.shared after.shared keeps.goes each))
    keeps.added

found_by : (this : Bool) (id : ℕ) (member : Member Thread) (members : List (Member Thread)) (shared : Shared) (thread : Thread) → KeepsThread shared member.self → (found id members ≡ Some thread → KeepsThread shared thread) → cond this (Some member.self) (found id members) ≡ Some thread → KeepsThread shared thread
found_by true id member members shared thread first rest is =
    let equal : member.self ≡ thread = cc in
    subst (λ (t : Thread). KeepsThread shared t) equal first
found_by false id member members shared thread first rest is = rest is

pub found_keeps : (id : ℕ) (members : List (Member Thread)) (shared : Shared) (thread : Thread) → EachKeeps shared members → found id members ≡ Some thread → KeepsThread shared thread
found_keeps id [] shared thread each is = cc
found_keeps id (member ∷ members) shared thread each is = found_by (member.id == id) id member members shared thread each.0 (λ on. found_keeps id members shared thread each.1 on) is

-- ---- what is noted

settle_thread : (member : Member Thread) (shared : Shared) → KeepsThread shared member.self → KeepsThread shared (thread_settled shared member).self
settle_thread member shared keeps = record {
  apart = keeps.apart;
  flag_set = λ clear. ap (λ (ids : List ℕ). still_noted ids (due member.id shared.queue)) (keeps.flag_set clear) ∙ none_still (due member.id shared.queue);
  by_place = keeps.by_place;
  at_call = keeps.at_call;
}
  where
    none_still : (instances : List Instance) → still_noted [] instances ≡ []
    none_still [] = refl
    none_still (instance ∷ instances) = none_still instances

settle_each : (members : List (Member Thread)) (shared : Shared) → EachKeeps shared members → EachKeeps shared (map (thread_settled shared) members)
settle_each [] shared each = tt
settle_each (member ∷ members) shared each = (settle_thread member shared each.0, settle_each members shared each.1)

has_more : (first : Instance) (instances : List Instance) (id : ℕ) → has_id instances id ≡ true → has_id (first ∷ instances) id ≡ true
has_more first instances id has = same_or (first.id == id) (has_id instances id) has

both_by : (one rest more others : Bool) → (one ≡ true → more ≡ true) → (rest ≡ true → others ≡ true) → (one && rest) ≡ true → (more && others) ≡ true
both_by true true more others this that both = rw (this refl, that refl) refl
both_by true false more others this that both = cc
both_by false rest more others this that both = cc

all_more : (ids : List ℕ) (first : Instance) (instances : List Instance) → all_have ids instances ≡ true → all_have ids (first ∷ instances) ≡ true
all_more [] first instances all = refl
all_more (id ∷ ids) first instances all =
    both_by (has_id instances id) (all_have ids instances) (has_id (first ∷ instances) id) (all_have ids (first ∷ instances)) (has_more first instances id) (all_more ids first instances) all

still_by : (test : Bool) (ids : List ℕ) (first : Instance) (instances : List Instance) → all_have (map (λ instance. instance.id) (filter (is_noted ids) instances)) instances ≡ true → all_have (map (λ instance. instance.id) (cond test (first ∷ filter (is_noted ids) instances) (filter (is_noted ids) instances))) (first ∷ instances) ≡ true
still_by true ids first instances all = first_too (all_more (map (λ instance. instance.id) (filter (is_noted ids) instances)) first instances all)
  where
    first_too : all_have (map (λ instance. instance.id) (filter (is_noted ids) instances)) (first ∷ instances) ≡ true → all_have (first.id ∷ map (λ instance. instance.id) (filter (is_noted ids) instances)) (first ∷ instances) ≡ true
    first_too rest = rw (same_id first.id, rest) refl
still_by false ids first instances all = all_more (map (λ instance. instance.id) (filter (is_noted ids) instances)) first instances all

still_due : (ids : List ℕ) (instances : List Instance) → all_have (still_noted ids instances) instances ≡ true
still_due ids [] = refl
still_due ids (first ∷ instances) = still_by (is_noted ids first) ids first instances (still_due ids instances)

each_due : (members : List (Member Thread)) (shared : Shared) → NotedDue shared (map (thread_settled shared) members)
each_due [] shared = tt
each_due (member ∷ members) shared = (still_due member.self.noted (due member.id shared.queue), each_due members shared)

-- ---- ids

placed_ids_by : (this : Bool) (id : ℕ) (x : Thread) (member : Member Thread) (members : List (Member Thread)) → map (λ one. one.id) (placed id (Some x) members) ≡ map (λ one. one.id) members → map (λ one. one.id) (cond this (in_place member.id (Some x) members) (member ∷ placed id (Some x) members)) ≡ member.id ∷ map (λ one. one.id) members
placed_ids_by true id x member members on = refl
placed_ids_by false id x member members on = ap (λ (ids : List ℕ). member.id ∷ ids) on

placed_ids : (id : ℕ) (x : Thread) (members : List (Member Thread)) → map (λ one. one.id) (placed id (Some x) members) ≡ map (λ one. one.id) members
placed_ids id x [] = refl
placed_ids id x (member ∷ members) = placed_ids_by (member.id == id) id x member members (placed_ids id x members)

settled_ids : (shared : Shared) (members : List (Member Thread)) → map (λ one. one.id) (map (thread_settled shared) members) ≡ map (λ one. one.id) members
settled_ids shared [] = refl
settled_ids shared (member ∷ members) = ap (λ (ids : List ℕ). member.id ∷ ids) (settled_ids shared members)

put_ids : (id : ℕ) (after : After Thread) (machine : Machine) → GoesOn after → live_ids (settled (put id after machine)) ≡ live_ids machine
unfolding settled
put_ids id after machine goes =
    settled_ids after.shared (placed id after.self machine.members ++ after.added)
    ∙ ap (λ (added : List (Member Thread)). map (λ one. one.id) (placed id after.self machine.members ++ added)) goes.none_added
    ∙ ap (map (λ one. one.id)) (append-nil (placed id after.self machine.members))
    ∙ ap (λ (self : Option Thread). map (λ one. one.id) (placed id self machine.members)) goes.self_is
    ∙ placed_ids id goes.thread machine.members

ticked_members : (machine : Machine) → (ticked machine).members ≡ machine.members
unfolding ticked
ticked_members machine = refl

-- no thread comes or goes
pub event_ids : (event : Event) (machine next : Machine) → event_after machine event ≡ Some next → live_ids next ≡ live_ids machine
event_ids (Step id) machine next is =
    let was = happened id machine next is in
    let now = ticked machine in
    ap live_ids was.next_is
    ∙ put_ids id (done was.row (context_of id was.thread now)) now (row_goes was.row (context_of id was.thread now))
    ∙ ap (map (λ one. one.id)) (ticked_members machine)

rise_same : (one other : List (Member Thread)) (low : ℕ) → map (λ member. member.id) one ≡ map (λ member. member.id) other → IdsRise low other → IdsRise low one
rise_same [] other low same rise = tt
rise_same (first ∷ one) [] low same rise = cc
rise_same (first ∷ one) (second ∷ other) low same rise =
    let head : first.id ≡ second.id = cc in
    let tail : map (λ member. member.id) one ≡ map (λ member. member.id) other = cc in
    (subst (λ (n : ℕ). low ≤ n) (sym head) rise.0, rise_same one other (first.id + 1) tail (subst (λ (n : ℕ). IdsRise (n + 1) other) (sym head) rise.1))

-- ---- the event

tick_goes : (machine : Machine) → Goes machine.shared (ticked machine).shared
unfolding ticked
tick_goes machine = same_goes machine.shared (later machine.shared) refl

pub ticked_keeps : (machine : Machine) → EachKeeps machine.shared machine.members → EachKeeps (ticked machine).shared (ticked machine).members
ticked_keeps machine each =
    subst (λ (members : List (Member Thread)). EachKeeps (ticked machine).shared members) (sym (ticked_members machine))
    (each_on machine.members machine.shared (ticked machine).shared (tick_goes machine) each)

settled_keeps : (machine : Machine) → EachKeeps machine.shared machine.members → EachKeeps (settled machine).shared (settled machine).members
unfolding settled
settled_keeps machine each = settle_each machine.members machine.shared each

settled_due : (machine : Machine) → NotedDue (settled machine).shared (settled machine).members
unfolding settled
settled_due machine = each_due machine.members machine.shared

pub event_keeps : (event : Event) (machine next : Machine) → Keeps machine → event_after machine event ≡ Some next → Keeps next
event_keeps (Step id) machine next keeps is =
    let was = happened id machine next is in
    let now = ticked machine in
    let each = ticked_keeps machine keeps.each in
    let after = done was.row (context_of id was.thread now) in
    let kept = row_keeps (context_of id was.thread now) was.row (found_keeps id now.members now.shared was.thread each was.here) was.fits in
    record {
      each = subst (λ (m : Machine). EachKeeps m.shared m.members) (sym was.next_is) (settled_keeps (put id after now) (put_keeps id after now kept each));
      noted_due = subst (λ (m : Machine). NotedDue m.shared m.members) (sym was.next_is) (settled_due (put id after now));
      ids_rise = rise_same next.members machine.members 0 (event_ids (Step id) machine next is) keeps.ids_rise;
    }

-- what an event does to memory
pub event_goes : (event : Event) (machine next : Machine) → Keeps machine → event_after machine event ≡ Some next → Goes machine.shared next.shared
unfolding settled
event_goes (Step id) machine next keeps is =
    let was = happened id machine next is in
    let now = ticked machine in
    let each = ticked_keeps machine keeps.each in
    let kept = row_keeps (context_of id was.thread now) was.row (found_keeps id now.members now.shared was.thread each was.here) was.fits in
    λ apart.
    let ticked_on = tick_goes machine apart in
    let on = kept.goes ticked_on.apart in
    subst (λ (m : Machine). Stays machine.shared.memory m.shared.memory) (sym was.next_is)
    (record { apart = on.apart; code = λ a. on.code a ∙ ticked_on.code a })

-- ---- a run

none_stays : (events : List Event) → run None events ≡ None
none_stays [] = refl
none_stays (event ∷ events) = none_stays events

run_from : (after : Option Machine) (machine next : Machine) (event : Event) (events : List Event) → ((now : Machine) → Keeps now → run (Some now) events ≡ Some next → Keeps next) → Keeps machine → event_after machine event ≡ after → run after events ≡ Some next → Keeps next
run_from (Some now) machine next event events rest keeps is ran = rest now (event_keeps event machine now keeps is) ran
run_from None machine next event events rest keeps is ran = let none = none_stays events in cc

pub run_keeps : (events : List Event) (machine next : Machine) → Keeps machine → run (Some machine) events ≡ Some next → Keeps next
run_keeps [] machine next keeps ran = let same : machine ≡ next = cc in subst Keeps same keeps
run_keeps (event ∷ events) machine next keeps ran = run_from (event_after machine event) machine next event events (λ now. run_keeps events now next) keeps refl ran

ids_from : (after : Option Machine) (machine next : Machine) (event : Event) (events : List Event) → ((now : Machine) → run (Some now) events ≡ Some next → live_ids next ≡ live_ids now) → event_after machine event ≡ after → run after events ≡ Some next → live_ids next ≡ live_ids machine
ids_from (Some now) machine next event events rest is ran = rest now ran ∙ event_ids event machine now is
ids_from None machine next event events rest is ran = let none = none_stays events in cc

pub run_ids : (events : List Event) (machine next : Machine) → run (Some machine) events ≡ Some next → live_ids next ≡ live_ids machine
run_ids [] machine next ran = let same : machine ≡ next = cc in ap live_ids (sym same)
run_ids (event ∷ events) machine next ran = ids_from (event_after machine event) machine next event events (λ now. run_ids events now next) refl ran
