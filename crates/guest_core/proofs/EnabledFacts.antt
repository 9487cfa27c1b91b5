-- A step of a thread that lives is enabled, at each place that there is.
use Rattle.std.proofs.Common.{◌≡◌, ℕ, ◌==◌, Bool, true, false, cond, is_none, is_some, List, [], ◌∷◌, Option, Some, None, refl, ap, ◌∙◌, subst}
use Rattle.std.specs.Option.{option_map}
use Rattle.guest_core.specs.declared.ends.End.{End}
use Rattle.guest_core.specs.declared.events.Event.TheVariants.{Step}
use Rattle.guest_core.specs.declared.places.Place.{Place}
use Rattle.guest_core.specs.declared.places.Place.TheVariants.{Loop, Start, Window, Done}
use Rattle.host_calls.specs.declared.queue.Instance.{Instance}
use Rattle.host_calls.specs.Queue.{due, first_of}
use Rattle.host_calls.specs.Shared.{Shared}
use Rattle.guest_core.specs.Event.{acted, event_after, is_enabled, row_done, settled, stepped, ticked}
use Rattle.guest_core.specs.Kept.{NotedDue, all_have}
use Rattle.guest_core.specs.Machine.{Machine, Thread}
use Rattle.guest_core.specs.Rows.{Row, Take, note_row, take_row, clear_row, execute_row, check_row, enter_row, return_row, or_else, row_of}
use Rattle.guest_core.specs.System.{Context, Member, context_of, found}
use Rattle.guest_core.proofs.RowCases.{Seen, at, dues}
use Rattle.guest_core.proofs.SystemFacts.{number}

later_one : (one other : Option Row) → is_some other ≡ true → is_some (or_else one other) ≡ true
later_one None other is = is
later_one (Some first) other is = refl

or_first : (one other : Option Row) → is_some one ≡ true → is_some (or_else one other) ≡ true
or_first None other is = cc
or_first (Some row) other is = refl

take_there : (due : List Instance) (id : ℕ) (noted : List ℕ) → all_have (id ∷ noted) due ≡ true → is_some (option_map Take (first_of due)) ≡ true
take_there [] id noted all = cc
take_there (instance ∷ due) id noted all = refl

enabled_at : (by : Seen) (place : Place) (flag : Bool) (noted : List ℕ) → all_have noted (dues by) ≡ true → is_some (row_of (at by place flag noted)) ≡ true
unfolding row_of take_row clear_row execute_row check_row enter_row return_row
enabled_at by Loop false noted all = later_one (note_row (at by Loop false noted)) _ refl
enabled_at by Loop true [] all = later_one (note_row (at by Loop true [])) _ refl
enabled_at by Loop true (id ∷ noted) all = later_one (note_row (at by Loop true (id ∷ noted))) _ (or_first _ _ (take_there (dues by) id noted all))
enabled_at by Start true [] all = later_one (note_row (at by Start true [])) _ refl
enabled_at by Start true (id ∷ noted) all = later_one (note_row (at by Start true (id ∷ noted))) _ refl
enabled_at by Start false noted all = later_one (note_row (at by Start false noted)) _ refl
enabled_at by Window true [] all = later_one (note_row (at by Window true [])) _ refl
enabled_at by Window true (id ∷ noted) all = later_one (note_row (at by Window true (id ∷ noted))) _ refl
enabled_at by Window false noted all = later_one (note_row (at by Window false noted)) _ refl
enabled_at by (Done answer) true [] all = later_one (note_row (at by (Done answer) true [])) _ refl
enabled_at by (Done answer) true (id ∷ noted) all = later_one (note_row (at by (Done answer) true (id ∷ noted))) _ refl
enabled_at by (Done answer) false noted all = later_one (note_row (at by (Done answer) false noted)) _ refl

pub step_enabled : (context : Context Thread) → all_have context.self.noted (due context.id context.shared.queue) ≡ true → is_some (row_of context) ≡ true
step_enabled context all =
    enabled_at (record { shared = context.shared; id = context.id; regs = context.self.regs }) context.self.place context.self.flag context.self.noted all

-- ---- of a machine

due_by : (this : Bool) (id : ℕ) (member : Member Thread) (members : List (Member Thread)) (shared : Shared) (thread : Thread) → (this ≡ true → member.id ≡ id) → all_have member.self.noted (due member.id shared.queue) ≡ true → (found id members ≡ Some thread → all_have thread.noted (due id shared.queue) ≡ true) → cond this (Some member.self) (found id members) ≡ Some thread → all_have thread.noted (due id shared.queue) ≡ true
due_by true id member members shared thread this first rest is =
    let equal : member.self ≡ thread = cc in
    subst (λ (t : Thread). all_have t.noted (due id shared.queue) ≡ true) equal
    (subst (λ (n : ℕ). all_have member.self.noted (due n shared.queue) ≡ true) (this refl) first)
due_by false id member members shared thread this first rest is = rest is

found_due : (id : ℕ) (members : List (Member Thread)) (shared : Shared) (thread : Thread) → NotedDue shared members → found id members ≡ Some thread → all_have thread.noted (due id shared.queue) ≡ true
found_due id [] shared thread due is = cc
found_due id (member ∷ members) shared thread due is =
    due_by (member.id == id) id member members shared thread (λ same. number member.id id same) due.0 (λ on. found_due id members shared thread due.1 on) is

row_there : (row : Option Row) (id : ℕ) (thread : Thread) (machine : Machine) → is_some row ≡ true → is_some (option_map settled (row_done id thread machine row)) ≡ true
row_there None id thread machine there = cc
row_there (Some row) id thread machine there = refl

thread_there : (thread : Option Thread) (id : ℕ) (machine : Machine) → found id machine.members ≡ thread → NotedDue machine.shared machine.members → is_some thread ≡ true → is_some (option_map settled (stepped id machine thread)) ≡ true
thread_there None id machine here due there = cc
thread_there (Some thread) id machine here due there =
    row_there (row_of (context_of id thread machine)) id thread machine (step_enabled (context_of id thread machine) (found_due id machine.members machine.shared thread due here))

acts : (id : ℕ) (machine : Machine) → NotedDue machine.shared machine.members → is_some (found id machine.members) ≡ true → is_some (option_map settled (acted (Step id) machine)) ≡ true
unfolding acted ticked
acts id machine due there =
    let now = ticked machine in
    thread_there (found id now.members) id now refl due there

-- while the process lives, each step of a thread that lives is enabled
pub live_enabled : (id : ℕ) (machine : Machine) → machine.end ≡ None → NotedDue machine.shared machine.members → is_some (found id machine.members) ≡ true → is_enabled machine (Step id) ≡ true
unfolding event_after
live_enabled id machine lives due there =
    ap (λ (end : Option End). is_some (cond (is_none end) (option_map settled (acted (Step id) machine)) None)) lives ∙ acts id machine due there

-- and no other
not_there : (id : ℕ) (machine : Machine) → found id machine.members ≡ None → option_map settled (acted (Step id) machine) ≡ None
unfolding acted ticked
not_there id machine none = rw none refl

cond_none : {X : Type 0} (test : Bool) (option : Option X) → option ≡ None → cond test option None ≡ None
cond_none true option is = is
cond_none false option is = refl

pub gone_not : (id : ℕ) (machine : Machine) → found id machine.members ≡ None → event_after machine (Step id) ≡ None
unfolding event_after
gone_not id machine none = cond_none (is_none machine.end) (option_map settled (acted (Step id) machine)) (not_there id machine none)

pub ended_not : (id : ℕ) (machine : Machine) (end : End) → machine.end ≡ Some end → event_after machine (Step id) ≡ None
unfolding event_after
ended_not id machine end is = rw is refl

pub gone_disabled : (id : ℕ) (machine : Machine) → found id machine.members ≡ None → is_enabled machine (Step id) ≡ false
gone_disabled id machine none = ap (λ (next : Option Machine). is_some next) (gone_not id machine none)

pub ended_disabled : (id : ℕ) (machine : Machine) (end : End) → machine.end ≡ Some end → is_enabled machine (Step id) ≡ false
ended_disabled id machine end is = ap (λ (next : Option Machine). is_some next) (ended_not id machine end is)

none_by : (next : Option Machine) → is_some next ≡ true → next ≡ None → ⊥
none_by None there none = cc
none_by (Some machine) there none = cc

pub live_not_none : (id : ℕ) (machine : Machine) → machine.end ≡ None → NotedDue machine.shared machine.members → is_some (found id machine.members) ≡ true → event_after machine (Step id) ≡ None → ⊥
live_not_none id machine lives due there none = none_by (event_after machine (Step id)) (live_enabled id machine lives due there) none

end_by : (end : Option End) (id : ℕ) (machine : Machine) → machine.end ≡ end → is_some end ≡ true → event_after machine (Step id) ≡ None
end_by None id machine is there = cc
end_by (Some end) id machine is there = ended_not id machine end is

pub some_end_not : (id : ℕ) (machine : Machine) → is_some machine.end ≡ true → event_after machine (Step id) ≡ None
some_end_not id machine there = end_by machine.end id machine refl there

pub some_end_disabled : (id : ℕ) (machine : Machine) → is_some machine.end ≡ true → is_enabled machine (Step id) ≡ false
some_end_disabled id machine there = ap (λ (next : Option Machine). is_some next) (some_end_not id machine there)

pub none_end : (end : Option End) → is_some end ≡ false → end ≡ None
none_end None is = refl
none_end (Some end) is = cc
