-- Steps that make an instruction and nothing else.
use Rattle.std.proofs.Common.{◌≡◌, ℕ, zero, suc, ◌+◌, inl, inr, arith, Bool, true, false, Option, Some, None, replicate, refl, ap, sym, subst, ◌∙◌}
use Rattle.std.proofs.Math.Numerals.{suc-eq-add-one}
use Rattle.std.proofs.lemmas.Bool.{cases_lt}
use Rattle.std.specs.Option.{option_map}
use Rattle.guest_core.specs.declared.events.Event.{Event}
use Rattle.guest_core.specs.declared.events.Event.TheVariants.{Step}
use Rattle.guest_core.specs.declared.places.Place.{Place}
use Rattle.guest_core.specs.declared.places.Place.TheVariants.{Loop, Start, Window, Done}
use Rattle.host_calls.specs.declared.queue.Instance.{Instance}
use Rattle.host_calls.specs.Marks.{first_new}
use Rattle.host_calls.specs.Queue.{first_of, is_empty}
use Rattle.guest_core.specs.Machine.{Machine, Thread}
use Rattle.guest_core.specs.Rows.{Row, Take, Execute, due_now, note_row, take_row, clear_row, execute_row, check_row, enter_row, return_row, or_else, row_of}
use Rattle.guest_core.specs.Event.{happens, run}
use Rattle.guest_core.specs.System.{Context}
use Rattle.guest_core.specs.Ahead.{AllGoOn, GoesOn, IsReady}

-- ---- when a step is an instruction's

row_by : (new : Option Instance) (place : Place) (flag : Bool) (context : Context Thread) → first_new (due_now context) context.self.noted ≡ new → context.self.place ≡ place → context.self.flag ≡ flag → new ≡ None → place ≡ Loop → flag ≡ false → row_of context ≡ Some Execute
unfolding row_of note_row take_row clear_row execute_row
row_by (Some instance) place flag context first at is none loop clear = cc
row_by None Start flag context first at is none loop clear = cc
row_by None Window flag context first at is none loop clear = cc
row_by None (Done answer) flag context first at is none loop clear = cc
row_by None Loop true context first at is none loop clear = cc
row_by None Loop false context first at is none loop clear = rw (first, is, at) refl

pub ready_is : (context : Context Thread) → first_new (due_now context) context.self.noted ≡ None → context.self.place ≡ Loop → context.self.flag ≡ false → IsReady context
ready_is context none loop clear =
    row_by (first_new (due_now context) context.self.noted) context.self.place context.self.flag context refl refl refl none loop clear

pub record ReadyParts (context : Context Thread) : Type 0 where
  pub none : first_new (due_now context) context.self.noted ≡ None
  pub loop : context.self.place ≡ Loop
  pub clear : context.self.flag ≡ false

taken_apart : (first : Option Instance) (other : Option Row) → or_else (option_map Take first) other ≡ Some Execute → other ≡ Some Execute
taken_apart None other is = is
taken_apart (Some instance) other is = cc

parts_by : (new : Option Instance) (place : Place) (flag empty : Bool) (context : Context Thread) → first_new (due_now context) context.self.noted ≡ new → context.self.place ≡ place → context.self.flag ≡ flag → is_empty context.self.noted ≡ empty → row_of context ≡ Some Execute → ReadyParts context
unfolding row_of note_row take_row clear_row execute_row check_row enter_row return_row
parts_by (Some instance) place flag empty context first at is none row = let wrong = rw first at row in cc
parts_by None Loop false empty context first at is none row = record { none = first; loop = at; clear = is }
parts_by None Loop true true context first at is none row = let wrong = rw (first, is, none, at) at row in cc
parts_by None Loop true false context first at is none row =
    let wrong = taken_apart (first_of (due_now context)) _ (rw (first, is, none, at) at row) in cc
parts_by None Start true true context first at is none row = let wrong = rw (first, is, none, at) at row in cc
parts_by None Start true false context first at is none row = let wrong = rw (first, is, none, at) at row in cc
parts_by None Start false empty context first at is none row = let wrong = rw (first, is, at) at row in cc
parts_by None Window true true context first at is none row = let wrong = rw (first, is, none, at) at row in cc
parts_by None Window true false context first at is none row = let wrong = rw (first, is, none, at) at row in cc
parts_by None Window false empty context first at is none row = let wrong = rw (first, is, at) at row in cc
parts_by None (Done answer) true true context first at is none row = let wrong = rw (first, is, none, at) at row in cc
parts_by None (Done answer) true false context first at is none row = let wrong = rw (first, is, none, at) at row in cc
parts_by None (Done answer) false empty context first at is none row = let wrong = rw (first, is, at) at row in cc

pub is_ready : (context : Context Thread) → IsReady context → ReadyParts context
is_ready context ready =
    parts_by (first_new (due_now context) context.self.noted) context.self.place context.self.flag (is_empty context.self.noted) context refl refl refl refl ready

-- ---- lists of such steps

run_suc : (state : Option Machine) (event : Event) (count : ℕ) → run state (replicate (suc count) event) ≡ happens (run state (replicate count event)) event
run_suc state event zero = refl
run_suc state event (suc count) = run_suc (happens state event) event count

pub run_more : (state : Option Machine) (event : Event) (count : ℕ) → run state (replicate (count + 1) event) ≡ happens (run state (replicate count event)) event
run_more state event count = ap (λ (n : ℕ). run state (replicate n event)) (sym (suc-eq-add-one count)) ∙ run_suc state event count

some_same : (one other : Machine) → Some one ≡ Some other → one ≡ other
some_same one other same = cc

-- one more step that is an instruction's
pub all_more : (thread : ℕ) (machine now : Machine) (made : ℕ) → AllGoOn thread machine made → run (Some machine) (replicate made (Step thread)) ≡ Some now → GoesOn thread now → AllGoOn thread machine (made + 1)
all_more thread machine now made all ran goes k before within is = elim (cases_lt k made) [
  | inl less ↦ all k before less is
  | inr most ↦
      let last : k ≡ made = omega (arith, within, most) in
      let now_is : Some before ≡ Some now = sym is ∙ ap (λ (n : ℕ). run (Some machine) (replicate n (Step thread))) last ∙ ran in
      subst (GoesOn thread) (sym (some_same before now now_is)) goes
]
