-- What is known where a row is the first that fits: one case a row, over contexts that are written out. All that holds of
-- every row is proved from such cases.
use Rattle.std.proofs.Common.{◌≡◌, ℕ, Bool, true, false, ℤ, List, [], ◌∷◌, Option, Some, None, refl, subst}
use Rattle.std.specs.Option.{option_map}
use Rattle.guest_core.specs.declared.places.Place.{Place}
use Rattle.guest_core.specs.declared.places.Place.TheVariants.{Loop, Start, Window, Done}
use Rattle.host_calls.specs.declared.queue.Instance.{Instance}
use Rattle.host_calls.specs.Marks.{first_new}
use Rattle.host_calls.specs.Queue.{due, first_of}
use Rattle.host_calls.specs.Shared.{Shared}
use Rattle.isa_exec.specs.Registers.{Registers}
use Rattle.guest_core.specs.Kept.{KeepsThread}
use Rattle.guest_core.specs.Machine.{Thread}
use Rattle.guest_core.specs.Rows.{Row, Note, Take, ClearFlag, Execute, Check, Enter, Return, note_row, take_row, clear_row, execute_row, check_row, enter_row, return_row, or_else, row_of}
use Rattle.guest_core.specs.System.{Context}

-- what a step sees of a thread that nothing of the emulator's own shows
pub record Seen : Type 0 where
  pub shared : Shared
  pub id : ℕ
  pub regs : Registers

abbrev pub dues : Seen → List Instance
dues by = due by.id by.shared.queue

abbrev pub thread_at : Registers → Place → Bool → List ℕ → Thread
thread_at regs place flag noted = record { regs = regs; place = place; flag = flag; noted = noted }

abbrev pub at : Seen → Place → Bool → List ℕ → Context Thread
at by place flag noted = record { shared = by.shared; id = by.id; self = thread_at by.regs place flag noted }

abbrev pub KeptAt : Seen → Place → Bool → List ℕ → Type 0
KeptAt by place flag noted = KeepsThread by.shared (thread_at by.regs place flag noted)

pub record Cases (P : Row → Context Thread → Type 0) : Type 0 where
  pub notes : (by : Seen) (place : Place) (flag : Bool) (noted : List ℕ) (instance : Instance) → KeptAt by place flag noted → first_new (dues by) noted ≡ Some instance → P (Note instance) (at by place flag noted)
  pub takes : (by : Seen) (noted : List ℕ) (instance : Instance) → KeptAt by Loop true noted → first_of (dues by) ≡ Some instance → P (Take instance) (at by Loop true noted)
  pub clears : (by : Seen) → KeptAt by Loop true [] → P ClearFlag (at by Loop true [])
  pub executes : (by : Seen) → KeptAt by Loop false [] → dues by ≡ [] → P Execute (at by Loop false [])
  pub checks : (by : Seen) (flag : Bool) (noted : List ℕ) → KeptAt by Start flag noted → P Check (at by Start flag noted)
  pub enters : (by : Seen) → KeptAt by Window false [] → dues by ≡ [] → P Enter (at by Window false [])
  pub returns : (by : Seen) (answer : ℤ) (flag : Bool) (noted : List ℕ) → KeptAt by (Done answer) flag noted → P (Return answer) (at by (Done answer) flag noted)

-- where nothing is noted, and nothing is due but what is noted, nothing is due
pub nothing_due : (due : List Instance) → first_new due [] ≡ None → due ≡ []
nothing_due [] none = refl
nothing_due (instance ∷ due) none = cc

pub option_none : {X Y : Type 0} (f : X → Y) (option : Option X) → option_map f option ≡ None → option ≡ None
option_none f None is = refl
option_none f (Some x) is = cc

-- one row, or the rows behind it
or_by : (first other : Option Row) (row : Row) (Goal : Type 0) → (first ≡ Some row → Goal) → (first ≡ None → other ≡ Some row → Goal) → or_else first other ≡ Some row → Goal
or_by (Some one) other row Goal here later is = here is
or_by None other row Goal here later is = later refl is

module _ (P : Row → Context Thread → Type 0) (cases : Cases P) (by : Seen) where
  -- the row is this one
  this : (one row : Row) (context : Context Thread) → Some one ≡ Some row → P one context → P row context
  this one row context same holds =
      let equal : one ≡ row = cc in
      subst (λ (r : Row). P r context) equal holds

  note_by : (new : Option Instance) (place : Place) (flag : Bool) (noted : List ℕ) (row : Row) → KeptAt by place flag noted → first_new (dues by) noted ≡ new → option_map Note new ≡ Some row → P row (at by place flag noted)
  note_by None place flag noted row keeps is fits = cc
  note_by (Some instance) place flag noted row keeps is fits = this (Note instance) row (at by place flag noted) fits (cases.notes by place flag noted instance keeps is)

  note_case : (place : Place) (flag : Bool) (noted : List ℕ) (row : Row) → KeptAt by place flag noted → note_row (at by place flag noted) ≡ Some row → P row (at by place flag noted)
  unfolding note_row
  note_case place flag noted row keeps fits = note_by (first_new (dues by) noted) place flag noted row keeps refl fits

  take_by : (first : Option Instance) (noted : List ℕ) (row : Row) → KeptAt by Loop true noted → first_of (dues by) ≡ first → option_map Take first ≡ Some row → P row (at by Loop true noted)
  take_by None noted row keeps is fits = cc
  take_by (Some instance) noted row keeps is fits = this (Take instance) row (at by Loop true noted) fits (cases.takes by noted instance keeps is)

  take_case : (place : Place) (flag : Bool) (noted : List ℕ) (row : Row) → KeptAt by place flag noted → take_row (at by place flag noted) ≡ Some row → P row (at by place flag noted)
  unfolding take_row
  take_case place false noted row keeps fits = cc
  take_case place true [] row keeps fits = cc
  take_case Loop true (one ∷ noted) row keeps fits = take_by (first_of (dues by)) (one ∷ noted) row keeps refl fits
  take_case Start true (one ∷ noted) row keeps fits = cc
  take_case Window true (one ∷ noted) row keeps fits = cc
  take_case (Done answer) true (one ∷ noted) row keeps fits = cc

  clear_case : (place : Place) (flag : Bool) (noted : List ℕ) (row : Row) → KeptAt by place flag noted → clear_row (at by place flag noted) ≡ Some row → P row (at by place flag noted)
  unfolding clear_row
  clear_case place false noted row keeps fits = cc
  clear_case place true (one ∷ noted) row keeps fits = cc
  clear_case Loop true [] row keeps fits = this ClearFlag row (at by Loop true []) fits (cases.clears by keeps)
  clear_case Start true [] row keeps fits = cc
  clear_case Window true [] row keeps fits = cc
  clear_case (Done answer) true [] row keeps fits = cc

  none_due : (place : Place) (flag : Bool) → note_row (at by place flag []) ≡ None → dues by ≡ []
  unfolding note_row
  none_due place flag none = nothing_due (dues by) (option_none Note (first_new (dues by) []) none)

  execute_case : (place : Place) (flag : Bool) (noted : List ℕ) (row : Row) → KeptAt by place flag noted → execute_row (at by place flag noted) ≡ Some row → note_row (at by place flag noted) ≡ None → P row (at by place flag noted)
  unfolding execute_row
  execute_case place true noted row keeps fits none = cc
  execute_case place false (one ∷ noted) row keeps fits none = let empty = keeps.flag_set refl in cc
  execute_case Loop false [] row keeps fits none = this Execute row (at by Loop false []) fits (cases.executes by keeps (none_due Loop false none))
  execute_case Start false [] row keeps fits none = cc
  execute_case Window false [] row keeps fits none = cc
  execute_case (Done answer) false [] row keeps fits none = cc

  check_case : (place : Place) (flag : Bool) (noted : List ℕ) (row : Row) → KeptAt by place flag noted → check_row (at by place flag noted) ≡ Some row → P row (at by place flag noted)
  unfolding check_row
  check_case Start flag noted row keeps fits = this Check row (at by Start flag noted) fits (cases.checks by flag noted keeps)
  check_case Loop flag noted row keeps fits = cc
  check_case Window flag noted row keeps fits = cc
  check_case (Done answer) flag noted row keeps fits = cc

  enter_case : (place : Place) (flag : Bool) (noted : List ℕ) (row : Row) → KeptAt by place flag noted → enter_row (at by place flag noted) ≡ Some row → note_row (at by place flag noted) ≡ None → P row (at by place flag noted)
  unfolding enter_row
  enter_case Window true noted row keeps fits none = let clear = keeps.by_place in cc
  enter_case Window false (one ∷ noted) row keeps fits none = let empty = keeps.flag_set refl in cc
  enter_case Window false [] row keeps fits none = this Enter row (at by Window false []) fits (cases.enters by keeps (none_due Window false none))
  enter_case Loop flag noted row keeps fits none = cc
  enter_case Start flag noted row keeps fits none = cc
  enter_case (Done answer) flag noted row keeps fits none = cc

  return_case : (place : Place) (flag : Bool) (noted : List ℕ) (row : Row) → KeptAt by place flag noted → return_row (at by place flag noted) ≡ Some row → P row (at by place flag noted)
  unfolding return_row
  return_case (Done answer) flag noted row keeps fits = this (Return answer) row (at by (Done answer) flag noted) fits (cases.returns by answer flag noted keeps)
  return_case Loop flag noted row keeps fits = cc
  return_case Start flag noted row keeps fits = cc
  return_case Window flag noted row keeps fits = cc

  -- the first row that fits
  row_case : (place : Place) (flag : Bool) (noted : List ℕ) (row : Row) → KeptAt by place flag noted → row_of (at by place flag noted) ≡ Some row → P row (at by place flag noted)
  unfolding row_of
  row_case place flag noted row keeps =
      let context = at by place flag noted in
      let Goal = P row context in
      or_by (note_row context) _ row Goal (λ fits. note_case place flag noted row keeps fits)
      (λ none. or_by (take_row context) _ row Goal (λ fits. take_case place flag noted row keeps fits)
      (λ untaken. or_by (clear_row context) _ row Goal (λ fits. clear_case place flag noted row keeps fits)
      (λ uncleared. or_by (execute_row context) _ row Goal (λ fits. execute_case place flag noted row keeps fits none)
      (λ unmade. or_by (check_row context) _ row Goal (λ fits. check_case place flag noted row keeps fits)
      (λ unchecked. or_by (enter_row context) _ row Goal (λ fits. enter_case place flag noted row keeps fits none)
      (λ unentered fits. return_case place flag noted row keeps fits))))))

-- what holds in each case holds of the row that fits
pub of_row : (P : Row → Context Thread → Type 0) → Cases P → (context : Context Thread) (row : Row) → KeepsThread context.shared context.self → row_of context ≡ Some row → P row context
of_row P cases context row keeps fits =
    row_case P cases (record { shared = context.shared; id = context.id; regs = context.self.regs }) context.self.place context.self.flag context.self.noted row keeps fits
