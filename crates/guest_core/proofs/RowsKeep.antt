-- That every row keeps what every state keeps.
use Rattle.std.proofs.Common.{◌≡◌, ℕ, Bool, true, false, ℤ, List, [], Option, Some, None, refl}
use Rattle.guest_core.specs.declared.calls.CallOutcome.{CallOutcome}
use Rattle.guest_core.specs.declared.calls.CallOutcome.TheVariants.{Answers, Ends}
use Rattle.guest_core.specs.declared.places.Place.{Place}
use Rattle.guest_core.specs.declared.places.Place.TheVariants.{Loop, Start, Window, Done}
use Rattle.guest_pages.specs.Apart.{IsApart, KeepsCode, Stays}
use Rattle.guest_pages.proofs.ApartFacts.{same_stays}
use Rattle.host_calls.specs.declared.queue.Instance.{Instance}
use Rattle.host_calls.specs.Queue.{sent_forced, taken_out}
use Rattle.host_calls.specs.Shared.{Shared}
use Rattle.isa_exec.specs.Registers.{Registers}
use Rattle.isa_step.specs.Instruction.{Calls, Faults, InstructionOutcome, Runs, instruction}
use Rattle.isa_step.proofs.CallFacts.{calls_stay}
use Rattle.isa_step.proofs.StayFacts.{instruction_stays}
use Rattle.guest_core.specs.Call.{called}
use Rattle.guest_core.specs.Kept.{CallKeeps, EachKeeps, KeepsThread}
use Rattle.guest_core.specs.Machine.{Thread}
use Rattle.guest_core.specs.Rows.{Row, Note, Take, ClearFlag, Execute, Check, Enter, Return, row_of, done, noted, taken, flag_cleared, executed, checked, entered, returned, after_call, after_instruction}
use Rattle.guest_core.specs.System.{After, Context, stays}
use Rattle.guest_core.proofs.CallFacts.{called_owes}
use Rattle.guest_core.proofs.RowCases.{Cases, KeptAt, Seen, at, of_row, thread_at}

-- nothing can be both written and executed afterwards, and the code stays, where nothing could before
abbrev pub Goes : Shared → Shared → Type 0
Goes before after = IsApart before.memory → Stays before.memory after.memory

abbrev pub SelfKeeps : Shared → Option Thread → Type 0
SelfKeeps shared None = Unit {0}
SelfKeeps shared (Some thread) = KeepsThread shared thread

pub record AfterKeeps (before : Shared) (after : After Thread) : Type 0 where
  pub goes : Goes before after.shared
  pub self : SelfKeeps after.shared after.self
  pub added : EachKeeps after.shared after.added

pub call_on : (place : Place) (before after : Shared) (regs : Registers) → KeepsCode before.memory after.memory → CallKeeps before regs place → CallKeeps after regs place
call_on Loop before after regs code call = tt
call_on Start before after regs code call =
    λ another. calls_stay another another regs before.memory after.memory before.held after.held code (call another)
call_on Window before after regs code call =
    λ another. calls_stay another another regs before.memory after.memory before.held after.held code (call another)
call_on (Done answer) before after regs code call =
    λ another. calls_stay another another regs before.memory after.memory before.held after.held code (call another)

-- a thread that stays as it was
pub thread_on : (thread : Thread) (before after : Shared) → Goes before after → KeepsThread before thread → KeepsThread after thread
thread_on thread before after goes keeps =
    let on = goes keeps.apart in
    record {
      apart = on.apart;
      flag_set = keeps.flag_set;
      by_place = keeps.by_place;
      at_call = call_on thread.place before after thread.regs on.code keeps.at_call;
    }

pub same_goes : (before after : Shared) → after.memory ≡ before.memory → Goes before after
same_goes before after same = λ apart. same_stays before.memory after.memory apart same

abbrev RowKeeps : Row → Context Thread → Type 0
RowKeeps row context = AfterKeeps context.shared (done row context)

stays_so : (by : Seen) (thread : Thread) → KeepsThread by.shared thread → AfterKeeps by.shared (stays by.shared thread)
stays_so by thread keeps = record { goes = same_goes by.shared by.shared refl; self = keeps; added = tt }

note_keeps : (by : Seen) (place : Place) (flag : Bool) (noted_ids : List ℕ) (instance : Instance) → KeptAt by place flag noted_ids → RowKeeps (Note instance) (at by place flag noted_ids)
unfolding noted
note_keeps by Loop flag noted_ids instance keeps = stays_so by _ (record { apart = keeps.apart; flag_set = λ clear. cc; by_place = tt; at_call = tt })
note_keeps by Start flag noted_ids instance keeps = stays_so by _ (record { apart = keeps.apart; flag_set = λ clear. cc; by_place = tt; at_call = keeps.at_call })
note_keeps by Window flag noted_ids instance keeps = stays_so by _ (record { apart = keeps.apart; flag_set = λ clear. cc; by_place = tt; at_call = keeps.at_call })
note_keeps by (Done answer) flag noted_ids instance keeps = stays_so by _ (record { apart = keeps.apart; flag_set = λ clear. cc; by_place = tt; at_call = keeps.at_call })

take_keeps : (by : Seen) (noted_ids : List ℕ) (instance : Instance) → KeptAt by Loop true noted_ids → RowKeeps (Take instance) (at by Loop true noted_ids)
unfolding taken
take_keeps by noted_ids instance keeps = record {
  goes = same_goes by.shared (record by.shared { queue = taken_out instance by.shared.queue }) refl;
  self = record { apart = keeps.apart; flag_set = keeps.flag_set; by_place = tt; at_call = tt };
  added = tt;
}

clear_keeps : (by : Seen) → KeptAt by Loop true [] → RowKeeps ClearFlag (at by Loop true [])
unfolding flag_cleared
clear_keeps by keeps = stays_so by _ (record { apart = keeps.apart; flag_set = λ clear. refl; by_place = tt; at_call = tt })

executed_by : (what : InstructionOutcome) (by : Seen) → instruction by.id by.regs by.shared.memory by.shared.held ≡ what → KeptAt by Loop false [] → AfterKeeps by.shared (after_instruction what (at by Loop false []))
executed_by (Runs regs memory held) by is keeps =
    let on = instruction_stays by.id by.regs regs by.shared.memory memory by.shared.held held keeps.apart is in
    record {
      goes = λ apart. on;
      self = record { apart = on.apart; flag_set = λ clear. refl; by_place = tt; at_call = tt };
      added = tt;
    }
executed_by Calls by is keeps = stays_so by _ (record {
  apart = keeps.apart;
  flag_set = λ clear. refl;
  by_place = tt;
  at_call = λ another. calls_stay by.id another by.regs by.shared.memory by.shared.memory by.shared.held by.shared.held (λ a. refl) is;
})
executed_by (Faults fault) by is keeps = record {
  goes = same_goes by.shared (record by.shared { queue = sent_forced by.id fault by.shared.queue }) refl;
  self = record { apart = keeps.apart; flag_set = λ clear. refl; by_place = tt; at_call = tt };
  added = tt;
}

execute_keeps : (by : Seen) → KeptAt by Loop false [] → RowKeeps Execute (at by Loop false [])
unfolding executed
execute_keeps by keeps = executed_by (instruction by.id by.regs by.shared.memory by.shared.held) by refl keeps

check_keeps : (by : Seen) (flag : Bool) (noted_ids : List ℕ) → KeptAt by Start flag noted_ids → RowKeeps Check (at by Start flag noted_ids)
unfolding checked
check_keeps by true noted_ids keeps = stays_so by _ (record { apart = keeps.apart; flag_set = keeps.flag_set; by_place = tt; at_call = tt })
check_keeps by false noted_ids keeps = stays_so by _ (record { apart = keeps.apart; flag_set = keeps.flag_set; by_place = refl; at_call = keeps.at_call })

entered_by : (outcome : CallOutcome) (shared : Shared) (by : Seen) → Goes by.shared shared → KeptAt by Window false [] → AfterKeeps by.shared (after_call outcome shared (at by Window false []))
entered_by (Answers answer) shared by goes keeps = record {
  goes = goes;
  self = record { apart = (goes keeps.apart).apart; flag_set = λ clear. refl; by_place = tt; at_call = call_on (Done answer) by.shared shared by.regs (goes keeps.apart).code keeps.at_call };
  added = tt;
}
entered_by (Ends end) shared by goes keeps = record {
  goes = goes;
  self = thread_on (thread_at by.regs Window false []) by.shared shared goes keeps;
  added = tt;
}

enter_keeps : (by : Seen) → KeptAt by Window false [] → RowKeeps Enter (at by Window false [])
unfolding entered
enter_keeps by keeps =
    let made = called by.id by.regs by.shared in
    entered_by made.outcome made.shared by (called_owes by.id by.regs by.shared).memory keeps

return_keeps : (by : Seen) (answer : ℤ) (flag : Bool) (noted_ids : List ℕ) → KeptAt by (Done answer) flag noted_ids → RowKeeps (Return answer) (at by (Done answer) flag noted_ids)
unfolding returned
return_keeps by answer flag noted_ids keeps = stays_so by _ (record { apart = keeps.apart; flag_set = keeps.flag_set; by_place = tt; at_call = tt })

keeping : Cases RowKeeps
keeping = record {
  notes = λ by place flag noted_ids instance keeps is. note_keeps by place flag noted_ids instance keeps;
  takes = λ by noted_ids instance keeps is. take_keeps by noted_ids instance keeps;
  clears = λ by keeps. clear_keeps by keeps;
  executes = λ by keeps none. execute_keeps by keeps;
  checks = λ by flag noted_ids keeps. check_keeps by flag noted_ids keeps;
  enters = λ by keeps none. enter_keeps by keeps;
  returns = λ by answer flag noted_ids keeps. return_keeps by answer flag noted_ids keeps;
}

pub row_keeps : (context : Context Thread) (row : Row) → KeepsThread context.shared context.self → row_of context ≡ Some row → AfterKeeps context.shared (done row context)
row_keeps context row keeps fits = of_row RowKeeps keeping context row keeps fits
