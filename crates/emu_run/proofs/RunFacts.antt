-- A run goes on by a turn.
use Rattle.file_table.specs.State.{Files, outputs_of}
use Rattle.std.proofs.Common.{◌≡◌, ℕ, ◌+◌, ◌<◌, ◌≤◌, List, [], ◌∷◌, ◌++◌, Option, Some, None, length, refl, ap, sym, ◌∙◌, length-append, arith}
use Rattle.dev_board.specs.Seen.{DeviceSeen}
use Rattle.guest_core.specs.declared.ends.End.{End}
use Rattle.guest_core.specs.declared.events.Event.{Event}
use Rattle.guest_core.specs.declared.events.Event.TheVariants.{Step}
use Rattle.guest_core.specs.Machine.{Machine, first_thread}
use Rattle.guest_core.specs.Event.{run}
use Rattle.guest_core.proofs.RunFacts.{run_append}
use Rattle.emu_run.specs.declared.solo.Halt.{Halt}
use Rattle.emu_run.specs.declared.solo.Halt.TheVariants as halts
use Rattle.emu_run.specs.declared.solo.Run.{Run}
use Rattle.emu_run.specs.Running.{CoreStops, Makes, RunsFrom}
use Rattle.emu_run.specs.Sending.{sent}
use Rattle.emu_run.specs.Turning.{Halted, KeepsSent, Stepped, WentAhead}

-- a run so far, from how it was at first: with what was seen of the devices then, and is seen of them
pub record SoFar {D : Type 0} (first now : Run D) (before seen : List (Option DeviceSeen)) : Type 0 where
  pub ran : run (Some first.core) now.journal.events ≡ Some now.core
  pub within : length now.journal.events ≤ first.journal.budget
  pub budget : now.journal.budget ≡ first.journal.budget
  pub count : length before ≡ length now.core.shared.files.devices
  pub sent : seen ≡ sent before now.core.shared.files.devices

pub runs_from : {D : Type 0} (first now : Run D) (before seen : List (Option DeviceSeen)) → SoFar first now before seen → RunsFrom first.core first.journal.budget now.journal now.core
runs_from first now before seen so_far = record {
  enabled = so_far.ran;
  within = omega (arith, so_far.within, so_far.budget);
  budget_is = so_far.budget;
}

ran_on : {D : Type 0} (first now next : Run D) → run (Some first.core) now.journal.events ≡ Some now.core → Makes now.core now.journal.events next.core next.journal.events → run (Some first.core) next.journal.events ≡ Some next.core
ran_on first now next ran makes =
    ap (run (Some first.core)) makes.noted
    ∙ run_append (Some first.core) now.journal.events makes.events
    ∙ ap (λ state. run state makes.events) ran
    ∙ makes.made

longer : (now next : List Event) (old new : Machine) → Makes old now new next → length now ≤ length next
longer now next old new makes = rw (makes.noted, length-append now makes.events) (omega arith)

pub ahead_longer : {D : Type 0} (now next : Run D) (limit : ℕ) → WentAhead now next limit → length now.journal.events ≤ length next.journal.events
ahead_longer now next limit ahead = longer now.journal.events next.journal.events now.core next.core ahead.made

-- steps that touch no file
pub so_far_ahead : {D : Type 0} (first now next : Run D) (before seen : List (Option DeviceSeen)) (limit : ℕ) → SoFar first now before seen → WentAhead now next limit → length now.journal.events + limit ≤ first.journal.budget → SoFar first next before seen
so_far_ahead first now next before seen limit so_far ahead room = record {
  ran = ran_on first now next so_far.ran ahead.made;
  within = omega (arith, ahead.few, room);
  budget = ahead.budget ∙ so_far.budget;
  count = so_far.count ∙ ap (λ (files : Files). length files.devices) (sym ahead.files);
  sent = so_far.sent ∙ ap (λ (files : Files). sent before files.devices) (sym ahead.files);
}

ran_more : {D : Type 0} (first now next : Run D) → run (Some first.core) now.journal.events ≡ Some now.core → Stepped now next → run (Some first.core) next.journal.events ≡ Some next.core
ran_more first now next ran stepped =
    ran_on first now next ran (record { events = Step first_thread ∷ []; made = stepped.event; noted = stepped.noted })

pub turn_longer : {D : Type 0} (now next : Run D) → Stepped now next → length next.journal.events ≡ length now.journal.events + 1
turn_longer now next stepped = ap length stepped.noted ∙ length-append now.journal.events (Step first_thread ∷ [])

-- a turn
pub so_far_turned : {D : Type 0} (first now next : Run D) (before seen after : List (Option DeviceSeen)) → SoFar first now before seen → Stepped now next → KeepsSent now.core.shared.files.devices next.core.shared.files.devices seen after → length next.core.shared.files.devices ≡ length now.core.shared.files.devices → next.journal.budget ≡ now.journal.budget → length now.journal.events < first.journal.budget → SoFar first next before after
so_far_turned first now next before seen after so_far stepped keeps same budget room = record {
  ran = ran_more first now next so_far.ran stepped;
  within = omega (arith, turn_longer now next stepped, room);
  budget = budget ∙ so_far.budget;
  count = so_far.count ∙ sym same;
  sent = keeps before so_far.count so_far.sent;
}

-- where a turn stopped, so did the run
pub stopped_at : {D : Type 0} (halt : Halt) (first now next : Run D) (before seen after : List (Option DeviceSeen)) → SoFar first now before seen → length now.journal.events < first.journal.budget → next.journal.budget ≡ now.journal.budget → (next.board ≡ now.board → after ≡ seen) → Halted halt now next seen after → CoreStops first.core first.journal.budget before halt next.core next.journal after
stopped_at (halts.Device device) first now next before seen after so_far more budget still halted = (
  record {
    enabled = ran_more first now next so_far.ran halted.0;
    within = omega (arith, turn_longer now next halted.0, so_far.budget, budget, more);
    budget_is = budget ∙ so_far.budget;
  },
  record {
    front = now.journal.events;
    earlier = now.core;
    events_are = halted.0.noted;
    ran = so_far.ran;
    writes = halted.2;
    sent_up_to = halted.1 before so_far.count so_far.sent;
  },
)
stopped_at halts.Memory first now next before seen after so_far more budget still halted = (
  record {
    enabled = ap (run (Some first.core)) halted.events ∙ so_far.ran ∙ ap Some (sym halted.core);
    within = omega (arith, ap length halted.events, so_far.within, so_far.budget, budget, more);
    budget_is = budget ∙ so_far.budget;
  },
  still halted.board ∙ so_far.sent ∙ ap (λ (core : Machine). sent before core.shared.files.devices) (sym halted.core),
)

-- where memory was wanting, the run stopped as it was
pub stopped_here : {D : Type 0} (first now : Run D) (before seen : List (Option DeviceSeen)) → SoFar first now before seen → CoreStops first.core first.journal.budget before halts.Memory now.core now.journal seen
stopped_here first now before seen so_far = (runs_from first now before seen so_far, so_far.sent)
