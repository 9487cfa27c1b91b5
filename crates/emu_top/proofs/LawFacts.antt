-- That the journal of each answer is lawful.
use Rattle.std.proofs.Common.{◌≡◌, ◌⊎◌, inl, inr, ℕ, ◌≤◌, List, [], ◌∷◌, Option, length, sym, subst, arith}
use Rattle.cli_words.specs.Command.{AllLawful, Asked, Budget, Choice, Env, Input, IsAsked, Keep, budget_of, budgets, most_budget}
use Rattle.guest_core.specs.Machine.{Machine}
use Rattle.image_store.specs.declared.folder.Entry.{Entry}
use Rattle.linux_model.specs.Process.{ProcessState}
use Rattle.emu_top.specs.declared.cause.Cause.{Cause}
use Rattle.emu_top.specs.declared.ends.End.{End}
use Rattle.emu_top.specs.Causes.{AtChoosing, AtEvents, AtFile, AtLoading, AtNaming, AtSource, AtStart, AtStoring, AtWords, Faults, Step, Stops}
use Rattle.emu_run.specs.Journal.{History}
use Rattle.emu_top.specs.Lawful.{IsLawful}
use Rattle.emu_top.specs.Outside.{Outside}
use Rattle.emu_top.specs.Solo.{Ends, Finishes, Journeys}

-- a budget that words ask for is at most the greatest
few_by : (choices : List Choice) → AllLawful choices → budget_of (budgets choices) ≤ most_budget
few_by [] all = omega arith
few_by (Budget budget ∷ choices) all = all.0
few_by (Env entry ∷ choices) all = few_by choices all.1
few_by (Input name ∷ choices) all = few_by choices all.1
few_by (Keep ∷ choices) all = few_by choices all.1

asked_few : (words : List (List ℕ)) (asked : Asked) → IsAsked words asked → asked.budget ≤ most_budget
asked_few words asked asks = rw asks.2 (few_by asks.0.choices asks.1.lawful)

run_lawful : (folder : Option (List Entry)) (words : List (List ℕ)) (devices : ℕ) (journal : History) (last : Machine) (process : ProcessState) → Journeys folder words devices journal last process → IsLawful journal
run_lawful folder words devices journal last process journeys = record {
  budget_fits = rw journeys.budget_is (asked_few words journeys.prepared.asked journeys.prepared.asks);
  within = journeys.within;
}

-- a journal of no run
empty_lawful : (journal : History) → journal.events ≡ [] → journal.budget ≡ 0 → IsLawful journal
empty_lawful journal none budget = record {
  budget_fits = rw budget (omega arith);
  within = rw none (omega arith);
}

ends_lawful : (before after : Outside) (words : List (List ℕ)) (end : End) (journal : History) → Ends before after words end journal → IsLawful journal
ends_lawful before after words end journal (inl ran) = run_lawful _ words _ journal ran.last ran.is_run.process ran.is_run.journeys
ends_lawful before after words end journal (inr made) = empty_lawful journal made.no_event made.no_budget

pub finish_lawful : (before after : Outside) (words : List (List ℕ)) (end : End) (status : ℕ) (journal : History) → Finishes before after words end status journal → IsLawful journal
finish_lawful before after words end status journal finishes = ends_lawful before after words end journal finishes.ends

stop_lawful : (before after : Outside) (words : List (List ℕ)) (step : Step) (journal : History) → Stops before after words step journal → IsLawful journal
stop_lawful before after words (AtWords fault) journal stops = empty_lawful journal stops.no_event stops.no_budget
stop_lawful before after words (AtLoading fault) journal stops = empty_lawful journal stops.no_event stops.no_budget
stop_lawful before after words (AtNaming path) journal stops = empty_lawful journal stops.no_event stops.no_budget
stop_lawful before after words (AtChoosing path) journal stops = empty_lawful journal stops.no_event stops.no_budget
stop_lawful before after words (AtFile fault) journal stops = empty_lawful journal stops.no_event stops.no_budget
stop_lawful before after words (AtSource fault) journal stops = empty_lawful journal stops.no_event stops.no_budget
stop_lawful before after words (AtStart fault) journal stops = empty_lawful journal stops.no_event stops.no_budget
stop_lawful before after words (AtEvents halt) journal stops = run_lawful _ words _ journal stops.last stops.process stops.journeys
stop_lawful before after words (AtStoring fault) journal stops = elim stops.stores [
  | inl ran ↦ run_lawful _ words _ journal ran.last ran.is_run.process ran.is_run.journeys
  | inr made ↦ empty_lawful journal made.no_event made.no_budget
]

pub fault_lawful : (before after : Outside) (words : List (List ℕ)) (cause : Cause) (journal : History) → Faults before after words cause journal → IsLawful journal
fault_lawful before after words cause journal (inl at_step) = stop_lawful before after words at_step.step journal at_step.stops
fault_lawful before after words cause journal (inr behind) = ends_lawful before after words behind.end journal behind.ends
