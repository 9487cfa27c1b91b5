-- A plain instruction is an event, whatever other threads there are, and leaves the thread ready for the next.
use Rattle.std.proofs.Common.{◌≡◌, ℕ, List, [], set, Option, Some, None, refl, ap, sym, subst, ◌∙◌, ◌<◌, zero, suc, ◌∷◌, replicate, arith}
use Rattle.guest_core.specs.declared.ends.End.{End}
use Rattle.guest_core.specs.declared.events.Event.TheVariants.{Step}
use Rattle.guest_core.specs.declared.thread.Thread as code
use Rattle.std.proofs.Math.Numerals.{suc-eq-add-one}
use Rattle.isa_exec.specs.Registers.{Registers}
use Rattle.guest_pages.specs.Ranges.{Range}
use Rattle.word_memory.specs.declared.reservations.Held.{Held}
use Rattle.guest_core.specs.Ahead.{GoesOn, GoesOnAs, IsReady, AllGoOn}
use Rattle.guest_core.specs.Event.{event_after, happens, run}
use Rattle.guest_core.specs.Kept.{IdsRise}
use Rattle.guest_core.specs.Machine.{Thread}
use Rattle.guest_core.specs.Rows.{executed, instruction_of}
use Rattle.guest_core.specs.State.{AllSettled, MadePlain, context, goes_on, settled_after, PlainRun}
use Rattle.guest_core.specs.System.{After}
use Rattle.host_calls.specs.declared.host.Host.{Host}
use Rattle.host_calls.specs.Host.{shared_of}
use Rattle.host_calls.specs.Marks.{Marked, first_new, noted_of, still_noted}
use Rattle.host_calls.specs.Queue.{due}
use Rattle.host_calls.specs.Shared.{clock_after, later}
use Rattle.isa_step.specs.Instruction.{IsPlain, InstructionOutcome, Runs, Calls, Faults}
use Rattle.isa_step.specs.Running.{PlainRun as PlainRunOf}
use Rattle.guest_core.proofs.AheadFacts.{is_ready, ready_is, all_more, run_more}
use Rattle.guest_core.proofs.RowFits.{execute_after}
use Rattle.guest_core.proofs.StateFacts.{StandsAt, found_at, machine_of, members_of, now_of, step_is, rise_set, stands_set}

-- the time changes no row
ready_later : (host : Host) (was : code.Thread) → IsReady (context host was) → IsReady (context (now_of host) was)
ready_later host was ready =
    let parts = is_ready (context host was) ready in
    ready_is (context (now_of host) was) parts.none parts.loop parts.clear

module _ (host next : Host) (was new : code.Thread) (made : MadePlain host was next new) where
  -- it is ready again
  pub ready_on : IsReady (context host was) → IsReady (context next new)
  ready_on ready =
      let parts = is_ready (context host was) ready in
      rw made.new_is (ready_is (context next (record was { regs = made.regs }))
      (ap (λ (p : Marked). first_new (due was.id p.queue) (noted_of was.id p)) made.pending ∙ parts.none) parts.loop parts.clear)

  settled_is : AllSettled host.pending → settled_after was.id (executed (context (now_of host) was)) ≡ goes_on next new None
  unfolding executed
  settled_is settled =
      rw (made.runs, made.new_is, made.shared_is, made.pending)
      (ap (λ (ids : List ℕ). let self : Thread = record { regs = made.regs; place = was.place; flag = was.flag; noted = ids } in let after : After Thread = record { shared = record (later (shared_of host)) { memory = made.memory; held = made.held }; self = Some self; added = []; end = None } in after) (sym (settled was.id)))

  pub plain_step : (threads : List code.Thread) (i : ℕ) → AllSettled host.pending → IdsRise 0 (members_of host.pending threads) → StandsAt i was threads → IsReady (context host was) → event_after (machine_of host threads None) (Step was.id) ≡ Some (machine_of next (set threads i new) None)
  plain_step threads i settled rise stands ready =
      let parts = is_ready (context host was) ready in
      step_is host (now_of host) next threads i was new None refl rise stands
      (ap (λ (t : code.Thread). t.id) made.new_is)
      (execute_after (context (now_of host) was) (goes_on next new None) parts.none parts.loop parts.clear (settled_is settled))
      (λ of apart. ap (noted_of of) made.pending ∙ settled of ∙ ap (λ (p : Marked). still_noted (noted_of of host.pending) (due of p.queue)) (sym made.pending))

-- the machine goes on where its thread at that place is ready and its instruction is plain
pub goes_on_at : (host : Host) (threads : List code.Thread) (i : ℕ) (was : code.Thread) → IdsRise 0 (members_of host.pending threads) → StandsAt i was threads → IsReady (context host was) → IsPlain (instruction_of (context host was)) → GoesOn was.id (machine_of host threads None)
goes_on_at host threads i was rise stands ready plain =
    (refl, subst (λ (thread : Option Thread). GoesOnAs was.id thread (machine_of host threads None)) (sym (found_at threads i 0 was host.pending rise stands)) (ready, plain))

pub goes_on_of : (host : Host) (threads : List code.Thread) (i : ℕ) (was : code.Thread) (end : Option End) → IdsRise 0 (members_of host.pending threads) → StandsAt i was threads → GoesOn was.id (machine_of host threads end) → IsReady (context host was) × IsPlain (instruction_of (context host was))
goes_on_of host threads i was end rise stands goes =
    subst (λ (thread : Option Thread). GoesOnAs was.id thread (machine_of host threads end)) (found_at threads i 0 was host.pending rise stands) goes.1

-- ---- many of them

-- the host and the thread after so many plain instructions
abbrev pub host_after : ℕ → Host → List Range → List Held → Host
host_after count old memory held = record old { pages = memory; held = held; clock = clock_after count old.clock }

pub plain_run : (count : ℕ) (old : Host) (was : code.Thread) (regs : Registers) (memory : List Range) (held : List Held) → PlainRunOf count was.id was.regs old.pages old.held regs memory held → PlainRun count old was (host_after count old memory held) (record was { regs = regs })
unfolding clock_after
plain_run zero old was regs memory held (same, stays, keeps) = rw (same, stays, keeps) (refl, refl)
plain_run (suc count) old was regs memory held (between, middle, now, ran, made) = (
  host_after count old middle now,
  record was { regs = between },
  plain_run count old was between middle now ran,
  record {
    regs = regs;
    memory = memory;
    held = held;
    runs = made;
    new_is = refl;
    shared_is = refl;
    pending = refl;
  },
)

set_same : (threads : List code.Thread) (i : ℕ) (was : code.Thread) → StandsAt i was threads → set threads i was ≡ threads
set_same [] i was stands = absurd stands
set_same (thread ∷ threads) zero was stands = ap (λ (t : code.Thread). t ∷ threads) (sym stands)
set_same (thread ∷ threads) (suc i) was stands = ap (λ (rest : List code.Thread). thread ∷ rest) (set_same threads i was stands)

set_again : (threads : List code.Thread) (i : ℕ) (one other : code.Thread) → set (set threads i one) i other ≡ set threads i other
set_again [] i one other = refl
set_again (thread ∷ threads) zero one other = refl
set_again (thread ∷ threads) (suc i) one other = ap (λ (rest : List code.Thread). thread ∷ rest) (set_again threads i one other)

plain_of : (what : InstructionOutcome) (regs : Registers) (memory : List Range) (held : List Held) → what ≡ Runs regs memory held → IsPlain what
plain_of (Runs r m h) regs memory held is = tt
plain_of Calls regs memory held is = cc
plain_of (Faults fault) regs memory held is = cc

pub record RanPlain (count : ℕ) (old : Host) (was : code.Thread) (next : Host) (new : code.Thread) (threads : List code.Thread) (i : ℕ) : Type 0 where
  pub ran : run (Some (machine_of old threads None)) (replicate count (Step was.id)) ≡ Some (machine_of next (set threads i new) None)
  pub plain : AllGoOn was.id (machine_of old threads None) count
  pub ready : IsReady (context next new)
  pub settled : AllSettled next.pending
  pub rise : IdsRise 0 (members_of next.pending (set threads i new))
  pub id : new.id ≡ was.id

none_less : (k : ℕ) (Goal : Type 0) → k < 0 → Goal
none_less k Goal less = absurd (omega (arith, less))

one_more : (count : ℕ) (old middle next : Host) (was between new : code.Thread) (threads : List code.Thread) (i : ℕ) → StandsAt i was threads → MadePlain middle between next new → RanPlain count old was middle between threads i → RanPlain (suc count) old was next new threads i
one_more count old middle next was between new threads i stands made before =
    let here = set threads i between in
    let at = stands_set threads i was between stands in
    let this : new.id ≡ between.id = ap (λ (t : code.Thread). t.id) made.new_is in
    let plain = plain_of (instruction_of (context middle between)) made.regs made.memory made.held made.runs in
    let step : event_after (machine_of middle here None) (Step was.id) ≡ Some (machine_of next (set threads i new) None) =
    ap (λ (n : ℕ). event_after (machine_of middle here None) (Step n)) (sym before.id)
    ∙ plain_step middle next between new made here i before.settled before.rise at before.ready
    ∙ ap (λ (all : List code.Thread). Some (machine_of next all None)) (set_again threads i between new) in
    let goes : GoesOn was.id (machine_of middle here None) = subst (λ (n : ℕ). GoesOn n (machine_of middle here None)) before.id (goes_on_at middle here i between before.rise at before.ready plain) in
    record {
      ran = ap (λ (n : ℕ). run (Some (machine_of old threads None)) (replicate n (Step was.id))) (suc-eq-add-one count)
          ∙ run_more (Some (machine_of old threads None)) (Step was.id) count
          ∙ ap (λ state. happens state (Step was.id)) before.ran
          ∙ step;
      plain = subst (AllGoOn was.id (machine_of old threads None)) (sym (suc-eq-add-one count)) (all_more was.id (machine_of old threads None) (machine_of middle here None) count before.plain before.ran goes);
      ready = ready_on middle next between new made before.ready;
      settled = subst AllSettled (sym made.pending) before.settled;
      rise = subst (λ (all : List code.Thread). IdsRise 0 (members_of next.pending all)) (set_again threads i between new) (rise_set here i 0 between new middle.pending next.pending before.rise at this);
      id = this ∙ before.id;
    }

pub ran_plain : (count : ℕ) (old next : Host) (was new : code.Thread) (threads : List code.Thread) (i : ℕ) → AllSettled old.pending → IdsRise 0 (members_of old.pending threads) → StandsAt i was threads → IsReady (context old was) → PlainRun count old was next new → RanPlain count old was next new threads i
ran_plain zero old next was new threads i settled rise stands ready ran =
    let whole : set threads i new ≡ threads = ap (set threads i) ran.1 ∙ set_same threads i was stands in
    record {
      ran = ap (λ (h : Host). Some (machine_of h threads None)) (sym ran.0) ∙ ap (λ (all : List code.Thread). Some (machine_of next all None)) (sym whole);
      plain = λ k before less is. none_less k (GoesOn was.id before) less;
      ready = subst (λ (t : code.Thread). IsReady (context next t)) (sym ran.1) (subst (λ (h : Host). IsReady (context h was)) (sym ran.0) ready);
      settled = subst (λ (h : Host). AllSettled h.pending) (sym ran.0) settled;
      rise = subst (λ (all : List code.Thread). IdsRise 0 (members_of next.pending all)) (sym whole) (subst (λ (h : Host). IdsRise 0 (members_of h.pending threads)) (sym ran.0) rise);
      id = ap (λ (t : code.Thread). t.id) ran.1;
    }
ran_plain (suc count) old next was new threads i settled rise stands ready ran =
    one_more count old ran.0 next was ran.1 new threads i stands ran.3 (ran_plain count old ran.0 was ran.1 threads i settled rise stands ready ran.2)
