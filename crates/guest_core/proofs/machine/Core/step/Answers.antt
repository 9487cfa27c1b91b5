use Rattle.std.proofs.Common.{◌≡◌, ◌<◌, ℕ, List, None, Option, Some, OnOk, false, true, is_some, ap, get_or, length, map, refl, subst, sym, ◌∙◌}
use Rattle.guest_core.specs.declared.events.Event.TheVariants.{Step}
use Rattle.guest_core.specs.declared.thread.Thread as code
use Rattle.guest_core.specs.Event.{event_after}
use Rattle.guest_core.specs.Kept.{IdsRise}
use Rattle.guest_core.specs.Machine.{Machine, Thread}
use Rattle.guest_core.specs.declared.ends.End.{End}
use Rattle.guest_core.specs.State.{machine, member_of}
use Rattle.guest_core.specs.System.{found}
use Rattle.guest_core.proofs.EnabledFacts.{gone_not, live_not_none, none_end, some_end_not}
use Rattle.guest_core.proofs.OutputFacts.{event_dies, event_grows}
use Rattle.guest_core.proofs.PlaceFacts.{rise_any}
use Rattle.guest_core.proofs.SoundFacts.{event_code, try_sound}
use Rattle.guest_core.proofs.StateFacts.{any_of, step_of, there_at}
use Rattle.guest_core.proofs.machine.Core.step.Goals as goal
use Rattle.guest_core.proofs.machine.Core.step.Goals.{in-Ok, in-Err}

pub place_of-requires : goal.place_of-requires
place_of-requires c = λ pending.
    subst (λ (threads : List code.Thread). IdsRise 0 (map (member_of pending) threads)) (sym c.deref.ensures.value)
    (rise_any c.self.inside.state.threads.items c.self.inside.state.host.pending pending 0 c.self.invariant.keeps.ids_rise)

within : (c : goal.Joined-step) → c.in-Some.place < length c.self.inside.state.threads.items
within c = subst (λ (threads : List code.Thread). c.in-Some.place < length threads) c.deref.ensures.value c.in-Some.ensures.there

its_id : (c : goal.Joined-step) (d : code.Thread) → (get_or c.self.inside.state.threads.items c.in-Some.place d).id ≡ c.args.thread
its_id c d = subst (λ (threads : List code.Thread). (get_or threads c.in-Some.place d).id ≡ c.args.thread) c.deref.ensures.value (c.in-Some.ensures.id d)

made : (c : goal.Joined-step) → OnOk c.step.result (event_after (machine c.self.inside.state) (Step c.args.thread) ≡ Some (machine c.step.new.self))
made c =
    step_of c.step.result c.self.inside.state.threads.items c.in-Some.place c.args.thread (machine c.self.inside.state) (machine c.step.new.self) (within c) (its_id c) c.step.ensures.happens

pub invariant_of-self : goal.invariant_of-self
invariant_of-self c =
    try_sound c.step.result (Step c.args.thread) (machine c.self.inside.state) (machine c.step.new.self) c.self.inside.decoder (made c) c.step.ensures.err c.self.invariant

pub returns-after-step-clause-happens : goal.returns-after-step-clause-happens
returns-after-step-clause-happens c = elim c.match-step.branch [
  | in-Ok w ↦
      let d = any_of c.self.inside.state.threads.items c.in-Some.place (within c) in
      rw (w.result-is, ← c.self.view_is) (ap (λ (n : ℕ). event_after (machine c.self.inside.state) (Step n)) (sym (its_id c d)) ∙ w.in-Ok.ensures.happens d)
  | in-Err w ↦ rw w.result-is tt
]

pub returns-after-step-clause-outputs : goal.returns-after-step-clause-outputs
returns-after-step-clause-outputs c = elim c.match-step.branch [
  | in-Ok w ↦
      let d = any_of c.self.inside.state.threads.items c.in-Some.place (within c) in
      rw (w.result-is, ← c.self.view_is) (event_grows (Step c.args.thread) (machine c.self.inside.state) (machine c.step.new.self) (ap (λ (n : ℕ). event_after (machine c.self.inside.state) (Step n)) (sym (its_id c d)) ∙ w.in-Ok.ensures.happens d))
  | in-Err w ↦ rw w.result-is tt
]

pub returns-after-step-clause-lives : goal.returns-after-step-clause-lives
returns-after-step-clause-lives c = elim c.match-step.branch [
  | in-Ok w ↦
      let d = any_of c.self.inside.state.threads.items c.in-Some.place (within c) in
      rw (w.result-is, ← c.self.view_is) (event_dies (Step c.args.thread) (machine c.self.inside.state) (machine c.step.new.self) (ap (λ (n : ℕ). event_after (machine c.self.inside.state) (Step n)) (sym (its_id c d)) ∙ w.in-Ok.ensures.happens d))
  | in-Err w ↦ rw w.result-is tt
]

pub returns-after-step-clause-code : goal.returns-after-step-clause-code
returns-after-step-clause-code c = elim c.match-step.branch [
  | in-Ok w ↦
      let d = any_of c.self.inside.state.threads.items c.in-Some.place (within c) in
      rw (w.result-is, ← c.self.view_is) (event_code (Step c.args.thread) (machine c.self.inside.state) (machine c.step.new.self) c.self.inside.decoder c.self.invariant (ap (λ (n : ℕ). event_after (machine c.self.inside.state) (Step n)) (sym (its_id c d)) ∙ w.in-Ok.ensures.happens d))
  | in-Err w ↦ rw w.result-is tt
]

pub returns-after-step-clause-not_enabled : goal.returns-after-step-clause-not_enabled
returns-after-step-clause-not_enabled c = λ none.
    let state = c.self.inside.state in
    absurd (live_not_none c.args.thread (machine state) (none_end state.end (sym c.is_some.ensures ∙ c.if-is_some.false)) c.self.invariant.keeps.noted_due
    (there_at state.threads.items state.host.pending c.in-Some.place c.args.thread c.self.invariant.keeps.ids_rise (within c) (its_id c))
    (ap (λ (m : Machine). event_after m (Step c.args.thread)) c.self.view_is ∙ none))

ended : (c : goal.Then-is_some) → event_after c.args.self.now (Step c.args.thread) ≡ None
ended c =
    ap (λ (m : Machine). event_after m (Step c.args.thread)) (sym c.self.view_is)
    ∙ some_end_not c.args.thread (machine c.self.inside.state) (sym c.is_some.ensures ∙ c.if-is_some.true)

pub returns-then-is_some-clause-refused : goal.returns-then-is_some-clause-refused
returns-then-is_some-clause-refused c = λ same. ended c

pub returns-then-is_some-clause-steady : goal.returns-then-is_some-clause-steady
returns-then-is_some-clause-steady c = λ takes. absurd (takes.enabled (ended c))

gone : (c : goal.In-None) → event_after c.args.self.now (Step c.args.thread) ≡ None
gone c =
    let state = c.self.inside.state in
    ap (λ (m : Machine). event_after m (Step c.args.thread)) (sym c.self.view_is)
    ∙ gone_not c.args.thread (machine state) (ap (λ (threads : List code.Thread). found c.args.thread (map (member_of state.host.pending) threads)) (sym c.deref.ensures.value) ∙ c.in-None.ensures.none refl state.host.pending)

pub returns-in-None-clause-refused : goal.returns-in-None-clause-refused
returns-in-None-clause-refused c = λ same. gone c

pub returns-in-None-clause-steady : goal.returns-in-None-clause-steady
returns-in-None-clause-steady c = λ takes. absurd (takes.enabled (gone c))

pub returns-then-is_some-clause-live : goal.returns-then-is_some-clause-live
returns-then-is_some-clause-live c = λ lives there same.
    let some : is_some c.self.inside.state.end ≡ true = sym c.is_some.ensures ∙ c.if-is_some.true in
    let none : is_some c.self.inside.state.end ≡ false = ap (λ (m : Machine). is_some m.end) c.self.view_is ∙ ap (λ (e : Option End). is_some e) lives in
    cc

pub returns-in-None-clause-live : goal.returns-in-None-clause-live
returns-in-None-clause-live c = λ lives there same.
    let state = c.self.inside.state in
    let none : found c.args.thread (map (member_of state.host.pending) state.threads.items) ≡ None = ap (λ (threads : List code.Thread). found c.args.thread (map (member_of state.host.pending) threads)) (sym c.deref.ensures.value) ∙ c.in-None.ensures.none refl state.host.pending in
    let gone : is_some (found c.args.thread c.args.self.now.members) ≡ false = ap (λ (m : Machine). is_some (found c.args.thread m.members)) (sym c.self.view_is) ∙ ap (λ (t : Option Thread). is_some t) none in
    cc

pub returns-after-step-clause-live : goal.returns-after-step-clause-live
returns-after-step-clause-live c = λ lives there same. elim c.match-step.branch [
  | in-Ok w ↦ let is = w.result-is in cc
  | in-Err w ↦ let is = w.result-is in cc
]
