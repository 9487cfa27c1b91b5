use Rattle.std.proofs.Common.{◌≡◌, ℕ, Option, true, is_some, List, ap, map, refl, subst, sym, ◌∙◌}
use Rattle.guest_core.specs.declared.events.Event.TheVariants.{Step}
use Rattle.guest_core.specs.declared.thread.Thread as code
use Rattle.guest_core.specs.Event.{is_enabled}
use Rattle.guest_core.specs.Kept.{IdsRise}
use Rattle.guest_core.specs.Machine.{Machine}
use Rattle.guest_core.specs.State.{machine, member_of}
use Rattle.guest_core.specs.System.{found}
use Rattle.guest_core.proofs.EnabledFacts.{gone_disabled, live_enabled, none_end, some_end_disabled}
use Rattle.guest_core.proofs.PlaceFacts.{rise_any}
use Rattle.guest_core.proofs.StateFacts.{some_there}
use Rattle.guest_core.proofs.machine.Core.can_step.Goals as goal

pub place_of-requires : goal.place_of-requires
place_of-requires c = λ pending.
    subst (λ (threads : List code.Thread). IdsRise 0 (map (member_of pending) threads)) (sym c.deref.ensures.value)
    (rise_any c.self.inside.state.threads.items c.self.inside.state.host.pending pending 0 c.self.invariant.keeps.ids_rise)

pub returns-then-is_some : goal.returns-then-is_some
returns-then-is_some c =
    sym (ap (λ (m : Machine). is_enabled m (Step c.args.thread)) (sym c.self.view_is) ∙ some_end_disabled c.args.thread (machine c.self.inside.state) (sym c.is_some.ensures ∙ c.if-is_some.true))

pub returns-in-Some : goal.returns-in-Some
returns-in-Some c =
    let state = c.self.inside.state in
    sym (ap (λ (m : Machine). is_enabled m (Step c.args.thread)) (sym c.self.view_is)
    ∙ live_enabled c.args.thread (machine state) (none_end state.end (sym c.is_some.ensures ∙ c.if-is_some.false)) c.self.invariant.keeps.noted_due
    (subst (λ (threads : List code.Thread). is_some (found c.args.thread (map (member_of state.host.pending) threads)) ≡ true) c.deref.ensures.value
    (some_there c.place_of.result c.deref.result.now state.host.pending c.args.thread (subst (λ (threads : List code.Thread). IdsRise 0 (map (member_of state.host.pending) threads)) (sym c.deref.ensures.value) c.self.invariant.keeps.ids_rise) (ap (λ (place : Option ℕ). is_some place) c.in-Some.is) c.place_of.ensures.there c.place_of.ensures.id)))

pub returns-in-None : goal.returns-in-None
returns-in-None c =
    let state = c.self.inside.state in
    sym (ap (λ (m : Machine). is_enabled m (Step c.args.thread)) (sym c.self.view_is)
    ∙ gone_disabled c.args.thread (machine state) (ap (λ (threads : List code.Thread). found c.args.thread (map (member_of state.host.pending) threads)) (sym c.deref.ensures.value) ∙ c.in-None.ensures.none refl state.host.pending))
