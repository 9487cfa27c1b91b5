use Rattle.std.proofs.Common.{◌≡◌, ◌<◌, ℕ, length, List, Some, ap, get_or, map, subst, sym, ◌∙◌}
use Rattle.std.specs.Option.{option_map}
use Rattle.guest_core.specs.declared.thread.Thread as code
use Rattle.guest_core.specs.Kept.{IdsRise}
use Rattle.guest_core.specs.Machine.{Machine}
use Rattle.guest_core.specs.State.{member_of, self_of}
use Rattle.guest_core.specs.System.{found}
use Rattle.guest_core.proofs.PlaceFacts.{rise_any}
use Rattle.guest_core.proofs.StateFacts.{found_at, stands_at}
use Rattle.guest_core.proofs.machine.Core.thread.Goals as goal

pub place_of-requires : goal.place_of-requires
place_of-requires c = λ pending.
    subst (λ (threads : List code.Thread). IdsRise 0 (map (member_of pending) threads)) (sym c.deref.ensures.value)
    (rise_any c.self.inside.state.threads.items c.self.inside.state.host.pending pending 0 c.self.invariant.keeps.ids_rise)

there : (c : goal.After-index) → found c.args.thread c.args.self.now.members ≡ Some (self_of c.self.inside.state.host.pending c.index.result.now)
there c =
    let state = c.self.inside.state in
    let was = c.index.result.now in
    let within = subst (λ (threads : List code.Thread). c.in-Some.place < length threads) c.deref.ensures.value c.in-Some.ensures.there in
    ap (λ (m : Machine). found c.args.thread m.members) (sym c.self.view_is)
    ∙ ap (λ (n : ℕ). found n (map (member_of state.host.pending) state.threads.items)) (sym (ap (λ (t : code.Thread). t.id) c.index.ensures ∙ ap (λ (threads : List code.Thread). (get_or threads c.in-Some.place was).id) (sym c.deref.ensures.value) ∙ c.in-Some.ensures.id was))
    ∙ found_at state.threads.items c.in-Some.place 0 was state.host.pending c.self.invariant.keeps.ids_rise (stands_at state.threads.items c.in-Some.place was was within (sym c.index.ensures))

pub returns-in-Some-clause-regs : goal.returns-in-Some-clause-regs
returns-in-Some-clause-regs c = sym (ap (option_map (λ of. of.regs)) (there c))

pub returns-in-Some-clause-place : goal.returns-in-Some-clause-place
returns-in-Some-clause-place c = sym (ap (option_map (λ of. of.place)) (there c))

pub returns-in-Some-clause-flag : goal.returns-in-Some-clause-flag
returns-in-Some-clause-flag c = sym (ap (option_map (λ of. of.flag)) (there c))
