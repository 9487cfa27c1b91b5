use Rattle.std.proofs.Common.{None, Option, Some, ap, get_or, refl, replicate, set, subst, sym, ◌∙◌}
use Rattle.guest_core.specs.declared.ends.End.{End}
use Rattle.guest_core.specs.declared.events.Event.TheVariants.{Step}
use Rattle.guest_core.specs.declared.thread.Thread as code
use Rattle.guest_core.specs.Ahead.{AllGoOn, GoesOn, IsReady}
use Rattle.guest_core.specs.Event.{run}
use Rattle.guest_core.specs.State.{context}
use Rattle.guest_core.proofs.PlainFacts.{RanPlain, goes_on_of, ran_plain}
use Rattle.guest_core.proofs.StateFacts.{StandsAt, at_stands, machine_of, stands_at, stands_set}
use Rattle.guest_core.proofs.state.State.run_on.Goals as goal

pub returns-then-not-is_ready-clause-stops : goal.returns-then-not-is_ready-clause-stops
returns-then-not-is_ready-clause-stops c = λ d less goes.
    let old = c.args.self.now in
    let was = c.index.result.now in
    let stands = stands_at old.threads.items c.args.place was was c.requires.within (sym c.index.ensures) in
    let its = subst (λ (t : code.Thread). GoesOn t.id (machine_of old.host old.threads.items old.end)) (at_stands old.threads.items c.args.place was d stands) goes in
    let ready = c.is_ready.ensures.no (goes_on_of old.host old.threads.items c.args.place was old.end c.requires.keeps.ids_rise stands its).0 in
    let not = c.if-not-is_ready.true in
    cc

here : (c : goal.After-self-1) → StandsAt c.args.place c.index_mut.result.now c.args.self.now.threads.items
here c = stands_at c.args.self.now.threads.items c.args.place c.index_mut.result.now c.index_mut.result.now c.requires.within (sym c.index_mut.ensures.value)

went : (c : goal.After-self-1) → RanPlain c.go_ahead.result c.args.self.now.host c.index_mut.result.now c.go_ahead.new.host c.go_ahead.new.self c.args.self.now.threads.items c.args.place
went c =
    let old = c.args.self.now in
    let was = c.index_mut.result.now in
    let ready = subst (λ (t : code.Thread). IsReady (context old.host t)) (c.index.ensures ∙ at_stands old.threads.items c.args.place was c.index.result.now (here c)) (c.if-not-is_ready.ensures.yes refl) in
    ran_plain c.go_ahead.result old.host c.go_ahead.new.host was c.go_ahead.new.self old.threads.items c.args.place (c.if-not-is_ready.ensures.settled refl) c.requires.keeps.ids_rise (here c) ready c.go_ahead.ensures.ran

pub returns-clause-ran : goal.returns-clause-ran
returns-clause-ran c = λ d.
    let old = c.args.self.now in
    let was = c.index_mut.result.now in
    let id = (get_or old.threads.items c.args.place d).id in
    ap (λ (e : Option End). run (Some (machine_of old.host old.threads.items e)) (replicate c.go_ahead.result (Step id))) c.requires.lives
    ∙ ap (λ (t : code.Thread). run (Some (machine_of old.host old.threads.items None)) (replicate c.go_ahead.result (Step t.id))) (at_stands old.threads.items c.args.place was d (here c))
    ∙ (went c).ran
    ∙ ap (λ (e : Option End). Some (machine_of c.go_ahead.new.host (set old.threads.items c.args.place c.go_ahead.new.self) e)) (sym c.requires.lives)

pub returns-clause-plain : goal.returns-clause-plain
returns-clause-plain c = λ d.
    let old = c.args.self.now in
    let was = c.index_mut.result.now in
    subst (λ (e : Option End). AllGoOn (get_or old.threads.items c.args.place d).id (machine_of old.host old.threads.items e) c.go_ahead.result) (sym c.requires.lives)
    (subst (λ (t : code.Thread). AllGoOn t.id (machine_of old.host old.threads.items None) c.go_ahead.result) (sym (at_stands old.threads.items c.args.place was d (here c))) (went c).plain)

pub returns-clause-stops : goal.returns-clause-stops
returns-clause-stops c = λ d less goes.
    let old = c.args.self.now in
    let was = c.index_mut.result.now in
    let new = c.go_ahead.new.self in
    let after = set old.threads.items c.args.place new in
    let its = subst (λ n. GoesOn n (machine_of c.go_ahead.new.host after old.end)) (ap (λ (t : code.Thread). t.id) (at_stands old.threads.items c.args.place was d (here c)) ∙ sym (went c).id) goes in
    c.go_ahead.ensures.stops less (goes_on_of c.go_ahead.new.host after c.args.place new old.end (went c).rise (stands_set old.threads.items c.args.place was new (here c)) its).1
