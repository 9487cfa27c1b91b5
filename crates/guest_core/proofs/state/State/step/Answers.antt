use Rattle.std.proofs.Common.{None, Option, ap, get_or, subst, sym, ◌∙◌}
use Rattle.guest_core.specs.declared.ends.End.{End}
use Rattle.guest_core.specs.declared.events.Event.TheVariants.{Step}
use Rattle.guest_core.specs.declared.thread.Thread as code
use Rattle.guest_core.specs.Event.{event_after}
use Rattle.guest_core.specs.Runs.{EventIsSteady}
use Rattle.guest_core.specs.State.{machine}
use Rattle.host_calls.specs.declared.host.Host.{Host}
use Rattle.host_calls.specs.Host.{shared_of}
use Rattle.host_calls.specs.Marks.{noted_of}
use Rattle.guest_core.proofs.StateFacts.{at_stands, keeps_at, machine_of, stands_at, steady_at, steady_later, step_is}
use Rattle.guest_core.proofs.state.State.step.Goals as goal

pub row-requires : goal.row-requires
row-requires c =
    let was = c.index_mut.result.now in
    let old = c.args.self.now in
    let stands = stands_at old.threads.items c.args.place was was c.requires.within (sym c.index_mut.ensures.value) in
    record {
      clear = λ clear.
          ap (λ (h : Host). noted_of was.id h.pending) c.tick.ensures
          ∙ (keeps_at old.threads.items c.args.place was old.host.pending (shared_of old.host) c.requires.keeps.each stands).flag_set clear;
    }

pub returns-in-Ok-clause-happens : goal.returns-in-Ok-clause-happens
returns-in-Ok-clause-happens c = λ d.
    let was = c.index_mut.result.now in
    let old = c.args.self.now in
    let stands = stands_at old.threads.items c.args.place was was c.requires.within (sym c.index_mut.ensures.value) in
    ap (λ (e : Option End). event_after (machine_of old.host old.threads.items e) (Step (get_or old.threads.items c.args.place d).id)) c.requires.lives
    ∙ ap (λ (t : code.Thread). event_after (machine_of old.host old.threads.items None) (Step t.id)) (at_stands old.threads.items c.args.place was d stands)
    ∙ step_is old.host c.tick.new.self c.row.new.host old.threads.items c.args.place was c.row.new.self c.in-Ok.end c.tick.ensures c.requires.keeps.ids_rise stands c.row.ensures.id c.in-Ok.ensures.ok c.in-Ok.ensures.others

pub returns-in-Err-clause-steady : goal.returns-in-Err-clause-steady
returns-in-Err-clause-steady c = λ steady.
    let was = c.index_mut.result.now in
    let old = c.args.self.now in
    let stands = stands_at old.threads.items c.args.place was was c.requires.within (sym c.index_mut.ensures.value) in
    let its = subst (λ (t : code.Thread). EventIsSteady (machine old) (Step t.id)) (sym c.index_mut.ensures.value) (steady was) in
    c.in-Err.ensures.steady (steady_later old.host c.tick.new.self was c.tick.ensures (steady_at old.host old.threads.items c.args.place was old.end c.requires.keeps.ids_rise stands its))
