use Rattle.std.proofs.Common.{Some}
use Rattle.guest_core.specs.declared.events.Event.TheVariants.{Step}
use Rattle.guest_core.proofs.RunFacts.{run_take_more, same_event}
use Rattle.guest_core.proofs.machine.Core.run_events.Goals as goal

pub loop-index-preserved : goal.loop-index-preserved
loop-index-preserved c =
    let more = run_take_more (Some c.args.self.now) c.args.events.now c.loop-index.index (Step 0) c.loop-index-test.true in
    rw (more, c.loop-index.invariant) c.in_default.ensures.happens

pub returns-in-Err-clause-stopped : goal.returns-in-Err-clause-stopped
returns-in-Err-clause-stopped c =
    let more = run_take_more (Some c.args.self.now) c.args.events.now c.loop-index.index (Step 0) c.loop-index-test.true in
    record {
      within = c.loop-index-test.true;
      before = rw c.in-Err.ensures.unchanged c.loop-index.invariant;
      not_now = λ refusal. rw (more, c.loop-index.invariant) (c.in-Err.ensures.refused (cc));
      not_enabled = λ none. let stays = rw (more, c.loop-index.invariant) at none in let refusal = c.in-Err.ensures.not_enabled stays in cc;
      steady = λ d takes memory.
          let same = same_event c.args.events.now c.loop-index.index d (Step 0) c.loop-index-test.true in
          let is_ok = c.in-Err.ensures.steady (rw (same, c.in-Err.ensures.unchanged) at takes) in cc;
    }
