use Rattle.std.proofs.Common.{Some}
use Rattle.linux_model.specs.declared.labels.Label.TheVariants.{Instr}
use Rattle.linux_model.proofs.FollowFacts.{follow_take_more}
use Rattle.linux_model.proofs.following.follow.Goals as goal

pub loop-index-preserved : goal.loop-index-preserved
loop-index-preserved c =
    let more = follow_take_more (Some c.args.start) c.args.labels.now c.loop-index.index (Instr 0) c.loop-index-test.true in
    rw (more, c.loop-index.invariant) (rw c.in-Ok-true.field-0-test at c.in-Ok-true.ensures.made)

pub returns-in-Ok-false-clause-stopped : goal.returns-in-Ok-false-clause-stopped
returns-in-Ok-false-clause-stopped c =
    let more = follow_take_more (Some c.args.start) c.args.labels.now c.loop-index.index (Instr 0) c.loop-index-test.true in
    record {
      within = c.loop-index-test.true;
      last = c.loop-index.process;
      before = c.loop-index.invariant;
      refused = rw (more, c.loop-index.invariant) (rw c.in-Ok-false.field-0-test at c.in-Ok-false.ensures.made);
    }

pub returns-in-Err-clause-stopped : goal.returns-in-Err-clause-stopped
returns-in-Err-clause-stopped c =
    let more = follow_take_more (Some c.args.start) c.args.labels.now c.loop-index.index (Instr 0) c.loop-index-test.true in
    record {
      index = c.loop-index.index;
      within = c.loop-index-test.true;
      allowed = λ none. let refused = c.in-Err.ensures.not_allowed (rw (more, c.loop-index.invariant) at none) in cc;
    }
