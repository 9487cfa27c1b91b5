use Rattle.std.proofs.Common.{ℕ, ◌<◌, ◌+◌, ◌-◌, ◌/◌, [], arith}
use Rattle.host_calls.specs.Marks.{Marked}
use Rattle.host_calls.specs.Queue.{empty_queue}
use Rattle.guest_core.proofs.PlaceFacts.{above_more, below_more, none_between}
use Rattle.guest_core.proofs.state.place_of.Goals as goal

none : Marked
none = record { queue = empty_queue; marks = [] }

half : (low high : ℕ) → low < high → low + (high - low) / 2 < high
half low high less = omega (arith, less)

pub loop-low-preserved-then-at-id-2 : goal.loop-low-preserved-then-at-id-2
loop-low-preserved-then-at-id-2 c =
    let middle = c.loop-low.low + (c.loop-low.high - c.loop-low.low) / 2 in
    let under = half c.loop-low.low c.loop-low.high c.loop-low-test.true in
    record {
      within = c.loop-low.invariant.within;
      below = λ k d less. below_more c.args.threads.now none k middle c.args.id d _ (c.requires none) less (omega (arith, under, c.loop-low.invariant.within)) c.if-at-id-2.true;
      above = c.loop-low.invariant.above;
    }

pub loop-low-preserved : goal.loop-low-preserved
loop-low-preserved c =
    let middle = c.loop-low.low + (c.loop-low.high - c.loop-low.low) / 2 in
    let under = half c.loop-low.low c.loop-low.high c.loop-low-test.true in
    record {
      within = omega (arith, under, c.loop-low.invariant.within);
      below = c.loop-low.invariant.below;
      above = λ k d more within. above_more c.args.threads.now none k middle c.args.id d c.index-threads-middle.result (c.requires none) more within (omega (arith, c.if-at-id.false, c.if-at-id-2.false));
    }

pub returns-clause-none : goal.returns-clause-none
returns-clause-none c = λ same pending.
    none_between c.args.threads.now pending c.loop-low.low c.loop-low.high c.args.id c.loop-low-test.false c.loop-low.invariant.below c.loop-low.invariant.above
