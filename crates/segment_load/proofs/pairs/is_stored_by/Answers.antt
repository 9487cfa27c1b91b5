use Rattle.std.proofs.Common.{map, drop, arith, sym, inl, inr, ◌∙◌, ◌-◌}
use Rattle.elf_file.specs.Views.{segment_image}
use Rattle.segment_load.proofs.CountFacts.{stored_rest, stored_yes}
use Rattle.segment_load.proofs.CountFacts.{image_before}
use Rattle.segment_load.proofs.pairs.is_stored_by.Goals as goal
use Rattle.segment_load.proofs.pairs.is_stored_by.Goals.{else-segment-ne0-via-then-segment-ne0+else-touches, else-segment-ne0-via-else-segment-ne0}

pub segments-preserved-then-touches : goal.segments-preserved-then-touches
segments-preserved-then-touches c =
    let all = map segment_image c.args.segments.now in
    let next = image_before c.args.segments.now c.segments.left c.index-segments-left.result (omega arith) c.segments.invariant.few c.index-segments-left.is in
    record {
      few = omega (arith, c.segments.invariant.few);
      stored = stored_yes (drop (c.segments.left - 1) all) (drop c.segments.left all) (segment_image c.index-segments-left.result) c.args.page next (λ none. omega (arith, none, c.if-segment-ne0.true)) (sym c.touches.ensures ∙ c.if-touches.true);
    }

pub segments-preserved : goal.segments-preserved
segments-preserved c =
    let all = map segment_image c.args.segments.now in
    let next = image_before c.args.segments.now c.segments.left c.index-segments-left.result (omega arith) c.segments.invariant.few c.index-segments-left.is in
    record {
      few = omega (arith, c.segments.invariant.few);
      stored = c.segments.invariant.stored ∙ stored_rest (drop (c.segments.left - 1) all) (drop c.segments.left all) (segment_image c.index-segments-left.result) c.args.page next
          (elim c.else-segment-ne0.branch [ else-segment-ne0-via-then-segment-ne0+else-touches w ↦ inr (sym w.touches.ensures ∙ w.if-touches.false) | else-segment-ne0-via-else-segment-ne0 w ↦ inl (omega (arith, w.if-segment-ne0.false)) ]);
    }
