use Rattle.std.proofs.Common.{ap, false, map, sym, ◌+◌, ◌∙◌}
use Rattle.isa_asm.specs.Seen.{piece_seen}
use Rattle.isa_asm.specs.declared.source.Mode.TheVariants.{Front}
use Rattle.isa_asm.proofs.SourceFacts.{at_go, at_label, at_line, at_part, at_same}
use Rattle.isa_asm.proofs.source.split.Goals as goal
use Rattle.isa_asm.proofs.source.split.Goals.{in-Go, in-Part+in_ok-push_part-in-Part, in-Label+in_ok-push_label-in-Label, in-Line+in_ok-push_part-in-Line}

pub loop-place-preserved : goal.loop-place-preserved
loop-place-preserved c = elim c.match-cut_of.branch [
  | in-Go w ↦
      at_same _ _ _ _ _ _ (ap (λ pieces. map piece_seen pieces.items) w.pieces-is) w.scan-is
      (at_go _ _ _ _ _ c.loop-place.invariant c.loop-place-test.true (sym c.cut_of.ensures ∙ w.in-Go.is) w.more-scan.ensures.line w.more-scan.ensures.mode w.more-scan.ensures.foreign w.more-scan.ensures.start w.more-scan.ensures.end)
  | in-Part+in_ok-push_part-in-Part w ↦
      at_same _ _ _ _ _ _ (ap (λ pieces. map piece_seen pieces.items) w.pieces-is) w.scan-is
      (at_part _ _ _ _ _ _ c.loop-place.invariant c.loop-place-test.true (sym c.cut_of.ensures ∙ w.in-Part.is) w.in_ok-push_part-in-Part.ensures w.fresh-scan-in-Part.ensures)
  | in-Label+in_ok-push_label-in-Label w ↦
      at_same _ _ _ _ _ _ (ap (λ pieces. map piece_seen pieces.items) w.pieces-is) w.scan-is
      (at_label _ _ _ _ _ _ c.loop-place.invariant c.loop-place-test.true (sym c.cut_of.ensures ∙ w.in-Label.is) w.in_ok-push_label-in-Label.ensures w.fresh-scan-in-Label.ensures)
  | in-Line+in_ok-push_part-in-Line w ↦
      at_same _ _ _ _ _ _ (ap (λ pieces. map piece_seen pieces.items) w.pieces-is) w.scan-is
      (at_line _ _ _ _ _ _ c.loop-place.invariant c.loop-place-test.true (sym c.cut_of.ensures ∙ w.in-Line.is) w.in_ok-push_part-in-Line.ensures
      (w.fresh-scan-in-Line.ensures ∙ ap (λ line. record { line = line; mode = Front; foreign = false; start = c.loop-place.place + 1; end = c.loop-place.place + 1 }) w.next_line.ensures))
]
