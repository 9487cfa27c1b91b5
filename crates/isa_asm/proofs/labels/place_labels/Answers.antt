use Rattle.std.proofs.Common.{ap, ◌∙◌}
use Rattle.isa_asm.specs.Seen.{spot_in}
use Rattle.isa_asm.proofs.PlaceFacts.{ends_step, places_done, spots_skip, spots_step}
use Rattle.isa_asm.proofs.labels.place_labels.Goals as goal
use Rattle.isa_asm.proofs.labels.place_labels.Goals.{in-Ok+in_ok-note-in-Ok, in-Err}

pub loop-index-preserved : goal.loop-index-preserved
loop-index-preserved c = elim c.match-piece_meaning.branch [
  | in-Ok+in_ok-note-in-Ok w ↦ record {
    spots = λ name.
        spots_step _ _ _ name c.loop-index.index c.loop-index.layout c.match-piece_meaning.layout c.args.pieces.now _ _ c.loop-index-test.true w.in-Ok.ensures
        (w.layout-is ∙ w.after-layout.ensures) (ap (λ spots. spot_in spots name) w.spots-is ∙ w.in_ok-note-in-Ok.ensures name) (c.loop-index.invariant.spots name);
    ends = ends_step _ c.loop-index.index c.loop-index.layout c.match-piece_meaning.layout c.args.pieces.now _ _ c.loop-index-test.true w.in-Ok.ensures
        (w.layout-is ∙ w.after-layout.ensures) c.loop-index.invariant.ends;
  }
  | in-Err w ↦ record {
    spots = λ name.
        spots_skip _ _ _ name c.loop-index.index c.loop-index.layout c.match-piece_meaning.layout c.args.pieces.now _ _ c.loop-index-test.true w.in-Err.ensures
        w.layout-is (ap (λ spots. spot_in spots name) w.spots-is) (c.loop-index.invariant.spots name);
    ends = ends_step _ c.loop-index.index c.loop-index.layout c.match-piece_meaning.layout c.args.pieces.now _ _ c.loop-index-test.true w.in-Err.ensures
        w.layout-is c.loop-index.invariant.ends;
  }
]

pub returns : goal.returns
returns c = places_done (spot_in c.loop-index.spots) c.loop-index.index c.loop-index.layout c.args.pieces.now c.loop-index-test.false c.loop-index.invariant.spots c.loop-index.invariant.ends
