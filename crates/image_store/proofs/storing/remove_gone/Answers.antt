-- An entry more is looked at, from the last on.
use Rattle.std.proofs.Common.{◌<◌, ◌∙◌, arith}
use Rattle.image_store.specs.Storing.{removal}
use Rattle.image_store.proofs.StoreFacts.{begun_back, done_back}
use Rattle.image_store.proofs.storing.remove_gone.Goals as goal

pub loop-place-preserved : goal.loop-place-preserved
loop-place-preserved g c =
    let some : 0 < c.loop-place.place = omega arith in
    record {
      within = omega arith;
      done = done_back (removal c.args.after.now) c.args.listed.now c.loop-place.place c.index-listed-place.result (g.F.Folder.tree c.args.folder.now) (g.F.Folder.tree c.loop-place.folder) (g.F.Folder.tree c.remove_at.new.folder)
          some c.loop-place.invariant.within c.index-listed-place.is c.loop-place.invariant.done c.in-Ok.ensures.done;
      reads = c.in-Ok.ensures.reads ∙ c.loop-place.invariant.reads;
      writes = c.in-Ok.ensures.writes.still ∙ c.loop-place.invariant.writes;
    }

pub returns-in-Err-clause-left : goal.returns-in-Err-clause-left
returns-in-Err-clause-left g c =
    let some : 0 < c.loop-place.place = omega arith in
    begun_back (removal c.args.after.now) c.args.listed.now c.loop-place.place c.index-listed-place.result (g.F.Folder.tree c.args.folder.now) (g.F.Folder.tree c.loop-place.folder) (g.F.Folder.tree c.remove_at.new.folder)
    some c.loop-place.invariant.within c.index-listed-place.is c.loop-place.invariant.done c.in-Err.ensures.left
