-- A path more is looked at.
use Rattle.std.proofs.Common.{◌∙◌, List, ℕ, subst}
use Rattle.image_store.specs.Storing.{AreBegun, AreDone, making}
use Rattle.image_store.proofs.StoreFacts.{begun_next, done_next}
use Rattle.image_store.proofs.storing.make_new.Goals as goal

pub loop-path-preserved : goal.loop-path-preserved
loop-path-preserved g c = record {
  done = done_next (making c.args.before.now c.args.after.now) c.args.paths.now c.loop-path.path-index c.path-item.result (g.F.Folder.tree c.args.folder.now) (g.F.Folder.tree c.loop-path.folder) (g.F.Folder.tree c.make_at.new.folder)
      c.loop-path-test.true c.path-item.is c.loop-path.invariant.done
      (subst (λ (p : List ℕ). AreDone (making c.args.before.now c.args.after.now p) (g.F.Folder.tree c.loop-path.folder) (g.F.Folder.tree c.make_at.new.folder)) c.as_str.ensures.same c.in-Ok.ensures.done);
  reads = c.in-Ok.ensures.reads ∙ c.loop-path.invariant.reads;
  writes = c.in-Ok.ensures.writes.still ∙ c.loop-path.invariant.writes;
}

pub returns-in-Err-clause-left : goal.returns-in-Err-clause-left
returns-in-Err-clause-left g c =
    begun_next (making c.args.before.now c.args.after.now) c.args.paths.now c.loop-path.path-index c.path-item.result (g.F.Folder.tree c.args.folder.now) (g.F.Folder.tree c.loop-path.folder) (g.F.Folder.tree c.make_at.new.folder)
    c.loop-path-test.true c.path-item.is c.loop-path.invariant.done
    (subst (λ (p : List ℕ). AreBegun (making c.args.before.now c.args.after.now p) (g.F.Folder.tree c.loop-path.folder) (g.F.Folder.tree c.make_at.new.folder)) c.as_str.ensures.same c.in-Err.ensures.left)
