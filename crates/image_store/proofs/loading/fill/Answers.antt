-- The tree is filled entry by entry.
use Rattle.std.proofs.Common.{refl, sym, subst, ap, ◌∙◌, arith, take}
use Rattle.file_tree.specs.Nodes.{Tree}
use Rattle.file_tree.specs.Making.{is_own}
use Rattle.image_store.specs.declared.folder.Listed.{Listed}
use Rattle.image_store.specs.Loading.{IsFilledWith, IsTakenBy, NotPut, loaded_of}
use Rattle.image_store.proofs.LoadFacts.{filled_next, no_link, not_filled, start_filled}
use Rattle.image_store.proofs.loading.fill.Goals as goal

pub loop-entry-init : goal.loop-entry-init
loop-entry-init g c = record {
  filled = subst (λ (t : Tree). IsFilledWith (g.F.Folder.tree c.args.folder.now) (loaded_of (take 0 c.args.listed.now)) 0 t) (sym c.in-Ok.ensures.alone)
      (start_filled (g.F.Folder.tree c.args.folder.now) c.args.listed.now);
  within = omega arith;
  folder = refl;
  still = refl;
  writes = refl;
}

pub take-requires-clause-plain : goal.take-requires-clause-plain
take-requires-clause-plain g c loaded other =
    no_link 0 c.args.listed.now c.loop-entry.entry-index c.entry-item.result c.requires c.loop-entry-test.true
    (ap (λ (e : Listed). is_own e.path) (sym c.entry-item.is) ∙ loaded) (ap (λ (e : Listed). e.kind) (sym c.entry-item.is) ∙ other)

pub returns-in-Err-take-clause-fault : goal.returns-in-Err-take-clause-fault
returns-in-Err-take-clause-fault g c =
    not_filled c.in-Err-take.fault (g.F.Folder.tree c.args.folder.now) (g.F.Folder.failed_reads c.args.folder.now) (g.F.Folder.failed_reads c.loop-entry.folder) (g.F.Folder.failed_reads c.take.new.folder)
    c.args.listed.now c.loop-entry.entry-index c.entry-item.result c.loop-entry.before c.loop-entry.tree c.loop-entry-test.true c.entry-item.is c.in-Err-take.ensures.loaded c.loop-entry.invariant.still
    (subst (λ f. NotPut f (g.F.Folder.failed_reads c.loop-entry.folder) (g.F.Folder.failed_reads c.take.new.folder) c.entry-item.result c.loop-entry.before c.in-Err-take.fault) c.loop-entry.invariant.folder c.in-Err-take.ensures.fault)
    c.loop-entry.invariant.filled

pub loop-entry-preserved : goal.loop-entry-preserved
loop-entry-preserved g c = record {
  filled = filled_next (g.F.Folder.tree c.args.folder.now) c.args.listed.now c.loop-entry.entry-index c.entry-item.result c.loop-entry.before c.in-Ok-take.count c.loop-entry.tree c.take.new.tree
      c.loop-entry-test.true c.entry-item.is
      (subst (λ f. IsTakenBy (is_own c.entry-item.result.path) f c.entry-item.result c.loop-entry.before c.in-Ok-take.count c.loop-entry.tree c.take.new.tree) c.loop-entry.invariant.folder c.in-Ok-take.ensures.ok)
      c.loop-entry.invariant.filled;
  within = c.in-Ok-take.ensures.within;
  folder = c.in-Ok-take.ensures.tree ∙ c.loop-entry.invariant.folder;
  still = c.in-Ok-take.ensures.still ∙ c.loop-entry.invariant.still;
  writes = c.in-Ok-take.ensures.writes ∙ c.loop-entry.invariant.writes;
}
