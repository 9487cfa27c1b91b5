use Rattle.std.proofs.Common.{◌≡◌, take}
use Rattle.std.specs.List.{flat_map}
use Rattle.image_store.specs.Storing.{AreDone, making}
use Rattle.image_store.proofs.storing.make_new.Given as goal

-- what stands at the paths so far is made
abbrev pub invariant-loop-path : goal.invariant-loop-path
invariant-loop-path g l = record {
  done : AreDone (flat_map (making l.before l.after) (take l.path-index l.paths)) (g.F.Folder.tree l.fn.folder) (g.F.Folder.tree l.folder);
  reads : g.F.Folder.failed_reads l.folder ≡ g.F.Folder.failed_reads l.fn.folder;
  writes : g.F.Folder.failed_writes l.folder ≡ g.F.Folder.failed_writes l.fn.folder;
}
