use Rattle.std.proofs.Common.{◌≡◌, ◌≤◌, length, drop, reverse}
use Rattle.std.specs.List.{flat_map}
use Rattle.image_store.specs.Storing.{AreDone, removal}
use Rattle.image_store.proofs.storing.remove_gone.Given as goal

-- what is behind the place was looked at
abbrev pub invariant-loop-place : goal.invariant-loop-place
invariant-loop-place g l = record {
  within : l.place ≤ length l.listed;
  done : AreDone (flat_map (removal l.after) (reverse (drop l.place l.listed))) (g.F.Folder.tree l.fn.folder) (g.F.Folder.tree l.folder);
  reads : g.F.Folder.failed_reads l.folder ≡ g.F.Folder.failed_reads l.fn.folder;
  writes : g.F.Folder.failed_writes l.folder ≡ g.F.Folder.failed_writes l.fn.folder;
}

abbrev pub decreases-loop-place : goal.decreases-loop-place
decreases-loop-place g l = l.place
