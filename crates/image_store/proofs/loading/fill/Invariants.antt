use Rattle.std.proofs.Common.{◌≡◌, ◌≤◌, take}
use Rattle.image_store.specs.Loading.{IsFilledWith, loaded_of}
use Rattle.image_store.proofs.loading.fill.Given as goal

-- the tree has what was taken so far
abbrev pub invariant-loop-entry : goal.invariant-loop-entry
invariant-loop-entry g l = record {
  filled : IsFilledWith (g.F.Folder.tree l.fn.folder) (loaded_of (take l.entry-index l.listed)) l.before l.tree;
  within : l.before ≤ 268435456;
  folder : g.F.Folder.tree l.folder ≡ g.F.Folder.tree l.fn.folder;
  still : g.F.Folder.failed_reads l.folder ≡ g.F.Folder.failed_reads l.fn.folder;
  writes : g.F.Folder.failed_writes l.folder ≡ g.F.Folder.failed_writes l.fn.folder;
}
