use Rattle.std.proofs.Common.{◌≡◌, ◌++◌, map, take}
use Rattle.image_store.specs.AllPaths.{path_under}
use Rattle.image_store.proofs.all_paths.push_names.Given as goal

-- the paths of the names so far stand behind the others
abbrev pub invariant-loop-name : goal.invariant-loop-name
invariant-loop-name l = l.paths.items ≡ l.fn.paths.items ++ map (path_under l.path) (take l.name-index l.name-items)
