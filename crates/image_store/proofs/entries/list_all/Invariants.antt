use Rattle.std.proofs.Common.{◌≡◌, map, take}
use Rattle.image_store.specs.Files.{listed}
use Rattle.image_store.proofs.entries.list_all.Given as goal

abbrev pub invariant-loop-entry : goal.invariant-loop-entry
invariant-loop-entry l = l.listing.items ≡ map listed (take l.entry-index l.entries)
