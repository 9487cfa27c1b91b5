use Rattle.std.proofs.Common.{◌≡◌, ℕ, ◌<◌, true, get_or}
use Rattle.image_store.specs.declared.folder.Listed.{Listed}
use Rattle.image_store.specs.Listing.{is_path}
use Rattle.image_store.proofs.listing.are_paths.Given as goal

abbrev pub invariant-loop-listed : goal.invariant-loop-listed
invariant-loop-listed l = (k : ℕ) (d : Listed) → k < l.listed-index → is_path (get_or l.listing k d).path ≡ true
