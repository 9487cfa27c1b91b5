use Rattle.std.proofs.Common.{ℕ, ◌<◌, get_or}
use Rattle.image_store.specs.declared.folder.Listed.{Listed}
use Rattle.image_store.specs.Listing.{IsHousedAt}
use Rattle.image_store.proofs.listing.are_housed.Given as goal

abbrev pub invariant-loop-listed : goal.invariant-loop-listed
invariant-loop-listed l = (k : ℕ) (d : Listed) → k < l.listed-index → IsHousedAt l.listing (get_or l.listing k d).path
