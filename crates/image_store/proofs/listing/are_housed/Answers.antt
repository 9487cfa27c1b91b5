-- Where each entry's own directory is listed, so are all that its path leads through.
use Rattle.std.proofs.Common.{refl, arith}
use Rattle.image_store.proofs.ParentFacts.{all_housed}
use Rattle.image_store.proofs.listing.are_housed.Goals as goal

pub returns : goal.returns
returns c = (λ t. all_housed c.args.listing.now (λ k d within. c.loop-listed.invariant k d (omega arith)), λ all. refl)
