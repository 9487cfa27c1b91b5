-- The paths rise where each two neighbours do.
use Rattle.std.proofs.Common.{refl, arith}
use Rattle.image_store.specs.declared.folder.Listed.{Listed}
use Rattle.image_store.proofs.OrderFacts.{rises_from_neighbours, unsorted}
use Rattle.image_store.proofs.listing.are_rising.Goals as goal

pub returns-then-not-is_below : goal.returns-then-not-is_below
returns-then-not-is_below c = (
  λ t. cc,
  λ rises. absurd (unsorted (λ (entry : Listed). entry.path) c.args.listing.now c.loop-place.place c.index-listing-place.result c.index-listing-place-in-loop-place.result
      (omega arith) (omega arith) c.index-listing-place.is c.index-listing-place-in-loop-place.is (λ less. let f : ⊥ = cc (c.is_below.ensures.1 (cc)) in f) rises),
)

pub returns : goal.returns
returns c = (λ t. rises_from_neighbours (λ (entry : Listed). entry.path) c.args.listing.now (λ k d within. c.loop-place.invariant.1 k d (omega arith)), λ rises. refl)
