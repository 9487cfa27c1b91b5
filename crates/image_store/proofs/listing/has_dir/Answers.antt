-- The entry that is found is the one at the path.
use Rattle.image_store.specs.declared.folder.Listed.{Listed}
use Rattle.image_store.proofs.OrderFacts.{found_nowhere}
use Rattle.image_store.proofs.ParentFacts.{found_dir, dir_here, no_dir}
use Rattle.image_store.proofs.listing.has_dir.Goals as goal

pub returns-in-Ok : goal.returns-in-Ok
returns-in-Ok c = (
  λ t. found_dir c.args.listing.now c.args.path.now c.in-Ok.place c.index-listing-place.result c.in-Ok.ensures.bound c.in-Ok.ensures.position c.index-listing-place.is (c.is_dir.ensures.0 t),
  λ dir. c.is_dir.ensures.1 (dir_here c.args.listing.now c.args.path.now c.in-Ok.place c.index-listing-place.result c.requires c.in-Ok.ensures.bound c.in-Ok.ensures.position c.index-listing-place.is dir),
)

pub returns-in-Err : goal.returns-in-Err
returns-in-Err c = (
  λ t. cc,
  λ dir. absurd (no_dir c.args.listing.now c.args.path.now
      (λ k d within same. found_nowhere (λ (entry : Listed). entry.path) c.args.listing.now c.args.path.now c.in-Err.field-0 k d c.requires c.in-Err.ensures.position within same) dir),
)
