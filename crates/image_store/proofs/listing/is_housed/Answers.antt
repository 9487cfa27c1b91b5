-- The directory before the last slash is looked for.
use Rattle.std.proofs.Common.{refl}
use Rattle.image_store.proofs.ParentFacts.{housed_some, housed_here, housed_none}
use Rattle.image_store.proofs.listing.is_housed.Goals as goal

pub returns-in-Some : goal.returns-in-Some
returns-in-Some c = (
  λ t. housed_some c.args.listing.now c.args.path.now _ c.in-Some.slash c.in-Some.ensures.within c.in-Some.ensures.found c.in-Some.ensures.last refl (c.has_dir.ensures.0 t),
  λ at. c.has_dir.ensures.1 (housed_here c.args.listing.now c.args.path.now _ c.in-Some.slash c.in-Some.ensures.within c.in-Some.ensures.found c.in-Some.ensures.last refl at),
)

pub returns-in-None : goal.returns-in-None
returns-in-None c = (λ t. housed_none c.args.listing.now c.args.path.now (c.in-None.ensures.none refl), λ at. refl)
