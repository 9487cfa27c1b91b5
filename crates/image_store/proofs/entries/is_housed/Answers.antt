-- The directory before the last slash is looked for.
use Rattle.std.proofs.Common.{map, refl}
use Rattle.image_store.specs.Files.{listed}
use Rattle.image_store.proofs.ParentFacts.{housed_some, housed_none}
use Rattle.image_store.proofs.entries.is_housed.Goals as goal

pub returns-in-Some : goal.returns-in-Some
returns-in-Some c t =
    housed_some (map listed c.args.entries.now) c.args.path.now _ c.in-Some.slash c.in-Some.ensures.within c.in-Some.ensures.found c.in-Some.ensures.last refl (c.has_dir.ensures t)

pub returns-in-None : goal.returns-in-None
returns-in-None c t = housed_none (map listed c.args.entries.now) c.args.path.now (c.in-None.ensures.none refl)
