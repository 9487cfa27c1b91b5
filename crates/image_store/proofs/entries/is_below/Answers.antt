-- A path that stands below another begins with it.
use Rattle.image_store.proofs.ChangeFacts.{not_below}
use Rattle.image_store.proofs.entries.is_below.Goals as goal

pub returns-in-None : goal.returns-in-None
returns-in-None c none rest = not_below c.args.path.now c.args.other.now rest c.in-None.ensures.cases
