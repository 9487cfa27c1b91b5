-- The entry that is found is the one at the path.
use Rattle.image_store.proofs.ChangeFacts.{dir_at_place}
use Rattle.image_store.proofs.entries.has_dir.Goals as goal

pub returns-in-Ok : goal.returns-in-Ok
returns-in-Ok c t =
    dir_at_place c.args.entries.now c.args.path.now c.in-Ok.place c.index-entries-place.result c.in-Ok.ensures.bound c.in-Ok.ensures.position c.index-entries-place.is (c.is_dir.ensures t)
