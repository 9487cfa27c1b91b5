use Rattle.image_store.proofs.AddFacts.{dir_added}
use Rattle.image_store.proofs.loading.add_dir.Goals as goal

pub returns-in-Ok : goal.returns-in-Ok
returns-in-Ok c = dir_added c.args.path.now c.args.tree.now c.create_dir.new.self c.in-Ok.field-0 c.in-Ok.ensures.answers c.in-Ok.ensures.inode c.in-Ok.ensures.made c.in-Ok.ensures.found
