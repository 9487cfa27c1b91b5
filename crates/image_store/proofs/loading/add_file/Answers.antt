use Rattle.image_store.proofs.AddFacts.{file_added}
use Rattle.image_store.proofs.loading.add_file.Goals as goal

pub returns-in-Ok-write_at : goal.returns-in-Ok-write_at
returns-in-Ok-write_at c =
    file_added c.args.path.now c.args.bytes.now c.args.tree.now c.create_file.new.self c.write_at.new.self c.in-Ok.inode
    c.in-Ok.ensures.answers c.in-Ok.ensures.inode c.in-Ok.ensures.made c.in-Ok.ensures.found c.in-Ok-write_at.ensures.answers c.in-Ok-write_at.ensures.filled
