-- The node is put in, then its name; without memory for the name the node is taken out again.
use Rattle.std.proofs.Common.{◌∙◌}
use Rattle.file_tree.proofs.MakeFacts.{made_put, back_put}
use Rattle.file_tree.proofs.nodes.Nodes.add.Goals as goal

pub returns-in-Ok-clause-ok : goal.returns-in-Ok-clause-ok
returns-in-Ok-clause-ok c =
    made_put c.args.self.now c.put.new.self c.link.new.self c.args.at c.args.inode c.in_ok-name.name.items c.args.name.now c.args.node c.in_ok-put.ensures.ok c.in_ok-name.ensures.items
    c.in-Ok.ensures.ok

pub returns-in-Err-clause-err : goal.returns-in-Err-clause-err
returns-in-Err-clause-err c =
    back_put c.args.self.now c.put.new.self c.self.inside.map.entries c.remove.new.self.entries c.args.inode c.args.node c.requires c.in_ok-put.ensures.ok (c.self.view_is ∙ c.in-Err.ensures.err)
    c.remove.ensures.entries
