-- What is gone, and then what is new.
use Rattle.image_store.proofs.StoreFacts.{on_err, on_ok, partly_first, partly_second, stored}
use Rattle.image_store.proofs.storing.write_back.Goals as goal

pub returns-in-Err-remove_gone-clause-left : goal.returns-in-Err-remove_gone-clause-left
returns-in-Err-remove_gone-clause-left g c =
    partly_first c.args.before.now.listed.items c.deref.result.now c.args.before.now.tree c.args.after.now c.in-Ok.paths.items (g.F.Folder.tree c.args.folder.now) (g.F.Folder.tree c.remove_gone.new.folder)
    c.in-Ok.ensures c.deref.ensures.value c.in-Err-remove_gone.ensures.left

pub returns-clause-done : goal.returns-clause-done
returns-clause-done g c =
    on_ok c.make_new.result _ _
    (stored c.args.before.now.listed.items c.deref.result.now c.args.before.now.tree c.args.after.now c.in-Ok.paths.items c.deref-2.result.now
    (g.F.Folder.tree c.args.folder.now) (g.F.Folder.tree c.remove_gone.new.folder) (g.F.Folder.tree c.make_new.new.folder)
    c.in-Ok.ensures c.deref.ensures.value c.deref-2.ensures.value c.in-Ok-remove_gone.ensures.done)
    c.make_new.ensures.done

pub returns-clause-left : goal.returns-clause-left
returns-clause-left g c =
    on_err c.make_new.result _ _
    (partly_second c.args.before.now.listed.items c.deref.result.now c.args.before.now.tree c.args.after.now c.in-Ok.paths.items c.deref-2.result.now
    (g.F.Folder.tree c.args.folder.now) (g.F.Folder.tree c.remove_gone.new.folder) (g.F.Folder.tree c.make_new.new.folder)
    c.in-Ok.ensures c.deref.ensures.value c.deref-2.ensures.value c.in-Ok-remove_gone.ensures.done)
    c.make_new.ensures.left
