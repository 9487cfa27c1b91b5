-- A file has no names.
use Rattle.std.proofs.Common.{◌≡◌, ◌∙◌}
use Rattle.image_store.proofs.AllPathFacts.{file_pushed}
use Rattle.image_store.proofs.all_paths.push_below.Goals as goal

pub returns-in-Ok : goal.returns-in-Ok
returns-in-Ok c =
    let same : c.as_bytes.result.now ≡ c.index.result.now = c.as_bytes.ensures.value ∙ (c.as_str-2.ensures.same ∙ (c.in_ok-path.ensures ∙ c.as_str.ensures.same)) in
    file_pushed c.args.tree.now c.args.paths.now.items c.args.place c.root.result c.in-Ok.inode c.index.result.now c.as_bytes.result.now c.requires c.root.ensures.root c.index.ensures same c.in-Ok.ensures.found c.in-File.ensures
