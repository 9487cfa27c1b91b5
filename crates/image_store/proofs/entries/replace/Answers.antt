-- A file stands in place of one.
use Rattle.std.proofs.Common.{◌≡◌, get_or}
use Rattle.image_store.proofs.ChangeFacts.{replaced}
use Rattle.image_store.proofs.entries.replace.Goals as goal

pub returns-then-is_file-2 : goal.returns-then-is_file-2
returns-then-is_file-2 c =
    let is : c.index.result.now ≡ get_or c.args.entries.now.items c.args.place c.index.result.now = cc in
    record {
      ok = replaced c.args.entries.now.items c.args.place c.index.result.now c.args.entry c.requires.sound c.requires.within c.requires.position is (c.is_file.ensures c.if-is_file.true);
      err = tt;
    }
