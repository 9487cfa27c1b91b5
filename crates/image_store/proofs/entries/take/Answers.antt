-- The entry at the place that is found goes where none stands below it.
use Rattle.std.proofs.Common.{◌≡◌, List, ℕ, subst}
use Rattle.image_store.specs.declared.folder.Entry.{Entry}
use Rattle.image_store.proofs.ChangeFacts.{NoneBelow, removed}
use Rattle.image_store.proofs.entries.take.Goals as goal

pub returns : goal.returns
returns c =
    let bytes : c.as_bytes.result.now ≡ c.args.path.now = cc in
    let all : c.deref.result.now ≡ c.args.entries.now.items = cc in
    let none = subst (λ (p : List ℕ). NoneBelow p c.args.entries.now.items) bytes
    (subst (λ (es : List Entry). NoneBelow c.as_bytes.result.now es) all (c.has_below.ensures c.if-has_below.false)) in
    record {
      ok = rw c.remove.ensures.items (removed c.args.entries.now.items c.args.place c.args.path.now c.remove.result c.requires.sound c.requires.within c.requires.position none);
      err = tt;
    }
