-- The entry stands at the place of the search.
use Rattle.std.proofs.Common.{◌≡◌, ◌∙◌, true, List, ℕ, map, sym, ap, subst}
use Rattle.image_store.specs.declared.folder.Entry.{Entry}
use Rattle.image_store.specs.Files.{listed}
use Rattle.image_store.specs.Listing.{IsHousedAt, is_path}
use Rattle.image_store.proofs.ChangeFacts.{inserted}
use Rattle.image_store.proofs.entries.insert.Goals as goal
use Rattle.image_store.proofs.entries.insert.Goals.{in-Ok, in-Err}

pub returns-clause-ok : goal.returns-clause-ok
returns-clause-ok c =
    let plain : is_path c.args.entry.path ≡ true = ap is_path (sym c.as_str.ensures.same) ∙ (sym c.is_path.ensures ∙ c.if-not-is_path.false) in
    let path : c.as_bytes.result.now ≡ c.args.entry.path = c.as_bytes.ensures.value ∙ c.as_str-2.ensures.same in
    let housed = subst (λ (p : List ℕ). IsHousedAt (map listed c.args.entries.now.items) p) path
    (subst (λ (es : List Entry). IsHousedAt (map listed es) c.as_bytes.result.now) c.deref.ensures.value (c.is_housed.ensures c.if-not-is_housed.false)) in
    elim c.match-insert.branch [
      | in-Ok w ↦ rw w.result-is (rw w.in-Ok.ensures.items (inserted c.args.entries.now.items c.args.place c.args.entry c.requires.sound c.requires.within c.requires.position plain housed))
      | in-Err w ↦ rw w.result-is tt
    ]
