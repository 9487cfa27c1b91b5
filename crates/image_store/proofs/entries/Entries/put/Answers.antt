-- The search's answer is about the entry's path.
use Rattle.std.proofs.Common.{◌≡◌, List, ℕ, Err, subst}
use Rattle.std.specs.List.Sorted.{IsBinarySearchResult}
use Rattle.std.specs.Ordering.{nat_cmp}
use Rattle.std.specs.Cmp.Lexicographic.{slice_cmp}
use Rattle.image_store.specs.declared.folder.Entry.{Entry}
use Rattle.image_store.proofs.entries.Entries.put.Goals as goal

pub insert-requires-clause-position : goal.insert-requires-clause-position
insert-requires-clause-position c =
    let path : c.as_str.result.now ≡ c.args.entry.path = cc in
    let all : c.deref.result.now ≡ c.self.inside.list.items = cc in
    subst (λ (p : List ℕ). IsBinarySearchResult (λ (other : Entry). slice_cmp nat_cmp other.path p) c.self.inside.list.items (Err c.in-Err.place)) path
    (subst (λ (es : List Entry). IsBinarySearchResult (λ (other : Entry). slice_cmp nat_cmp other.path c.as_str.result.now) es (Err c.in-Err.place)) all c.in-Err.ensures.position)
