use Rattle.std.proofs.Common.{◌≡◌, ℕ, ◌<◌, List, ◌∷◌, ◌++◌, get_or}
use Rattle.image_store.specs.declared.folder.Entry.{Entry}
use Rattle.image_store.proofs.entries.has_below.Given as goal

-- none of those so far stands below the path
abbrev pub invariant-loop-entry : goal.invariant-loop-entry
invariant-loop-entry l = (k : ℕ) (d : Entry) → k < l.entry-index → (rest : List ℕ) → (get_or l.entries k d).path ≡ l.path ++ 47 ∷ rest → ⊥
