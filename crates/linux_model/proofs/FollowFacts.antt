-- Runs of labels, one after another.
use Rattle.std.proofs.Common.{◌≡◌, ℕ, ◌+◌, ◌<◌, List, [], ◌∷◌, ◌++◌, Option, length, take, get_or, refl, ap, ◌∙◌}
use Rattle.std.proofs.lemmas.List.{take_more}
use Rattle.linux_model.specs.declared.labels.Label.{Label}
use Rattle.linux_model.specs.Process.{ProcessState}
use Rattle.linux_model.specs.Steps.{goes_on, follow}

-- labels behind labels
pub follow_append : (state : Option ProcessState) (labels more : List Label) → follow state (labels ++ more) ≡ follow (follow state labels) more
follow_append state [] more = refl
follow_append state (label ∷ labels) more = follow_append (goes_on state label) labels more

-- one more label of a list
pub follow_take_more : (state : Option ProcessState) (labels : List Label) (i : ℕ) (d : Label) → i < length labels → follow state (take (i + 1) labels) ≡ goes_on (follow state (take i labels)) (get_or labels i d)
follow_take_more state labels i d within =
    ap (follow state) (take_more labels i d within) ∙ follow_append state (take i labels) (get_or labels i d ∷ [])
