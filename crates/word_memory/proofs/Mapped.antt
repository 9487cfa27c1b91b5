-- A loop over each element of a list that has come to its end.
use Rattle.std.proofs.Common.{◌≡◌, ℕ, ◌≤◌, List, ◌++◌, map, take, drop, length, arith}
use Rattle.std.proofs.lemmas.Grind.{common_steps}

pub all_mapped : {X : Type 0} (f : X → X) (xs ys : List X) (i : ℕ) → length xs ≤ i → ys ≡ map f (take i xs) ++ drop i xs → ys ≡ map f xs
all_mapped f xs ys i past is = grind (arith, common_steps)
