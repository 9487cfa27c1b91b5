-- The name that a path ends in, by the spot that the path leads to.
use Rattle.std.proofs.Common.{◌≡◌, ℕ, List, Result, Ok, Err, sym, subst, ◌∙◌}
use Rattle.std.specs.Prelude.{IfOk}
use Rattle.file_tree.specs.declared.fault.TreeFault.{TreeFault}
use Rattle.file_tree.specs.Nodes.{Tree}
use Rattle.file_tree.specs.Walk.{Spot, spot_of}
use Rattle.file_tree.specs.Answers.{GainsName, IsNamed, LosesName, IsUnnamed}
use Rattle.file_tree.proofs.WalkFacts.{spot_same}

pub is_named : (from : ℕ) (path : List ℕ) (old new : Tree) (spot : Spot) (result : Result ℕ TreeFault) → spot_of old from path ≡ Ok spot → IfOk result (λ inode. GainsName spot inode old new)
    → IfOk result (λ inode. IsNamed from path inode old new)
is_named from path old new spot (Err fault) place gains = tt
is_named from path old new spot (Ok inode) place gains = record {
  gains = λ other same. subst (λ (x : Spot). GainsName x inode old new) (spot_same spot other (sym place ∙ same)) gains;
}

pub is_unnamed : (from : ℕ) (path : List ℕ) (inode : ℕ) (old new : Tree) (spot : Spot) → spot_of old from path ≡ Ok spot → LosesName spot inode old new → IsUnnamed from path inode old new
is_unnamed from path inode old new spot place loses = record {
  loses = λ other same. subst (λ (x : Spot). LosesName x inode old new) (spot_same spot other (sym place ∙ same)) loses;
}
