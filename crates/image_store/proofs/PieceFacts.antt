-- The pieces of a path are those that `split` gives.
use Rattle.std.proofs.Common.{◌≡◌, ℕ, ◌==◌, Bool, true, false, List, [], ◌∷◌, refl, ap, ◌∙◌}
use Rattle.std.specs.Prelude.{if◌then◌else◌}
use Rattle.std.specs.List.{slice_split, onto_first}
use Rattle.file_tree.specs.Paths.{pieces, onto}

same_onto : (byte : ℕ) (parts : List (List ℕ)) → onto_first byte parts ≡ onto byte parts
same_onto byte [] = refl
same_onto byte (part ∷ parts) = refl

same_by : (test : Bool) (byte : ℕ) (parts other : List (List ℕ)) → parts ≡ other
    → (if test then [] ∷ parts else onto_first byte parts) ≡ (if test then [] ∷ other else onto byte other)
same_by true byte parts other same = ap (λ (p : List (List ℕ)). [] ∷ p) same
same_by false byte parts other same = ap (onto_first byte) same ∙ same_onto byte other

pub same_pieces : (path : List ℕ) → slice_split (λ byte. byte == 47) path ≡ pieces path
same_pieces [] = refl
same_pieces (byte ∷ path) = same_by (byte == 47) byte (slice_split (λ b. b == 47) path) (pieces path) (same_pieces path)
