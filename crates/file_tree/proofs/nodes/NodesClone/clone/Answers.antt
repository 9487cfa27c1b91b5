-- The entries of a copied map are the same.
use Rattle.std.proofs.Common.{◌≡◌, ℕ, ◌∙◌}
use Rattle.std.proofs.lemmas.Map.Entries.{entries_from_clone}
use Rattle.file_tree.specs.declared.node.Node.{Node}
use Rattle.file_tree.proofs.nodes.NodesClone.clone.Goals as goal

pub returns : goal.returns
returns c =
    record { cases = entries_from_clone (λ (x y : ℕ). y ≡ x) (λ (x y : Node). y ≡ x) (λ x y same. same) (λ x y same. same) c.self.inside.map.entries c.in_ok-clone.field-0.entries c.in_ok-clone.ensures.cases ∙ c.self.view_is }
