-- The entries of a copied map are the same.
use Rattle.std.proofs.Common.{◌∙◌}
use Rattle.file_tree.proofs.NameFacts.{named_copy}
use Rattle.file_tree.proofs.names.NamesClone.clone.Goals as goal

pub returns : goal.returns
returns c = record { cases = named_copy c.self.inside.entries.entries c.in_ok-clone.field-0.entries c.in_ok-clone.ensures.cases ∙ c.self.view_is }
