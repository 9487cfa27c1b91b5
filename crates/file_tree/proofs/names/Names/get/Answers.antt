-- A look-up in the map is one in the entries.
use Rattle.std.proofs.Common.{◌∙◌, ap}
use Rattle.std.specs.Ordering.{nat_cmp}
use Rattle.std.specs.Cmp.Lexicographic.{slice_cmp}
use Rattle.std.specs.BTreeMap.{is_at}
use Rattle.file_tree.specs.Entries.{entry_named}
use Rattle.file_tree.proofs.NameFacts.{lookup_named}
use Rattle.file_tree.proofs.names.Names.get.Goals as goal

pub returns : goal.returns
returns c =
    c.copied.ensures
    ∙ (c.get.ensures.value ∙ (lookup_named (is_at (slice_cmp nat_cmp c.args.name.now)) c.self.inside.entries.entries ∙ ap (entry_named c.args.name.now) c.self.view_is))
