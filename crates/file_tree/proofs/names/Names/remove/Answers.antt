-- A removal from the map is one from the entries.
use Rattle.std.proofs.Common.{◌∙◌, ap}
use Rattle.std.specs.Ordering.{nat_cmp}
use Rattle.std.specs.Cmp.Lexicographic.{slice_cmp}
use Rattle.std.specs.BTreeMap.{is_at}
use Rattle.file_tree.specs.Entries.{named, without_entry}
use Rattle.file_tree.proofs.NameFacts.{remove_named}
use Rattle.file_tree.proofs.names.Names.remove.Goals as goal

pub returns : goal.returns
returns c =
    ap named c.remove.ensures.entries
    ∙ (remove_named (is_at (slice_cmp nat_cmp c.args.name.now)) c.self.inside.entries.entries ∙ ap (without_entry c.args.name.now) c.self.view_is)
