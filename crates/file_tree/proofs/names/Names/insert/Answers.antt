-- An insert into the map is one into the entries.
use Rattle.std.proofs.Common.{◌∙◌, ap}
use Rattle.file_tree.specs.Entries.{named, with_entry}
use Rattle.file_tree.proofs.NameFacts.{insert_named}
use Rattle.file_tree.proofs.names.Names.insert.Goals as goal
use Rattle.file_tree.proofs.names.Names.insert.Goals.{in-Ok, in-Err}

pub returns-clause-ok : goal.returns-clause-ok
returns-clause-ok c =
    elim c.match-insert.branch [
      | in-Ok w ↦ rw w.result-is (ap named w.in-Ok.ensures.entries ∙ (insert_named c.args.name c.args.inode c.self.inside.entries.entries ∙ ap (with_entry c.args.name.items c.args.inode) c.self.view_is))
      | in-Err w ↦ rw w.result-is tt
    ]
