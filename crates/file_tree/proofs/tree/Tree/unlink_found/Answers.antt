-- What is taken away is what the walk found.
use Rattle.std.proofs.Common.{Some, None, sym, refl}
use Rattle.file_tree.proofs.SpotFacts.{is_unnamed}
use Rattle.file_tree.proofs.WalkFacts.{unlinked_by, unlinked_spot, takeable, taken_entry}
use Rattle.file_tree.proofs.tree.Tree.unlink_found.Goals as goal

pub take-requires-clause-can : goal.take-requires-clause-can
take-requires-clause-can c = takeable c.args.self.now.nodes c.args.dir c.in-Ok.name.now c.args.inode (sym c.in-None.ensures)

pub take-requires-clause-entry : goal.take-requires-clause-entry
take-requires-clause-entry c =
    taken_entry c.args.self.now c.args.from c.args.path.now c.args.inode (record { at = c.in-Ok.at; name = c.in-Ok.name.now }) c.requires c.in-Ok.ensures.spot
    (takeable c.args.self.now.nodes c.args.dir c.in-Ok.name.now c.args.inode (sym c.in-None.ensures))

pub returns-in-Some-clause-answers : goal.returns-in-Some-clause-answers
returns-in-Some-clause-answers c = (unlinked_by c.args.from c.args.path.now c.args.dir c.args.self.now c.args.inode (record { at = c.in-Ok.at; name = c.in-Ok.name.now }) (Some c.in-Some.errno) c.requires c.in-Ok.ensures.spot (sym c.in-Some.ensures), refl)

pub returns-in-None-clause-answers : goal.returns-in-None-clause-answers
returns-in-None-clause-answers c = rw c.take.ensures.nodes (unlinked_by c.args.from c.args.path.now c.args.dir c.args.self.now c.args.inode (record { at = c.in-Ok.at; name = c.in-Ok.name.now }) None c.requires c.in-Ok.ensures.spot (sym c.in-None.ensures))

pub returns-in-Err-clause-answers : goal.returns-in-Err-clause-answers
returns-in-Err-clause-answers c = (unlinked_spot c.args.from c.args.path.now c.args.dir c.args.self.now c.args.inode c.in-Err.errno c.requires c.in-Err.ensures.spot, refl)

pub returns-in-None-clause-gone : goal.returns-in-None-clause-gone
returns-in-None-clause-gone c = c.take.ensures.loses c.args.from c.args.path.now c.in-Ok.ensures.spot

pub returns-in-None-clause-unnamed : goal.returns-in-None-clause-unnamed
returns-in-None-clause-unnamed c =
    is_unnamed c.args.from c.args.path.now c.args.inode c.args.self.now c.take.new.self (record { at = c.in-Ok.at; name = c.in-Ok.name.now }) c.in-Ok.ensures.spot c.take.ensures.unnamed
