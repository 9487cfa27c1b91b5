-- What `..` leads to, and that it leads nowhere from what was unlinked.
use Rattle.std.proofs.Common.{sym}
use Rattle.file_table.proofs.ListFacts.{parent_found, parent_lost}
use Rattle.file_table.proofs.listing.parent.Goals as goal

pub returns-in-Ok : goal.returns-in-Ok
returns-in-Ok c =
    let p = parent_found c.args.tree.now c.args.inode c.in-Ok.up c.requires (sym c.in-Ok.ensures.found) in
    (p.0, p.1, c.in-Ok.ensures.there)

pub returns-in-Err : goal.returns-in-Err
returns-in-Err c = parent_lost c.args.tree.now c.args.inode c.in-Err.field-0 c.requires (sym c.in-Err.ensures.found)
