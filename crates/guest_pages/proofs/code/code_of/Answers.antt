use Rattle.guest_pages.proofs.CodeFacts.{code_held}
use Rattle.guest_pages.proofs.code.code_of.Goals as goal

pub returns : goal.returns
returns c =
    code_held c.in_ok-tables.tables.items c.args.tables.now c.requires c.in_ok-tables.ensures.1
