use Rattle.guest_pages.proofs.CodeFacts.{pages_copied}
use Rattle.guest_pages.proofs.code.copied_table.Goals as goal

pub returns : goal.returns
returns c =
    rw (← c.as_slice.ensures.value)
    (pages_copied c.in_ok-pages.pages.items c.as_slice.result.now c.args.table.now.mapped.items c.new-mapped.result.items c.new-mapped.ensures.items
    c.in_ok-pages.ensures.0 c.in_ok-pages.ensures.1)
