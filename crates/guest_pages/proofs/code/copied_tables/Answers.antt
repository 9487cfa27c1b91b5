use Rattle.std.proofs.Common.{◌≡◌, ◌<◌, length, arith}
use Rattle.guest_pages.proofs.CodeFacts.{tables_copied}
use Rattle.guest_pages.proofs.code.copied_tables.Goals as goal

pub returns : goal.returns
returns c =
    let size : length c.loop-i.copies.items ≡ length c.args.tables.now = omega arith in
    (size, tables_copied c.loop-i.copies.items c.args.tables.now size (λ n j k low. let at : n < c.loop-i.i = omega arith in c.loop-i.invariant.each n j k at))
