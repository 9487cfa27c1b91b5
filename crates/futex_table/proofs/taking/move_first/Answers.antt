use Rattle.std.proofs.Common.{◌≡◌, length, ap, ◌∙◌}
use Rattle.futex_table.specs.Waiters.{moved, is_at}
use Rattle.futex_table.proofs.ListFacts.{others_behind, moved_many}
use Rattle.futex_table.proofs.taking.move_first.Goals as goal

pub returns-clause-few : goal.returns-clause-few
returns-clause-few c =
    let is : c.take_out.new.waiters.items ≡ moved c.args.from c.args.to c.args.limit c.args.waiters.now.items =
    rw (c.take_out.ensures.others, c.copy_first-moved.ensures.items, c.copy_first-moved.ensures.count) (others_behind (is_at c.args.from) c.args.limit c.args.waiters.now.items _) in
    ap length is ∙ moved_many c.args.from c.args.to c.args.limit c.args.waiters.now.items
