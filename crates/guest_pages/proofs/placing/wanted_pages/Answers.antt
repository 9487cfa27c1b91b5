use Rattle.std.proofs.Common.{arith, not}
use Rattle.guest_pages.specs.Cells.{has_none}
use Rattle.guest_pages.proofs.RangeFacts.{count_part, part_at_most}
use Rattle.guest_pages.proofs.placing.wanted_pages.Goals as goal

pub overflow_sub-result : goal.overflow_sub-result
overflow_sub-result c =
    let part = count_part c.args.tables.now c.args.first c.args.count c.requires.range in
    let is = c.requires.counted in
    omega arith

pub overflow_add-result : goal.overflow_add-result
overflow_add-result c =
    let part = count_part c.args.tables.now c.args.first c.args.count c.requires.range in
    let is = c.requires.counted in
    let most = part_at_most (not (has_none c.args.rights)) c.args.count in
    let needed = c.needed_for.ensures in
    omega arith

pub returns : goal.returns
returns c =
    let part = count_part c.args.tables.now c.args.first c.args.count c.requires.range in
    let is = c.requires.counted in
    let needed = c.needed_for.ensures in
    omega arith
