use Rattle.std.proofs.Common.{◌+◌, ◌-◌, ◌*◌, ◌/◌, arith, ◌∙◌}
use Rattle.guest_pages.specs.Tables.{held}
use Rattle.guest_pages.proofs.UnmappedFacts.{unmapped_all, unmapped_more, unmapped_nowhere}
use Rattle.guest_pages.proofs.finding.unmapped.Goals as goal

pub looking-init : goal.looking-init
looking-init c = record {
  low = omega arith;
  high = omega arith;
  found = unmapped_nowhere (held c.args.tables.now) (4096 * (c.args.at / 4096 + c.args.count)) (4096 * (c.args.at / 4096 + c.args.count - (c.args.at / 4096 + c.args.count))) (omega arith);
}

pub looking-preserved : goal.looking-preserved
looking-preserved c =
    let size = c.piece_below-size.ensures.size in
    let some = c.piece_below-size.ensures.some in
    record {
      low = omega arith;
      high = omega arith;
      found = c.found_below-found.ensures
          ∙ unmapped_more c.args.tables.now c.looking.page (c.looking.page - c.min-page.result) (c.args.at / 4096 + c.args.count) c.piece_below-size.result.1 c.looking.found c.requires.small (omega arith) (omega arith)
          (λ n low high. c.piece_below-size.ensures.alike n (omega arith) high) c.looking.invariant.found;
    }

pub returns : goal.returns
returns c =
    unmapped_all (held c.args.tables.now) c.looking.found (c.args.at / 4096) c.looking.page c.args.at c.args.count (c.args.at / 4096 + c.args.count - c.looking.page) c.looking.invariant.found (omega arith) (omega arith)
