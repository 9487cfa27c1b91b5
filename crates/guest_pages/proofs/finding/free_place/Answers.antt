use Rattle.std.proofs.Common.{sym, inl, inr, ◌∙◌, arith}
use Rattle.std.proofs.lemmas.Bool.{cases_lt}
use Rattle.guest_pages.specs.Tables.{held}
use Rattle.guest_pages.proofs.FindingFacts.{looked_free, looked_full, place_none, place_is}
use Rattle.guest_pages.proofs.finding.free_place.Goals as goal
use Rattle.guest_pages.proofs.finding.free_place.Goals.{then-looking-test+else-page-gt0, else-looking-test}

pub looking-preserved-then-mapped : goal.looking-preserved-then-mapped
looking-preserved-then-mapped c = record {
  looked = looked_full c.args.tables.now c.args.count c.looking.page c.looking.run c.piece_below-size.result.0 c.requires.small c.looking.invariant.looked (omega arith)
      c.piece_below-size.ensures.some c.piece_below-size.ensures.size (λ n low high. c.piece_below-size.ensures.alike n low high ∙ c.if-mapped.true);
  free = λ n low high. absurd (omega arith);
}

pub looking-preserved : goal.looking-preserved
looking-preserved c = record {
  looked = looked_free (held c.args.tables.now) c.args.count c.looking.page c.looking.run c.piece_below-size.result.0 c.looking.invariant.looked c.piece_below-size.ensures.size;
  free = λ n low high.
      elim (cases_lt n c.looking.page) [
        | inl below ↦ c.piece_below-size.ensures.alike n low below ∙ c.if-mapped.false
        | inr from ↦ c.looking.invariant.free n from (let part = c.piece_below-size.ensures.size in omega arith)
      ];
}

pub returns-then-run-count : goal.returns-then-run-count
returns-then-run-count c =
    elim c.looking-test.branch [
      | then-looking-test+else-page-gt0 w ↦
          sym (place_none (held c.args.tables.now) c.args.count c.looking.page c.looking.run c.looking.invariant.looked (omega arith) (omega arith))
      | else-looking-test w ↦ absurd (omega arith)
    ]

pub returns-else-run-count : goal.returns-else-run-count
returns-else-run-count c =
    sym (place_is c.args.tables.now c.args.count c.looking.page c.looking.run c.requires.small c.looking.invariant.looked (omega arith) c.looking.invariant.free)
