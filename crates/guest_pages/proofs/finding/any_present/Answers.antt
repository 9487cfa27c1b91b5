use Rattle.std.proofs.Common.{◌≡◌, ◌-◌, true, inl, inr, sym, ◌∙◌, arith}
use Rattle.std.proofs.lemmas.Bool.{cases_lt}
use Rattle.guest_pages.specs.Finding.{is_mapped}
use Rattle.guest_pages.specs.Tables.{page_at, is_present}
use Rattle.guest_pages.proofs.FindingFacts.{mapped_here, found_by_pages, none_by_pages}
use Rattle.guest_pages.proofs.finding.any_present.Goals as goal

pub returns-then-mapped : goal.returns-then-mapped
returns-then-mapped c =
    let here : is_present (page_at c.args.tables.now (c.looking.page - 1)) ≡ true = c.piece_below-size.ensures.alike (c.looking.page - 1) (let some = c.piece_below-size.ensures.some in omega arith) (omega arith) ∙ c.if-mapped.true in
    sym (found_by_pages is_mapped is_present c.args.tables.now c.args.first c.args.count (c.looking.page - 1)
    (λ a. mapped_here c.args.tables.now a c.requires.small) (omega arith) (omega arith) here)

pub looking-preserved : goal.looking-preserved
looking-preserved c =
    let size = c.piece_below-size.ensures.size in
    record {
      low = omega arith;
      high = omega arith;
      free = λ n low high.
          elim (cases_lt n c.looking.page) [
            | inl below ↦ c.piece_below-size.ensures.alike n (omega arith) below ∙ c.if-mapped.false
            | inr from ↦ c.looking.invariant.free n from high
          ];
    }

pub returns : goal.returns
returns c =
    sym (none_by_pages is_mapped is_present c.args.tables.now c.args.first c.args.count
    (λ a. mapped_here c.args.tables.now a c.requires.small) (λ n low high. c.looking.invariant.free n (omega arith) high))
