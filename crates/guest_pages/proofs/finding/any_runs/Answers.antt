use Rattle.std.proofs.Common.{◌≡◌, ◌+◌, true, false, inl, inr, sym, ap, ◌∙◌, arith}
use Rattle.std.proofs.lemmas.Bool.{cases_eq, cases_lt}
use Rattle.guest_pages.specs.Finding.{is_code}
use Rattle.guest_pages.specs.Tables.{page_at, runs_in}
use Rattle.guest_pages.proofs.FindingFacts.{code_here, found_by_pages, none_by_pages}
use Rattle.guest_pages.proofs.PageFacts.{runs_without_room}
use Rattle.guest_pages.proofs.finding.any_runs.Goals as goal

pub returns-then-runs_in : goal.returns-then-runs_in
returns-then-runs_in c =
    let here : runs_in (page_at c.args.tables.now (c.args.first + c.looking.done)) ≡ true = sym c.runs_in.ensures ∙ c.if-runs_in.true in
    sym (found_by_pages is_code runs_in c.args.tables.now c.args.first c.args.count (c.args.first + c.looking.done)
    (λ a. code_here c.args.tables.now a c.requires.small) (omega arith) (omega arith) here)

pub looking-preserved-then-passed-gt0 : goal.looking-preserved-then-passed-gt0
looking-preserved-then-passed-gt0 c =
    let few = c.without_pages-passed.ensures.few in
    record {
      within = omega arith;
      none = λ n low high.
          elim (cases_lt n (c.args.first + c.looking.done)) [
            | inl below ↦ c.looking.invariant.none n low below
            | inr from ↦ runs_without_room c.args.tables.now n (c.without_pages-passed.ensures.none n from (omega arith))
          ];
    }

pub looking-preserved : goal.looking-preserved
looking-preserved c =
    let here : runs_in (page_at c.args.tables.now (c.args.first + c.looking.done)) ≡ false = sym c.runs_in.ensures ∙ c.if-runs_in.false in
    record {
      within = omega arith;
      none = λ n low high.
          elim (cases_eq n (c.args.first + c.looking.done)) [
            | inl same ↦ ap (λ k. runs_in (page_at c.args.tables.now k)) same ∙ here
            | inr other ↦ c.looking.invariant.none n low (omega arith)
          ];
    }

pub returns : goal.returns
returns c =
    sym (none_by_pages is_code runs_in c.args.tables.now c.args.first c.args.count
    (λ a. code_here c.args.tables.now a c.requires.small) (λ n low high. c.looking.invariant.none n low (omega arith)))
