use Rattle.std.proofs.Common.{◌∙◌}
use Rattle.guest_pages.specs.Tables.{mark_at, page_at}
use Rattle.guest_pages.proofs.PageFacts.{runs_found}
use Rattle.guest_pages.proofs.finding.runs_in.Goals as goal

pub returns : goal.returns
returns c =
    c.page_runs.ensures ∙ runs_found c.page_of.result (page_at c.args.tables.now c.args.number) (mark_at c.args.tables.now c.args.number) c.page_of.ensures
