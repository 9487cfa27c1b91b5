use Rattle.std.proofs.Common.{ap, is_ok, ◌∙◌}
use Rattle.guest_pages.specs.Ranges.{cell_at}
use Rattle.guest_pages.proofs.RightsFacts.{rights_by_fields}
use Rattle.segment_load.specs.Steps.{rights_in}
use Rattle.segment_load.proofs.PagedFacts.{execute_test, read_test, write_test}
use Rattle.segment_load.proofs.granting.rights_at.Goals as goal

pub returns : goal.returns
returns c =
    rights_by_fields _ (rights_in (cell_at c.args.memory.now c.args.at))
    (c.is_ok.ensures.value ∙ ap is_ok c.allows.ensures ∙ read_test c.args.memory.now c.args.at)
    (c.is_ok-2.ensures.value ∙ ap is_ok c.allows-2.ensures ∙ write_test c.args.memory.now c.args.at)
    (c.is_ok-3.ensures.value ∙ ap is_ok c.allows-3.ensures ∙ execute_test c.args.memory.now c.args.at)
