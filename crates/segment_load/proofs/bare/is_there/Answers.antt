use Rattle.std.proofs.Common.{ap, is_ok, ◌∙◌, ◌*◌}
use Rattle.segment_load.proofs.PagedFacts.{mapped_test}
use Rattle.segment_load.proofs.bare.is_there.Goals as goal

pub returns : goal.returns
returns c = c.is_ok.ensures.value ∙ ap is_ok c.allows.ensures ∙ mapped_test c.args.memory.now (4096 * c.args.page)
