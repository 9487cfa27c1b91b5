use Rattle.segment_load.proofs.FullFacts.{protect_refused}
use Rattle.segment_load.proofs.granting.protect_pages.Goals as goal

pub returns-clause-refused : goal.returns-clause-refused
returns-clause-refused c =
    protect_refused c.protect.result c.args.first c.args.count c.args.rights c.args.memory.now c.protect.ensures.full c.protect.ensures.mapped
