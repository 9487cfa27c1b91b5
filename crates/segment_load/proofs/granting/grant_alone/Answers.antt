use Rattle.std.proofs.Common.{refl}
use Rattle.segment_load.specs.Steps.{with_more, zeros}
use Rattle.segment_load.proofs.FullFacts.{on_err}
use Rattle.segment_load.proofs.GrantFacts.{has_alone}
use Rattle.segment_load.proofs.PagedFacts.{on_ok}
use Rattle.segment_load.proofs.granting.grant_alone.Goals as goal

pub returns-clause-made : goal.returns-clause-made
returns-clause-made c =
    on_ok c.protect_pages.result _ _
    (λ is m had none has. has_alone c.args.first c.args.count c.args.rights m had c.args.memory.now c.protect_pages.new.memory is none has)
    c.protect_pages.ensures.made

pub returns-clause-refused : goal.returns-clause-refused
returns-clause-refused c =
    on_err c.protect_pages.result _ _
    (λ fault tells m had none has there. tells m had (with_more c.args.first c.args.count c.args.rights had) zeros has there
    (has_alone c.args.first c.args.count c.args.rights m had c.args.memory.now _ refl none has))
    c.protect_pages.ensures.refused
