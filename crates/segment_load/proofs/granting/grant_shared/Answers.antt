use Rattle.std.proofs.Common.{◌≡◌, ℕ, true, ap, refl, subst, sym, ◌∙◌}
use Rattle.segment_load.specs.Loading.{either}
use Rattle.segment_load.specs.Steps.{with_more, zeros}
use Rattle.segment_load.proofs.CellFacts.{one_within}
use Rattle.segment_load.proofs.FullFacts.{on_err}
use Rattle.segment_load.proofs.GrantFacts.{has_shared}
use Rattle.segment_load.proofs.PagedFacts.{on_ok}
use Rattle.segment_load.proofs.granting.grant_shared.Goals as goal

pub returns-clause-made : goal.returns-clause-made
returns-clause-made c =
    on_ok c.protect_pages.result _ _
    (λ is m had has. has_shared c.args.page c.either-all.result c.args.rights m had c.args.memory.now c.protect_pages.new.memory (c.either-all.ensures ∙ ap (either c.args.rights) c.rights_at.ensures) is has)
    c.protect_pages.ensures.made

pub returns-clause-refused : goal.returns-clause-refused
returns-clause-refused c =
    on_err c.protect_pages.result _ _
    (λ fault tells m had has there. tells m had (with_more c.args.page 1 c.args.rights had) zeros has
    (λ p here. subst (λ (q : ℕ). m q ≡ true) (sym (one_within c.args.page p here)) there)
    (has_shared c.args.page c.either-all.result c.args.rights m had c.args.memory.now _ (c.either-all.ensures ∙ ap (either c.args.rights) c.rights_at.ensures) refl has))
    c.protect_pages.ensures.refused
