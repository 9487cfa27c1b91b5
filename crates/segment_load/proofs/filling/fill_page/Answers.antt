use Rattle.std.proofs.Common.{refl, sym, ◌∙◌, ◌/◌}
use Rattle.segment_load.proofs.FillFacts.{has_filled, has_passed}
use Rattle.segment_load.proofs.FullFacts.{closed_full, on_err, opened_full}
use Rattle.segment_load.proofs.PagedFacts.{on_ok}
use Rattle.segment_load.proofs.filling.fill_page.Goals as goal

pub returns-then-has_none-clause-made : goal.returns-then-has_none-clause-made
returns-then-has_none-clause-made c = λ m r b has.
    has_passed c.args.at (c.args.at / 4096) c.args.bytes.now c.rights_at-rights.result m r b c.args.memory.now refl c.requires.near c.rights_at-rights.ensures
    (sym c.has_none.ensures ∙ c.if-has_none.true) has

pub returns-clause-made : goal.returns-clause-made
returns-clause-made c =
    on_ok c.protect_pages-2.result _ _
    (λ closed m r b has.
    has_filled c.args.at (c.args.at / 4096) c.args.bytes.now c.rights_at-rights.result m r b c.args.memory.now c.protect_pages.new.memory c.write.new.memory c.protect_pages-2.new.memory
    refl c.requires.near c.rights_at-rights.ensures (sym c.has_none.ensures ∙ c.if-has_none.false) c.in-Ok.ensures.made c.write.ensures closed has)
    c.protect_pages-2.ensures.made

pub returns-in-Err-clause-refused : goal.returns-in-Err-clause-refused
returns-in-Err-clause-refused c = λ m r b has.
    opened_full c.in-Err.fault (c.args.at / 4096) c.rights_at-rights.result c.args.memory.now m r b
    c.rights_at-rights.ensures (sym c.has_none.ensures ∙ c.if-has_none.false) c.in-Err.ensures.refused has

pub returns-clause-refused : goal.returns-clause-refused
returns-clause-refused c =
    on_err c.protect_pages-2.result _ _
    (λ fault tells m r b has.
    closed_full fault c.args.at (c.args.at / 4096) c.args.bytes.now c.rights_at-rights.result c.args.memory.now c.protect_pages.new.memory c.write.new.memory m r b
    refl c.requires.near c.rights_at-rights.ensures (sym c.has_none.ensures ∙ c.if-has_none.false) c.in-Ok.ensures.made c.write.ensures tells has)
    c.protect_pages-2.ensures.refused
