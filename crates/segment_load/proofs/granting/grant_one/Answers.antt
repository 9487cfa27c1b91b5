use Rattle.std.proofs.Common.{inl, inr, refl, subst, ◌/◌, ◌<◌, ℕ}
use Rattle.elf_file.specs.Views.{segment_image}
use Rattle.segment_load.specs.Loading.{page_rights}
use Rattle.segment_load.proofs.FullFacts.{full_segment, on_err, pages_touched}
use Rattle.segment_load.proofs.GrantFacts.{has_segment, has_skipped, none_between}
use Rattle.segment_load.proofs.PagedFacts.{on_ok}
use Rattle.segment_load.proofs.granting.grant_one.Goals as goal
use Rattle.segment_load.proofs.granting.grant_one.Goals.{then-segment-eq0-via-then-segment-eq0, then-segment-eq0-via-else-segment-eq0+then-segment-eq0-2}

pub returns-then-segment-eq0-clause-made : goal.returns-then-segment-eq0-clause-made
returns-then-segment-eq0-clause-made c = λ m others apart has.
    has_skipped (segment_image c.args.segment.now) others m c.args.memory.now
    (elim c.then-segment-eq0.branch [ then-segment-eq0-via-then-segment-eq0 w ↦ inl w.if-segment-eq0.true | then-segment-eq0-via-else-segment-eq0+then-segment-eq0-2 w ↦ inr w.if-segment-eq0-2.true ])
    has

pub returns-clause-made : goal.returns-clause-made
returns-clause-made c =
    let s = segment_image c.args.segment.now in
    on_ok c.grant_pages.result _ _
    (λ grants m others apart has.
    has_segment s others m c.grant_pages.new.memory (c.args.segment.now.at / 4096) c.last_page.result c.rights_of.result (λ none. c.if-segment-eq0-2.false none) refl c.last_page.ensures c.rights_of.ensures
    (grants m (page_rights others) (λ page after before. none_between s others page apart after (subst (λ (n : ℕ). page < n) c.last_page.ensures before)) has))
    c.grant_pages.ensures.made

pub returns-clause-refused : goal.returns-clause-refused
returns-clause-refused c =
    let s = segment_image c.args.segment.now in
    let first = c.args.segment.now.at / 4096 in
    on_err c.grant_pages.result _ _
    (λ fault tells m others apart has there.
    full_segment fault s others m first c.last_page.result c.rights_of.result (λ none. c.if-segment-eq0-2.false none) refl c.last_page.ensures c.rights_of.ensures
    (tells m (page_rights others) (λ page after before. none_between s others page apart after (subst (λ (n : ℕ). page < n) c.last_page.ensures before)) has
    (λ page low high. there page (pages_touched s page first c.last_page.result (λ none. c.if-segment-eq0-2.false none) refl c.last_page.ensures low high))))
    c.grant_pages.ensures.refused
