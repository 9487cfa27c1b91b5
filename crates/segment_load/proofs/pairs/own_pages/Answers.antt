use Rattle.std.proofs.Common.{map, inl, inr, refl, ◌/◌}
use Rattle.elf_file.specs.Views.{segment_image}
use Rattle.segment_load.proofs.CountFacts.{no_own}
use Rattle.segment_load.proofs.SeenFacts.{counted_own}
use Rattle.segment_load.proofs.pairs.own_pages.Goals as goal
use Rattle.segment_load.proofs.pairs.own_pages.Goals.{then-segment-eq0-via-then-segment-eq0, then-segment-eq0-via-else-segment-eq0+then-segment-eq0-2}

pub returns-then-segment-eq0 : goal.returns-then-segment-eq0
returns-then-segment-eq0 c =
    no_own (segment_image c.args.segment.now) (map segment_image c.args.later.now)
    (elim c.then-segment-eq0.branch [ then-segment-eq0-via-then-segment-eq0 w ↦ inl w.if-segment-eq0.true | then-segment-eq0-via-else-segment-eq0+then-segment-eq0-2 w ↦ inr w.if-segment-eq0-2.true ])

pub returns : goal.returns
returns c =
    counted_own (segment_image c.args.segment.now) (map segment_image c.args.later.now) c.count_own.result (c.args.segment.now.at / 4096) c.last_page-last.result c.is_stored_by.result c.is_stored_by-2.result
    (λ none. c.if-segment-eq0.false none) (λ none. c.if-segment-eq0-2.false none) refl c.last_page-last.ensures c.is_stored_by.ensures c.is_stored_by-2.ensures
    c.count_own.ensures.one c.count_own.ensures.more c.requires
