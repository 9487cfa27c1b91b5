use Rattle.std.proofs.Common.{inl, inr, refl, ◌/◌}
use Rattle.elf_file.specs.Views.{segment_image}
use Rattle.segment_load.proofs.SeenFacts.{counts_none, counts_own}
use Rattle.segment_load.proofs.counting.unseen_pages.Goals as goal
use Rattle.segment_load.proofs.counting.unseen_pages.Goals.{then-segment-eq0-via-then-segment-eq0, then-segment-eq0-via-else-segment-eq0+then-segment-eq0-2}

pub returns-then-segment-eq0 : goal.returns-then-segment-eq0
returns-then-segment-eq0 c = λ later apart has.
    counts_none (segment_image c.args.segment.now) later c.args.seen.now
    (elim c.then-segment-eq0.branch [ then-segment-eq0-via-then-segment-eq0 w ↦ inl w.if-segment-eq0.true | then-segment-eq0-via-else-segment-eq0+then-segment-eq0-2 w ↦ inr w.if-segment-eq0-2.true ])
    has

pub returns : goal.returns
returns c = λ later apart has.
    counts_own (segment_image c.args.segment.now) later c.count_own-own.result (c.args.segment.now.at / 4096) c.last_page-last.result c.is_there.result c.is_there-2.result c.args.seen.now c.map_bare.new.memory
    (λ none. c.if-segment-eq0.false none) (λ none. c.if-segment-eq0-2.false none) refl c.last_page-last.ensures c.is_there.ensures c.is_there-2.ensures
    c.count_own-own.ensures.one c.count_own-own.ensures.more c.in_ok-map_bare.ensures.made apart has
