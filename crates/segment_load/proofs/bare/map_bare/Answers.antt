use Rattle.std.proofs.Common.{ap, arith, refl, ◌-◌, ◌+◌, ◌/◌, ℕ}
use Rattle.elf_file.specs.Views.{segment_image}
use Rattle.segment_load.proofs.BareFacts.{has_mapped, has_none_mapped}
use Rattle.segment_load.proofs.FullFacts.{bare_refused}
use Rattle.segment_load.proofs.PagedFacts.{on_ok}
use Rattle.segment_load.proofs.bare.map_bare.Goals as goal

pub returns-then-segment-eq0-clause-made : goal.returns-then-segment-eq0-clause-made
returns-then-segment-eq0-clause-made c = λ m has. has_none_mapped (segment_image c.args.segment.now) m c.args.memory.now c.if-segment-eq0.true has

pub returns-clause-made : goal.returns-clause-made
returns-clause-made c =
    let first = c.args.segment.now.at / 4096 in
    on_ok c.map.result _ _
    (λ is m has.
    has_mapped (segment_image c.args.segment.now) m c.args.memory.now c.map.new.self first (c.last_page.result - first + 1)
    (λ none. c.if-segment-eq0.false none) refl (ap (λ (n : ℕ). n - c.args.segment.now.at / 4096 + 1) c.last_page.ensures) (omega (arith, c.args.segment.now.high, c.last_page.ensures))
    is has)
    c.map.ensures.ok

pub returns-clause-refused : goal.returns-clause-refused
returns-clause-refused c =
    let first = c.args.segment.now.at / 4096 in
    bare_refused c.map.result first (c.last_page.result - first + 1) c.args.memory.now (omega (arith, c.args.segment.now.high, c.last_page.ensures)) c.map.ensures.full c.map.ensures.mapped
