use Rattle.std.proofs.Common.{ap, ap₂, sym, ◌∙◌, max}
use Rattle.elf_file.specs.declared.loaded.Segment.{Segment}
use Rattle.elf_file.specs.Segments.{byte_end}
use Rattle.elf_file.specs.Views.{segment_image}
use Rattle.elf_file.proofs.LoadFacts.{top_of_more}
use Rattle.elf_file.proofs.loading.top_of.Goals as goal

pub loop-segment-preserved : goal.loop-segment-preserved
loop-segment-preserved c =
    let more = top_of_more c.args.segments.now c.loop-segment.segment-index c.segment-item.result c.loop-segment-test.true in
    let item = ap (λ (s : Segment). byte_end (segment_image s)) c.segment-item.is in
    c.max-top.ensures ∙ ap₂ max c.loop-segment.invariant (c.byte_end.ensures ∙ item) ∙ sym more
