use Rattle.std.proofs.Common.{◌∙◌}
use Rattle.guest_pages.proofs.BitFacts.{put_same, one_changed}
use Rattle.guest_pages.proofs.bits.put_bit.Goals as goal

pub returns-clause-same : goal.returns-clause-same
returns-clause-same c = put_same c.args.words.now c.args.place c.with_bit.result c.requires ∙ c.with_bit.ensures.same

pub returns-clause-others : goal.returns-clause-others
returns-clause-others c = λ k other.
    one_changed c.args.words.now c.args.place k c.with_bit.result c.requires other (λ i small apart. c.with_bit.ensures.others i small apart)
