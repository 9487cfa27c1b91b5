use Rattle.std.proofs.Common.{subst}
use Rattle.elf_file.specs.Spans.{AreApart}
use Rattle.elf_file.proofs.SpanFacts.{spans_apart}
use Rattle.elf_file.proofs.spans.apart_below.Goals as goal

pub returns-in-Ok-clause-apart : goal.returns-in-Ok-clause-apart
returns-in-Ok-clause-apart c =
    spans_apart c.args.sharing c.args.bytes.now c.in-Ok.spans.items c.args.count c.greatest_bound.result c.in-Ok.ensures.each c.greatest_bound.ensures.size
    (subst (λ spans. AreApart spans c.greatest_bound.result) c.as_slice.ensures.value c.greatest_bound.ensures.apart)
