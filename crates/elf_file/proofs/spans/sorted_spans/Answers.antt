use Rattle.std.proofs.Common.{rules}
use Rattle.std.proofs.lemmas.List.Sorted.{IsNonDecreasingBy-from_sort_by_key, Contains-permutation}
use Rattle.elf_file.specs.declared.spans.Span.{Span}
use Rattle.elf_file.specs.Spans.{span_of}
use Rattle.elf_file.proofs.spans.sorted_spans.Goals as goal

pub returns-clause-sorted : goal.returns-clause-sorted
returns-clause-sorted c = IsNonDecreasingBy-from_sort_by_key (λ (s : Span). s.start) _ c.in_ok-sort_by_key.ensures.sorted (λ a r q k. search rules)

pub returns-clause-each : goal.returns-clause-each
returns-clause-each c = λ i low.
    Contains-permutation c.in_ok-spans.spans.items c.sort_by_key.new.self.items (span_of c.args.sharing c.args.bytes.now i)
    c.sort_by_key.ensures.permutation (c.in_ok-spans.ensures i low)
