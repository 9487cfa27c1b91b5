use Rattle.elf_file.proofs.SpanFacts.{IsSwept}
use Rattle.elf_file.proofs.spans.are_apart.Given as goal

abbrev pub invariant-loop-span : goal.invariant-loop-span
invariant-loop-span l = IsSwept l.spans l.bound l.one l.other l.span-index
