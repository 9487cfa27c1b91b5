use Rattle.std.proofs.Common.{◌<◌, ℕ}
use Rattle.std.specs.List.{Contains}
use Rattle.elf_file.specs.Spans.{span_of}
use Rattle.elf_file.proofs.spans.spans_below.Given as goal

abbrev pub invariant-loop-index : goal.invariant-loop-index
invariant-loop-index l = (i : ℕ) → i < l.index → Contains l.spans.items (span_of l.sharing l.bytes i)
