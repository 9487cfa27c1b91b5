use Rattle.std.proofs.Common.{◌≤◌, ◌-◌}
use Rattle.elf_file.specs.Spans.{AreApart}
use Rattle.elf_file.proofs.spans.greatest_bound.Given as goal

abbrev pub invariant-halving : goal.invariant-halving
invariant-halving l = record { order : l.low ≤ l.high; size : l.high ≤ l.count; apart : AreApart l.spans l.low }

abbrev pub decreases-halving : goal.decreases-halving
decreases-halving l = l.high - l.low
