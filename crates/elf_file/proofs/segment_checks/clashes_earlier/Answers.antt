use Rattle.std.proofs.Common.{sym, ◌∙◌, arith}
use Rattle.elf_file.specs.Headers.{clash_at}
use Rattle.elf_file.proofs.BelowFacts.{any_below_found}
use Rattle.elf_file.proofs.PairFacts.{any_none}
use Rattle.elf_file.proofs.segment_checks.clashes_earlier.Goals as goal

pub returns-then-clash_at : goal.returns-then-clash_at
returns-then-clash_at c =
    sym (any_below_found (λ j. clash_at c.args.bytes.now j c.args.index) c.args.index c.loop-earlier.earlier c.loop-earlier-test.true (sym c.clash_at.ensures ∙ c.if-clash_at.true))

pub returns-then-index-apart : goal.returns-then-index-apart
returns-then-index-apart c =
    sym (any_none (λ j. clash_at c.args.bytes.now j c.args.index) c.args.index (λ i low. c.requires.apart i c.args.index low (omega arith)))
