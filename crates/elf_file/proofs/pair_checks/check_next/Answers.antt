use Rattle.std.proofs.Common.{arith}
use Rattle.elf_file.proofs.PairFacts.{overlaps_pass}
use Rattle.elf_file.proofs.pair_checks.check_next.Goals as goal

pub returns-then-index-apart : goal.returns-then-index-apart
returns-then-index-apart c = overlaps_pass c.args.bytes.now c.args.index (λ i low. c.requires.apart i c.args.index low (omega arith))
