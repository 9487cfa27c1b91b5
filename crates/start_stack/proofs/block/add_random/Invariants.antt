use Rattle.std.proofs.Common.{◌≡◌, ◌++◌}
use Rattle.start_stack.specs.Block.{random_bytes}
use Rattle.start_stack.proofs.block.add_random.Given as goal

abbrev pub invariant-loop-k : goal.invariant-loop-k
invariant-loop-k l = l.bytes.items ≡ l.initial.bytes.items ++ random_bytes l.k
