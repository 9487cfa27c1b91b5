use Rattle.std.proofs.Common.{◌≡◌, vec_len}
use Rattle.start_stack.proofs.tests.texts.Given as goal

abbrev pub invariant-loop-text : goal.invariant-loop-text
invariant-loop-text l = vec_len l.made ≡ l.text-index
