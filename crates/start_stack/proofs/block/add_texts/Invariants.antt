use Rattle.std.proofs.Common.{◌≡◌, ◌++◌, take}
use Rattle.start_stack.specs.Texts.{joined}
use Rattle.start_stack.proofs.block.add_texts.Given as goal

abbrev pub invariant-loop-text : goal.invariant-loop-text
invariant-loop-text l = l.bytes.items ≡ l.initial.bytes.items ++ joined (take l.text-index l.texts)
