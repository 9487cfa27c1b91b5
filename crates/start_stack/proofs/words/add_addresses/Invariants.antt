use Rattle.std.proofs.Common.{◌≡◌, ◌+◌, ◌++◌, length, take}
use Rattle.start_stack.specs.Texts.{joined, addresses_from}
use Rattle.start_stack.proofs.words.add_addresses.Given as goal

abbrev pub invariant-loop-text : goal.invariant-loop-text
invariant-loop-text l = record {
  next : l.next ≡ l.at + length (joined (take l.text-index l.texts));
  added : l.words.items ≡ l.initial.words.items ++ addresses_from l.at (take l.text-index l.texts);
}
