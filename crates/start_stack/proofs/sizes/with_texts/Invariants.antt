use Rattle.std.proofs.Common.{◌≡◌, ◌+◌, ◌-◌, ◌*◌, ◌^◌, min, length, take}
use Rattle.start_stack.specs.Texts.{joined}
use Rattle.start_stack.proofs.sizes.with_texts.Given as goal

abbrev pub invariant-loop-text : goal.invariant-loop-text
invariant-loop-text l =
    l.total ≡ min (l.size + length (joined (take l.text-index l.texts)) + 8 * l.text-index) (2 ^ 64 - 1)
