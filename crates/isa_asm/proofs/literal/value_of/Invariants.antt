use Rattle.std.proofs.Common.{◌≡◌, take}
use Rattle.isa_asm.specs.Literals.{digits_value, within}
use Rattle.isa_asm.proofs.literal.value_of.Given as goal

abbrev pub invariant-loop-digit : goal.invariant-loop-digit
invariant-loop-digit l = l.value ≡ within (digits_value l.base (take l.digit-index l.digits))
