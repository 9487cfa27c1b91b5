use Rattle.std.proofs.Common.{w64, sym, ◌∙◌}
use Rattle.std.proofs.lemmas.Nat.Bits.{bit_at_set_other, bit_at_clear_other}
use Rattle.guest_pages.proofs.BitFacts.{set_same, clear_same}
use Rattle.guest_pages.proofs.bits.with_bit.Goals as goal

pub returns-then-on-clause-same : goal.returns-then-on-clause-same
returns-then-on-clause-same c = set_same c.args.word c.args.place c.requires ∙ sym c.if-on.true

pub returns-then-on-clause-others : goal.returns-then-on-clause-others
returns-then-on-clause-others c = λ i small other. bit_at_set_other w64 c.args.word c.args.place c.requires i other

pub returns-else-on-clause-same : goal.returns-else-on-clause-same
returns-else-on-clause-same c = clear_same c.args.word c.args.place c.requires ∙ sym c.if-on.false

pub returns-else-on-clause-others : goal.returns-else-on-clause-others
returns-else-on-clause-others c = λ i small other. bit_at_clear_other w64 c.args.word c.args.place c.requires i small other
