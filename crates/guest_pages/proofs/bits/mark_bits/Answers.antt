use Rattle.std.proofs.Common.{arith}
use Rattle.guest_pages.proofs.BitFacts.{bits_as_far, bits_none, unless_true}
use Rattle.guest_pages.proofs.bits.mark_bits.Goals as goal

pub returns-then-first-room-clause-bits : goal.returns-then-first-room-clause-bits
returns-then-first-room-clause-bits c =
    bits_as_far c.args.words.now c.put_bits.new.words c.args.first c.args.count _ c.args.on c.put_bits.ensures.size (omega arith)
    (λ k high past. (omega arith, unless_true c.args.on (λ on. let full = c.requires.room on in omega arith)))
    c.put_bits.ensures.bits

pub returns-else-first-room-clause-bits : goal.returns-else-first-room-clause-bits
returns-else-first-room-clause-bits c =
    bits_none c.args.words.now c.args.first c.args.count c.args.on
    (λ k low high. (omega arith, unless_true c.args.on (λ on. let full = c.requires.room on in omega arith)))
