use Rattle.std.proofs.Common.{◌/◌, true, false, length, sym, ◌∙◌, arith, eqb-true}
use Rattle.guest_pages.proofs.BitFacts.{bits_of_word, bits_past}
use Rattle.guest_pages.proofs.bits.run_below.Goals as goal

pub returns-then-is_empty-clause-alike : goal.returns-then-is_empty-clause-alike
returns-then-is_empty-clause-alike c = λ k low high.
    let none = eqb-true (length c.args.words.now) 0 (sym c.is_empty.ensures ∙ c.if-is_empty.true) in
    bits_past c.args.words.now k (omega arith)

pub returns-then-is_word-clause-alike : goal.returns-then-is_word-clause-alike
returns-then-is_word-clause-alike c = λ k low high.
    bits_of_word c.args.words.now (c.args.place / 64) k false (c.is_word.ensures c.if-is_word.true) (omega arith)

pub returns-then-is_word-2-clause-alike : goal.returns-then-is_word-2-clause-alike
returns-then-is_word-2-clause-alike c = λ k low high.
    bits_of_word c.args.words.now (c.args.place / 64) k true (c.is_word-then-place-eq63.ensures c.if-is_word-2.true) (omega arith)
