use Rattle.std.proofs.Common.{◌≡◌, set, sym, subst}
use Rattle.guest_pages.specs.Bits.{bit_of}
use Rattle.guest_pages.proofs.BitFacts.{put_other, word_here}
use Rattle.guest_pages.proofs.bits.put_word.Goals as goal

pub returns-clause-same : goal.returns-clause-same
returns-clause-same c = λ k here.
    subst (λ word. bit_of (set c.args.words.now c.args.index word) k ≡ c.args.on) (sym c.word_of.ensures)
    (word_here c.args.words.now c.args.index k c.args.on c.requires here)

pub returns-clause-others : goal.returns-clause-others
returns-clause-others c = λ k other. put_other c.args.words.now c.args.index k c.word_of.result other
