use Rattle.std.proofs.Common.{◌+◌, ◌++◌, ◌∷◌, [], List, ℕ, length, ap, ◌∙◌}
use Rattle.elf_file.specs.Reading.{image}
use Rattle.start_stack.specs.Texts.{addresses_from}
use Rattle.start_stack.proofs.WordFacts.{chained, words_made}
use Rattle.start_stack.proofs.words.words_of.Goals as goal

pub returns : goal.returns
returns c =
    chained (length c.args.args.now) (addresses_from c.args.at c.args.args.now) (addresses_from c.in_ok-env_at.env_at c.args.env.now) c.auxiliary.result
    c.new-words.result.items c.push.new.self.items c.add_addresses.new.words.items c.push-2.new.self.items c.add_addresses-2.new.words.items c.push-3.new.self.items c.extend_from_slice.new.self.items
    c.new-words.ensures.items c.in_ok-push.ensures.items c.in_ok-env_at.ensures.added c.in_ok-push-2.ensures.items c.in_ok-name_at.ensures.added c.in_ok-push-3.ensures.items
    (c.in_ok-extend_from_slice.ensures.items)
    ∙ (ap (λ (l : List ℕ). ((((([] ++ length c.args.args.now ∷ []) ++ addresses_from c.args.at c.args.args.now) ++ 0 ∷ []) ++ addresses_from c.in_ok-env_at.env_at c.args.env.now) ++ 0 ∷ []) ++ l) c.auxiliary.ensures
    ∙ words_made (image c.args.elf.now) c.args.args.now c.args.env.now c.args.at c.in_ok-env_at.env_at c.in_ok-name_at.name_at (c.in_ok-name_at.name_at + length c.name_of.result.now + 1) c.requires.begins c.in_ok-env_at.ensures.end c.in_ok-name_at.ensures.end (ap (λ (l : List ℕ). c.in_ok-name_at.name_at + length l + 1) c.name_of.ensures))
