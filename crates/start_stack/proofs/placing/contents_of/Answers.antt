use Rattle.std.proofs.Common.{◌≡◌, ℕ, ◌<◌, ◌^◌, List, length, get_or, subst, ap, ◌∙◌, arith}
use Rattle.elf_file.specs.Reading.{image}
use Rattle.start_stack.specs.Block.{block_at}
use Rattle.start_stack.specs.Words.{words, bytes_of}
use Rattle.start_stack.proofs.ContentFacts.{few_bytes, pointer_place, random_inside, block_begins, pointer_begins}
use Rattle.start_stack.proofs.WordFacts.{length_word_bytes}
use Rattle.start_stack.proofs.placing.contents_of.Goals as goal

pub overflow_sub-len : goal.overflow_sub-len
overflow_sub-len c =
    let few = few_bytes c.args.args.now c.args.env.now c.requires in
    let size = ap length c.in_ok-block.ensures in
    let len = c.len.ensures in
    omega (arith, c.in_ok-block.block.ok.0)

pub words_of-requires-clause-begins : goal.words_of-requires-clause-begins
words_of-requires-clause-begins c =
    let bytes = ap length c.in_ok-block.ensures in
    block_begins c.args.args.now c.args.env.now c.len.result c.rounded_down-block_at.result (omega (arith, c.in_ok-block.block.ok.0)) c.rounded_down-block_at.ensures

pub words_of-requires-clause-inside : goal.words_of-requires-clause-inside
words_of-requires-clause-inside c = random_inside c.args.args.now c.args.env.now c.requires

pub overflow_sub-block_at : goal.overflow_sub-block_at
overflow_sub-block_at c =
    let args : List (List ℕ) = c.args.args.now in
    let env : List (List ℕ) = c.args.env.now in
    let bytes = ap length c.in_ok-block.ensures in
    let begins : c.rounded_down-block_at.result ≡ block_at args env =
    block_begins args env c.len.result c.rounded_down-block_at.result (omega (arith, c.in_ok-block.block.ok.0)) c.rounded_down-block_at.ensures in
    let place = (pointer_place args env c.requires).1 in
    let size = ap length c.in_ok-words-2.ensures.bytes ∙ (ap (λ (l : List ℕ). length (bytes_of l)) (c.deref.ensures.value ∙ c.in_ok-words.ensures) ∙ length_word_bytes (image c.args.elf.now) args env) in
    omega (arith, c.in_ok-words-2.words.ok.0)

pub returns : goal.returns
returns c =
    let args : List (List ℕ) = c.args.args.now in
    let env : List (List ℕ) = c.args.env.now in
    let bytes = ap length c.in_ok-block.ensures in
    let begins : c.rounded_down-block_at.result ≡ block_at args env =
    block_begins args env c.len.result c.rounded_down-block_at.result (omega (arith, c.in_ok-block.block.ok.0)) c.rounded_down-block_at.ensures in
    let made : c.in_ok-words-2.words.items ≡ bytes_of (words (image c.args.elf.now) args env) =
    c.in_ok-words-2.ensures.bytes ∙ ap bytes_of (c.deref.ensures.value ∙ c.in_ok-words.ensures) in
    let size = ap length made ∙ length_word_bytes (image c.args.elf.now) args env in
    record {
      block_at = begins;
      block = c.in_ok-block.ensures;
      pointer = pointer_begins args env c.rounded_down-block_at.result c.len-2.result c.rounded_down-pointer.result begins (omega (arith, c.in_ok-words-2.words.ok.0)) c.rounded_down-pointer.ensures;
      words = made;
      fit = λ k. subst (λ (l : List ℕ). get_or l k 0 < 2 ^ 64) (c.deref.ensures.value ∙ c.in_ok-words.ensures) (c.bytes_of.ensures.fit k);
    }
