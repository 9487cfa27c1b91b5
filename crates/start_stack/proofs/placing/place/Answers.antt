use Rattle.std.proofs.Common.{◌≡◌, ℕ, List, OnOk, IfOk, subst, arith}
use Rattle.elf_file.specs.Reading.{image}
use Rattle.guest_pages.specs.Ranges.{Range}
use Rattle.start_stack.proofs.ContentFacts.{block_inside, words_inside, filled_is}
use Rattle.start_stack.proofs.FoundFacts.{finds}
use Rattle.start_stack.proofs.placing.place.Goals as goal

pub fill-requires-clause-block : goal.fill-requires-clause-block
fill-requires-clause-block c =
    let is = c.in-Ok.ensures in
    block_inside c.args.args.now c.args.env.now c.in-Ok.contents.block_at c.in-Ok.contents.block.items (omega arith) is.block_at is.block

pub fill-requires-clause-words : goal.fill-requires-clause-words
fill-requires-clause-words c =
    let is = c.in-Ok.ensures in
    words_inside (image c.args.elf.now) c.args.args.now c.args.env.now c.in-Ok.contents.pointer c.in-Ok.contents.words.items (omega arith) is.pointer is.words

pub returns-in-Ok-clause-memory : goal.returns-in-Ok-clause-memory
returns-in-Ok-clause-memory c =
    subst (λ (m : List Range). OnOk c.fill.result (c.fill.new.pages ≡ m))
    (filled_is (image c.args.elf.now) c.args.args.now c.args.env.now c.in-Ok.contents c.args.pages.now c.in-Ok.ensures)
    c.fill.ensures.memory

pub returns-in-Ok-clause-found : goal.returns-in-Ok-clause-found
returns-in-Ok-clause-found c =
    finds (image c.args.elf.now) c.args.args.now c.args.env.now c.args.pages.now c.fill.result c.fill.new.pages (omega arith) c.in-Ok.ensures.fit
    (subst (λ (a : ℕ). IfOk c.fill.result (λ sp. sp ≡ a)) c.in-Ok.ensures.pointer c.fill.ensures.pointer)
    (returns-in-Ok-clause-memory c)
