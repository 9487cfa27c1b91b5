-- The block and the words lie in the stack.
use Rattle.std.proofs.Common.{◌≡◌, ℕ, ◌+◌, ◌-◌, ◌*◌, ◌%◌, ◌^◌, ◌<◌, ◌≤◌, List, ◌++◌, length, ap, ◌∙◌, arith, length-append}
use Rattle.elf_file.specs.Reading.{Image}
use Rattle.guest_pages.specs.Operations.{written}
use Rattle.guest_pages.specs.Ranges.{Range}
use Rattle.start_stack.specs.declared.placing.Contents.{Contents}
use Rattle.start_stack.specs.Texts.{joined, with_zero}
use Rattle.start_stack.specs.Block.{block, block_at, name_of, random_at, random_bytes, rounded_down}
use Rattle.start_stack.specs.Contents.{IsContents, IsInside, filled}
use Rattle.start_stack.specs.Placing.{stack_pointer, stack_size, with_pages, with_stack}
use Rattle.guest_pages.specs.Limits.{most_stack_bytes, stack_length, stack_end}
use Rattle.start_stack.specs.Words.{words, word_count, bytes_of}
use Rattle.start_stack.proofs.WordFacts.{length_word_bytes}

four : (a b c d : List ℕ) → length (((a ++ b) ++ c) ++ d) ≡ length a + length b + length c + length d
four a b c d = simp length-append (omega arith)

length_block : (args env : List (List ℕ)) → length (block args env) ≡ length (joined args) + length (joined env) + length (with_zero (name_of args)) + 16
unfolding block
length_block args env = four (joined args) (joined env) (with_zero (name_of args)) (random_bytes 16)

-- the block and the words have few bytes
pub few_bytes : (args env : List (List ℕ)) → stack_size args env ≤ most_stack_bytes → length (block args env) + 8 * word_count args env ≤ most_stack_bytes
unfolding stack_size
few_bytes args env few = few

-- the block lies in the stack, close to its end
pub block_place : (args env : List (List ℕ)) → stack_size args env ≤ most_stack_bytes → (stack_end ≤ block_at args env + length (block args env) + 15) × (block_at args env + length (block args env) ≤ stack_end)
unfolding block_at
block_place args env few =
    let sum = few_bytes args env few in
    (omega arith, omega arith)

-- the words lie before it
pub pointer_place : (args env : List (List ℕ)) → stack_size args env ≤ most_stack_bytes → (block_at args env ≤ stack_pointer args env + 8 * word_count args env + 15) × (stack_pointer args env + 8 * word_count args env ≤ block_at args env)
unfolding stack_pointer
pointer_place args env few =
    let sum = few_bytes args env few in
    let place = block_place args env few in
    let low = place.0 in
    (omega arith, omega arith)

-- the two places by the lengths of what stands there
pub block_begins : (args env : List (List ℕ)) (size at : ℕ) → size ≡ length (block args env) → at ≡ rounded_down (stack_end - size) → at ≡ block_at args env
unfolding block_at
block_begins args env size at same is = is ∙ ap (λ (n : ℕ). rounded_down (stack_end - n)) same

pub pointer_begins : (args env : List (List ℕ)) (at size pointer : ℕ) → at ≡ block_at args env → size ≡ 8 * word_count args env → pointer ≡ rounded_down (at - size) → pointer ≡ stack_pointer args env
unfolding stack_pointer
pointer_begins args env at size pointer same-at same is =
    is ∙ (ap (λ (a : ℕ). rounded_down (a - size)) same-at ∙ ap (λ (n : ℕ). rounded_down (block_at args env - n)) same)

pub random_inside : (args env : List (List ℕ)) → stack_size args env ≤ most_stack_bytes → random_at args env < 2 ^ 38
random_inside args env few =
    let place = (block_place args env few).1 in
    let size = length_block args env in
    omega arith

pub block_inside : (args env : List (List ℕ)) (at : ℕ) (bytes : List ℕ) → stack_size args env ≤ most_stack_bytes → at ≡ block_at args env → bytes ≡ block args env → IsInside at bytes
block_inside args env at bytes few same-at same =
    let sum = few_bytes args env few in
    let place = block_place args env few in
    let low = place.0 in
    let high = place.1 in
    let size = ap length same in
    record { low = omega arith; high = omega arith }

pub words_inside : (image : Image) (args env : List (List ℕ)) (at : ℕ) (bytes : List ℕ) → stack_size args env ≤ most_stack_bytes → at ≡ stack_pointer args env → bytes ≡ bytes_of (words image args env) → IsInside at bytes
words_inside image args env at bytes few same-at same =
    let sum = few_bytes args env few in
    let place = block_place args env few in
    let low = place.0 in
    let high = place.1 in
    let before = pointer_place args env few in
    let low-2 = before.0 in
    let high-2 = before.1 in
    let size = ap length same ∙ length_word_bytes image args env in
    record { low = omega arith; high = omega arith }

-- the contents in memory are the stack
pub filled_is : (image : Image) (args env : List (List ℕ)) (contents : Contents) (memory : List Range) → IsContents image args env contents → filled contents memory ≡ with_stack image args env memory
unfolding with_stack
filled_is image args env contents memory is =
    ap (λ (a : ℕ). written a contents.words.items (written contents.block_at contents.block.items (with_pages memory))) is.pointer
    ∙ (ap (λ (l : List ℕ). written (stack_pointer args env) l (written contents.block_at contents.block.items (with_pages memory))) is.words
    ∙ (ap (λ (a : ℕ). written (stack_pointer args env) (bytes_of (words image args env)) (written a contents.block.items (with_pages memory))) is.block_at
    ∙ ap (λ (l : List ℕ). written (stack_pointer args env) (bytes_of (words image args env)) (written (block_at args env) l (with_pages memory))) is.block))

-- the stack pointer is a multiple of 16
pub pointer_aligned : (args env : List (List ℕ)) → stack_pointer args env % 16 ≡ 0
unfolding stack_pointer
pointer_aligned args env = omega arith

-- it lies in the stack
pub pointer_inside : (args env : List (List ℕ)) → stack_size args env ≤ most_stack_bytes → (stack_end - stack_length ≤ stack_pointer args env) × (stack_pointer args env < stack_end)
pointer_inside args env few =
    let sum = few_bytes args env few in
    let place = block_place args env few in
    let low = place.0 in
    let high = place.1 in
    let before = pointer_place args env few in
    let low-2 = before.0 in
    let high-2 = before.1 in
    (omega arith, omega arith)
