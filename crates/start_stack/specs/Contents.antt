-- What the code keeps of the stack before it is in memory.
-- Source: the project's own.
use Rattle.std.specs.Prelude.{◌≡◌, ◌<◌, ◌≤◌, ℕ, ◌+◌, ◌-◌, ◌^◌, List, length, slice_index}
use Rattle.elf_file.specs.Reading.{Image}
use Rattle.guest_pages.specs.Operations.{written, stored_pages}
use Rattle.guest_pages.specs.Ranges.{Range}
use Rattle.start_stack.specs.declared.fault.StackFault.{StackFault}
use Rattle.start_stack.specs.declared.fault.StackFault.TheVariants.{TooLong, PagesFull, Memory}
use Rattle.start_stack.specs.declared.placing.Contents.{Contents}
use Rattle.start_stack.specs.Block.{block, block_at}
use Rattle.start_stack.specs.Words.{words, bytes_of}
use Rattle.start_stack.specs.Placing.{stack_pointer, with_pages}
use Rattle.guest_pages.specs.Limits.{stack_length, most_pages, stack_end}

-- each word has 64 bits, and each part is that of the stack
pub record IsContents (image : Image) (args env : List (List ℕ)) (contents : Contents) : Type 0 where
  pub fit : (k : ℕ) → slice_index (words image args env) k < 2 ^ 64
  pub block_at : contents.block_at ≡ block_at args env
  pub block : contents.block.items ≡ block args env
  pub pointer : contents.pointer ≡ stack_pointer args env
  pub words : contents.words.items ≡ bytes_of (words image args env)

-- the bytes lie in the stack
pub record IsInside (at : ℕ) (bytes : List ℕ) : Type 0 where
  pub low : stack_end - stack_length ≤ at
  pub high : at + length bytes ≤ stack_end

-- zeros, the block in them, and the words
abbrev pub filled : Contents → List Range → List Range
filled contents memory =
    written contents.pointer contents.words.items (written contents.block_at contents.block.items (with_pages memory))

-- why the stack isn't mapped
abbrev pub IsUnmapped : List Range → StackFault → Type 0
IsUnmapped memory (TooLong size) = ⊥
IsUnmapped memory (PagesFull wanted) = (wanted ≡ stored_pages (with_pages memory)) × (most_pages < wanted)
IsUnmapped memory Memory = Unit {0}
