-- The memory after the first stack is placed, and when it isn't.
-- Source: System V ABI and RISC-V ELF psABI, "Process Initialization" (the stack pointer is a multiple of 16, and points to the
-- number of arguments). The stack's place and size, and both bounds, are the project's own.
use Rattle.std.specs.Prelude.{◌≡◌, ◌<◌, ◌≤◌, ℕ, ◌+◌, ◌-◌, ◌*◌, ◌^◌, min, true, false, List, length}
use Rattle.elf_file.specs.Reading.{Image}
use Rattle.guest_pages.specs.Faults.{changeable}
use Rattle.guest_pages.specs.Operations.{placed, written, stored_pages}
use Rattle.guest_pages.specs.Ranges.{Range}
use Rattle.start_stack.specs.declared.fault.StackFault.{StackFault}
use Rattle.start_stack.specs.declared.fault.StackFault.TheVariants.{TooLong, PagesFull, Memory}
use Rattle.start_stack.specs.Block.{block, block_at, rounded_down}
use Rattle.guest_pages.specs.Limits.{most_pages, most_stack_bytes, stack_end, stack_length}
use Rattle.start_stack.specs.Words.{words, word_count, bytes_of}

-- the whole stack is zeros
abbrev pub with_pages : List Range → List Range
with_pages memory = placed (stack_end - stack_length) stack_length changeable memory

-- where the words begin
unfoldable pub stack_pointer : List (List ℕ) → List (List ℕ) → ℕ
stack_pointer args env = rounded_down (block_at args env - 8 * word_count args env)

-- zeros, the block in them, and the words
unfoldable pub with_stack : Image → List (List ℕ) → List (List ℕ) → List Range → List Range
with_stack image args env memory =
    written (stack_pointer args env) (bytes_of (words image args env))
    (written (block_at args env) (block args env) (with_pages memory))

-- the bytes of the block and of the words
unfoldable pub stack_size : List (List ℕ) → List (List ℕ) → ℕ
stack_size args env = length (block args env) + 8 * word_count args env

-- their number as it is told: a number that passes 64 bits is told as the greatest of 64 bits
abbrev pub told_size : List (List ℕ) → List (List ℕ) → ℕ
told_size args env = min (stack_size args env) (2 ^ 64 - 1)

-- the stack fits
pub record Fits (args env : List (List ℕ)) (memory : List Range) : Type 0 where
  pub size : stack_size args env ≤ most_stack_bytes
  pub pages : stored_pages (with_pages memory) ≤ most_pages

-- why it isn't placed. The size is looked at first, and want of memory is free
abbrev pub IsRefused : List (List ℕ) → List (List ℕ) → List Range → StackFault → Type 0
IsRefused args env memory (TooLong size) = (size ≡ told_size args env) × (most_stack_bytes < stack_size args env)
IsRefused args env memory (PagesFull wanted) =
    (wanted ≡ stored_pages (with_pages memory)) × (most_pages < wanted) × (stack_size args env ≤ most_stack_bytes)
IsRefused args env memory Memory = stack_size args env ≤ most_stack_bytes
