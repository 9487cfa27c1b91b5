-- What a program reads from its stack pointer on: numbers, and texts at the addresses that it read.
-- Source: System V ABI, "Process Initialization" (the initial process stack). Where the name and the random bytes stand is
-- the project's own.
use Rattle.std.specs.Prelude.{◌≡◌, ◌<◌, ℕ, ◌+◌, ◌*◌, List, [], length, slice_index, slice_index_or}
use Rattle.byteorder.specs.Endian.{little_number}
use Rattle.elf_file.specs.Reading.{Image}
use Rattle.guest_pages.specs.Operations.{bytes_at}
use Rattle.guest_pages.specs.Ranges.{Range}
use Rattle.start_stack.specs.Texts.{with_zero}
use Rattle.start_stack.specs.Block.{name_of, name_at, random_at, random_bytes}
use Rattle.start_stack.specs.Words.{auxiliary}

-- the number in word k from an address on
abbrev pub word_at : List Range → ℕ → ℕ → ℕ
word_at memory at k = little_number 8 (bytes_at memory (at + 8 * k) 8)

-- the bytes stand at an address
abbrev pub Holds : List Range → ℕ → List ℕ → Type 0
Holds memory at bytes = bytes_at memory at (length bytes) ≡ bytes

-- the words tell the number of arguments, the addresses of the texts with a zero behind each of the two lists, and the pairs.
-- Each text stands where they tell, with its zero, and so do the program's name and the random bytes
pub record Finds (image : Image) (args env : List (List ℕ)) (memory : List Range) (sp : ℕ) : Type 0 where
  pub count : word_at memory sp 0 ≡ length args
  pub arguments : (k : ℕ) → k < length args → Holds memory (word_at memory sp (1 + k)) (with_zero (slice_index_or args k []))
  pub arguments_end : word_at memory sp (1 + length args) ≡ 0
  pub environment : (k : ℕ) → k < length env → Holds memory (word_at memory sp (2 + length args + k)) (with_zero (slice_index_or env k []))
  pub environment_end : word_at memory sp (2 + length args + length env) ≡ 0
  pub pairs : (k : ℕ) → k < 28
      → word_at memory sp (3 + length args + length env + k) ≡ slice_index (auxiliary image (random_at args env) (name_at args env)) k
  pub name : Holds memory (name_at args env) (with_zero (name_of args))
  pub random : Holds memory (random_at args env) (random_bytes 16)
