-- The words at the head of the first stack.
-- Source: System V ABI, "Process Initialization" (the figure of the initial process stack); RISC-V ELF psABI; getauxval(3)
-- for the numbers of the pairs. Which pairs there are, and their values, are the project's own.
use Rattle.std.specs.Prelude.{ℕ, ◌+◌, List, [], ◌∷◌, ◌++◌, length}
use Rattle.std.specs.List.{flat_map}
use Rattle.byteorder.specs.Endian.{little_bytes}
use Rattle.elf_file.specs.Reading.{Image}
use Rattle.start_stack.specs.Texts.{addresses_from}
use Rattle.start_stack.specs.Block.{block_at, env_at, name_at, random_at}
use Rattle.guest_pages.specs.Limits.{page_size}

-- the auxiliary pairs: the number of each, and its value
abbrev pub auxiliary : Image → ℕ → ℕ → List ℕ
auxiliary image random name =
    3 ∷ image.header_at  -- AT_PHDR
    ∷ 4 ∷ 56  -- AT_PHENT
    ∷ 5 ∷ image.header_count  -- AT_PHNUM
    ∷ 6 ∷ page_size  -- AT_PAGESZ
    ∷ 9 ∷ image.entry  -- AT_ENTRY
    ∷ 11 ∷ 1000  -- AT_UID
    ∷ 12 ∷ 1000  -- AT_EUID
    ∷ 13 ∷ 1000  -- AT_GID
    ∷ 14 ∷ 1000  -- AT_EGID
    ∷ 16 ∷ 0x1105  -- AT_HWCAP: I, M, A and C
    ∷ 23 ∷ 0  -- AT_SECURE
    ∷ 25 ∷ random  -- AT_RANDOM
    ∷ 31 ∷ name  -- AT_EXECFN
    ∷ 0 ∷ 0  -- AT_NULL
    ∷ []

-- the number of arguments, their addresses, a zero, the addresses of the environment, a zero, and the auxiliary pairs
unfoldable pub words : Image → List (List ℕ) → List (List ℕ) → List ℕ
words image args env =
    length args
    ∷ addresses_from (block_at args env) args
    ++ 0 ∷ addresses_from (env_at args env) env
    ++ 0 ∷ auxiliary image (random_at args env) (name_at args env)

-- how many words these are: 28 of them are auxiliary
abbrev pub word_count : List (List ℕ) → List (List ℕ) → ℕ
word_count args env = length args + length env + 31

-- each word as 8 bytes, the lowest first
unfoldable pub bytes_of : List ℕ → List ℕ
bytes_of words = flat_map (λ word. little_bytes 8 word) words
