-- The block of texts at the end of the first stack, and the addresses of its parts.
-- Source: System V ABI, "Process Initialization" (the information block); getauxval(3), AT_EXECFN and AT_RANDOM. Where the
-- stack stands, the order of the parts and the random bytes are the project's own.
use Rattle.std.specs.Prelude.{ℕ, ◌+◌, ◌-◌, ◌*◌, ◌%◌, List, [], ◌∷◌, ◌++◌, length, map}
use Rattle.std.specs.List.{range_with_len}
use Rattle.guest_pages.specs.Limits.{stack_end}
use Rattle.guest_pages.specs.Random.{random_byte}
use Rattle.start_stack.specs.Texts.{joined, with_zero}

-- the last multiple of 16 that isn't above a number
abbrev pub rounded_down : ℕ → ℕ
rounded_down number = number - number % 16

-- the program's name: the first argument
abbrev pub name_of : List (List ℕ) → List ℕ
name_of [] = []
name_of (name ∷ rest) = name

-- the first random bytes of all that are drawn
abbrev pub random_bytes : ℕ → List ℕ
random_bytes count = map random_byte (range_with_len 0 count)

-- the arguments, the environment and the program's name, each text with its zero, and 16 random bytes
unfoldable pub block : List (List ℕ) → List (List ℕ) → List ℕ
block args env = joined args ++ joined env ++ with_zero (name_of args) ++ random_bytes 16

-- where the block begins, and with it the arguments
unfoldable pub block_at : List (List ℕ) → List (List ℕ) → ℕ
block_at args env = rounded_down (stack_end - length (block args env))

-- where the environment begins
abbrev pub env_at : List (List ℕ) → List (List ℕ) → ℕ
env_at args env = block_at args env + length (joined args)

-- where the program's name stands
abbrev pub name_at : List (List ℕ) → List (List ℕ) → ℕ
name_at args env = env_at args env + length (joined env)

-- where the random bytes begin
abbrev pub random_at : List (List ℕ) → List (List ℕ) → ℕ
random_at args env = name_at args env + length (with_zero (name_of args))
