-- The random bytes that a process draws.
-- The project's own.
use Rattle.std.specs.Prelude.{ℕ, ◌+◌, ◌*◌, ◌%◌, List, map}
use Rattle.std.specs.List.{range_with_len}

-- byte k of all that are drawn
abbrev pub random_byte : ℕ → ℕ
random_byte k = (167 * k + 13) % 256

-- so many of them behind those that were drawn: a byte is that of its number modulo 256
abbrev pub random_bytes : ℕ → ℕ → List ℕ
random_bytes drawn count = map (λ k. random_byte (drawn % 256 + k)) (range_with_len 0 count)
