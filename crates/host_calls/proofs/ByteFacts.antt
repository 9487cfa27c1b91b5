-- Bytes that a call makes.
use Rattle.std.proofs.Common.{◌≡◌, ℕ, ◌+◌, ◌%◌, [], ◌∷◌, ◌++◌, zero-add}
use Rattle.std.proofs.lemmas.List.FromFn.{map-range_with_len_more}
use Rattle.guest_pages.specs.Random.{random_byte, random_bytes}

-- one more random byte
pub random_more : (drawn k : ℕ) → random_bytes drawn (k + 1) ≡ random_bytes drawn k ++ random_byte (drawn % 256 + k) ∷ []
random_more drawn k = map-range_with_len_more (λ k. random_byte (drawn % 256 + k)) 0 k k (zero-add k)
