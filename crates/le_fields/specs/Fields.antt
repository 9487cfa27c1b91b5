-- Fields of a byte list: the numbers of n bytes that stand in it, the lowest byte first.
-- Source: the little-endian encoding of the System V ABI, "Data Encoding" (ELFDATA2LSB).
use Rattle.std.specs.Prelude.{ℕ, ◌+◌, nat_le, if◌then◌else◌, List, ◌++◌, take, drop, length, Option, Some, None}
use Rattle.byteorder.specs.Endian.{little_number, little_bytes}

-- the number of the n bytes from a place on, none where they pass the end
unfoldable pub field_at : ℕ → ℕ → List ℕ → Option ℕ
field_at n at bytes = if nat_le (at + n) (length bytes) then Some (little_number n (drop at bytes)) else None

-- the bytes with a number written over the n bytes from a place on
unfoldable pub with_field : ℕ → ℕ → ℕ → List ℕ → List ℕ
with_field n at value bytes = take at bytes ++ (little_bytes n value ++ drop (at + n) bytes)
