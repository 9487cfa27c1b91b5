-- The cells after bytes are written from an address on.
-- Source: the project's own.
use Rattle.std.specs.Prelude.{ℕ, ◌-◌, if◌then◌else◌, List, get_or, length, Option}
use Rattle.guest_pages.specs.Cells.{Cell}
use Rattle.guest_pages.specs.Operations.{with_byte}
use Rattle.guest_pages.specs.Ranges.{within}

unfoldable pub with_bytes : ℕ → List ℕ → (ℕ → Option Cell) → ℕ → Option Cell
with_bytes start bytes f address =
    if within start (length bytes) address then with_byte (get_or bytes (address - start) 0) (f address) else f address
