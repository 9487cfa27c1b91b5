-- The pieces of memory between which a call and a file move bytes.
-- Source: readv(2), writev(2). That at most 1,048,576 bytes are moved, and that each piece is looked at before any is used, is
-- the project's own.
use Rattle.std.specs.Prelude.{ℕ, zero, suc, ◌-◌, min, Bool, List, [], ◌∷◌, ◌++◌, length, take, drop, is_some, sum_by}
use Rattle.std.specs.List.{list_any}
use Rattle.byteorder.specs.Endian.{little_number}
use Rattle.guest_pages.specs.declared.rights.Rights.{Rights}
use Rattle.guest_pages.specs.Faults.{first_fault}
use Rattle.guest_pages.specs.Operations.{bytes_at, written}
use Rattle.guest_pages.specs.Ranges.{Range}
use Rattle.word_memory.specs.declared.reservations.Held.{Held}
use Rattle.word_memory.specs.Reservations.{stored_to}
use Rattle.host_calls.specs.declared.pieces.Piece.{Piece}
use Rattle.host_calls.specs.Shared.{Shared}

-- the most bytes that a call moves
abbrev pub most_bytes : ℕ
most_bytes = 1048576

abbrev pub piece : ℕ → ℕ → Piece
piece at size = record { at = at; size = size }

-- a place and a size, of eight bytes each
abbrev pub piece_in : List ℕ → Piece
piece_in bytes = piece (little_number 8 bytes) (little_number 8 (drop 8 bytes))

-- so many of them, one behind another
unfoldable pub pieces_in : ℕ → List ℕ → List Piece
pieces_in zero bytes = []
pieces_in (suc count) bytes = piece_in bytes ∷ pieces_in count (drop 16 bytes)

-- each is cut so that those up to it have at most so many bytes
unfoldable pub cut : ℕ → List Piece → List Piece
cut room [] = []
cut room (first ∷ pieces) = piece first.at (min first.size room) ∷ cut (room - min first.size room) pieces

-- the one piece of a call that has no more
abbrev pub one_piece : ℕ → ℕ → List Piece
one_piece at wish = piece at (min wish most_bytes) ∷ []

-- how many bytes they have
abbrev pub total : List Piece → ℕ
total pieces = sum_by (λ piece. piece.size) pieces

-- a piece of them hasn't the rights
abbrev pub any_bad : Rights → List Range → List Piece → Bool
any_bad needed memory pieces = list_any (λ piece. is_some (first_fault needed memory piece.at piece.size)) pieces

-- the bytes that stand in them, one after another
unfoldable pub gathered : List Range → List Piece → List ℕ
gathered memory [] = []
gathered memory (first ∷ pieces) = bytes_at memory first.at first.size ++ gathered memory pieces

-- what bytes go into: the memory, and the reservations, since it counts as a store of the thread
pub record Stored : Type 0 where
  pub memory : List Range
  pub held : List Held

abbrev pub put_in : ℕ → ℕ → List ℕ → Stored → Stored
put_in thread at bytes stored =
    record { memory = written at bytes stored.memory; held = stored_to thread at (length bytes) stored.held }

-- bytes go into the pieces, one after another, as far as there are any
unfoldable pub scattered : ℕ → List Piece → List ℕ → Stored → Stored
scattered thread [] bytes stored = stored
scattered thread (first ∷ pieces) bytes stored =
    scattered thread pieces (drop first.size bytes) (put_in thread first.at (take first.size bytes) stored)

abbrev pub stored_of : Shared → Stored
stored_of shared = record { memory = shared.memory; held = shared.held }

abbrev pub with_stored : Stored → Shared → Shared
with_stored stored shared = record shared { memory = stored.memory; held = stored.held }
