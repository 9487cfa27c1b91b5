-- The sizes of sections.
-- The project's own.
use Rattle.std.specs.Prelude.{◌≡◌, ℕ, ◌+◌, Bool, true, false, not, if◌then◌else◌, List, [], ◌∷◌, length, Result, Ok, Err}
use Rattle.isa_asm.specs.declared.cause.AsmCause.{AsmCause}
use Rattle.isa_asm.specs.Places.{places_of, size_of}
use Rattle.isa_asm.specs.Source.{Piece, piece_meaning}
use Rattle.isa_asm.specs.Statement.{Meaning, Section}

-- one without a meaning has no bytes
abbrev pub statement_size : Result Meaning AsmCause → ℕ
statement_size (Err because) = 0
statement_size (Ok meaning) = size_of meaning

-- the section that is written behind a statement: the data, or the text
abbrev pub section_behind : Bool → Result Meaning AsmCause → Bool
section_behind in_data (Ok (Section other)) = other
section_behind in_data meaning = in_data

-- the sum of the sizes of the statements that stand in the data, or in the text
unfoldable pub sizes_from : Bool → Bool → List Piece → ℕ
sizes_from of_data in_data [] = 0
sizes_from of_data in_data (piece ∷ rest) =
    (if (if of_data then in_data else not in_data) then statement_size (piece_meaning piece) else 0)
    + sizes_from of_data (section_behind in_data (piece_meaning piece)) rest

-- text and data have as many bytes as their statements, and labels of the data are counted from where it is
pub record IsSized (statements : List Piece) (text data_bytes : List ℕ) : Type 0 where
  pub text_sum : length text ≡ sizes_from false false statements
  pub data_sum : length data_bytes ≡ sizes_from true false statements
  pub placed : (places_of statements).text ≡ length text
