-- How a source falls into statements.
-- The project's own.
use Rattle.std.specs.Prelude.{ℕ, ◌+◌, ◌-◌, ◌^◌, ◌==◌, nat_lt, min, Bool, true, false, ◌||◌, ◌&&◌, if◌then◌else◌, List, [], ◌∷◌, ◌++◌, Result, Ok, Err}
use Rattle.isa_asm.specs.declared.cause.AsmCause.{AsmCause}
use Rattle.isa_asm.specs.declared.cause.AsmCause.TheVariants as cause
use Rattle.isa_asm.specs.declared.source.Mode.{Mode}
use Rattle.isa_asm.specs.declared.source.Mode.TheVariants as modes
use Rattle.isa_asm.specs.declared.source.Cut.{Cut}
use Rattle.isa_asm.specs.declared.source.Cut.TheVariants as cut
use Rattle.isa_asm.specs.Lexing.{begins_name, is_blank, is_of_name, first_word}
use Rattle.isa_asm.specs.Statement.{Meaning, Named, body_meaning}

-- a statement with its line: a label without its colon, or another one. It is foreign where it has a byte above 127
-- outside quoted texts
pub record Piece : Type 0 where
  pub line : ℕ
  pub is_label : Bool
  pub foreign : Bool
  pub text : List ℕ

-- Where the next byte stands: behind blanks alone, in a name in front, behind blanks behind it, further on, in a quoted
-- text, behind a backslash in it, or in a comment
abbrev pub after_other : ℕ → Mode
after_other byte = if byte == 34 then modes.Quoted else (if byte == 35 then modes.Comment else modes.Plain)

abbrev pub after : Mode → ℕ → Mode
after modes.Front byte = if is_blank byte then modes.Front else (if begins_name byte then modes.Name else after_other byte)
after modes.Name byte = if is_of_name byte then modes.Name else (if is_blank byte then modes.Behind else after_other byte)
after modes.Behind byte = if is_blank byte then modes.Behind else after_other byte
after modes.Plain byte = after_other byte
after modes.Quoted byte = if byte == 92 then modes.Escaped else (if byte == 34 then modes.Plain else modes.Quoted)
after modes.Escaped byte = modes.Quoted
after modes.Comment byte = modes.Comment

abbrev pub is_open : Mode → Bool
is_open modes.Front = true
is_open modes.Name = true
is_open modes.Behind = true
is_open modes.Plain = true
is_open modes.Quoted = false
is_open modes.Escaped = false
is_open modes.Comment = false

-- a name stands in front, and nothing else
abbrev pub has_name : Mode → Bool
has_name modes.Front = false
has_name modes.Name = true
has_name modes.Behind = true
has_name modes.Plain = false
has_name modes.Quoted = false
has_name modes.Escaped = false
has_name modes.Comment = false

abbrev pub is_front : Mode → Bool
is_front modes.Front = true
is_front modes.Name = false
is_front modes.Behind = false
is_front modes.Plain = false
is_front modes.Quoted = false
is_front modes.Escaped = false
is_front modes.Comment = false

abbrev pub is_comment : Mode → Bool
is_comment modes.Front = false
is_comment modes.Name = false
is_comment modes.Behind = false
is_comment modes.Plain = false
is_comment modes.Quoted = false
is_comment modes.Escaped = false
is_comment modes.Comment = true

-- what a byte does: a newline ends the line, `;` a statement, `:` a label, and any other byte belongs to a statement or
-- a comment
abbrev pub cut_of : Mode → ℕ → Cut
cut_of mode byte =
    if byte == 10 then cut.Line
    else (if is_open mode && (byte == 59) then cut.Part else (if has_name mode && (byte == 58) then cut.Label else cut.Go))

abbrev pub is_foreign : Mode → ℕ → Bool
is_foreign mode byte = is_open mode && nat_lt 127 byte

-- a comment doesn't belong to the text
abbrev pub grown : Mode → List ℕ → ℕ → List ℕ
grown mode text byte = if is_comment mode then text else text ++ byte ∷ []

-- the last line number stands for all after it
abbrev pub next_line : ℕ → ℕ
next_line line = min (line + 1) (2 ^ 32 - 1)

-- a statement that ends; blanks alone are none
abbrev pub part : ℕ → Mode → Bool → List ℕ → List Piece
part line mode foreign text =
    if is_front mode then [] else record { line = line; is_label = false; foreign = foreign; text = text } ∷ []

abbrev pub label_part : ℕ → List ℕ → List Piece
label_part line text = record { line = line; is_label = true; foreign = false; text = text } ∷ []

abbrev pub at_cut : {A : Type 0} → Cut → A → A → A → A → A
at_cut cut.Go go part label line = go
at_cut cut.Part go part label line = part
at_cut cut.Label go part label line = label
at_cut cut.Line go part label line = line

-- the statements of bytes, of which the first began with this text
unfoldable pub pieces_from : ℕ → Mode → Bool → List ℕ → List ℕ → List Piece
pieces_from line mode foreign text [] = part line mode foreign text
pieces_from line mode foreign text (byte ∷ bytes) =
    at_cut (cut_of mode byte)
    (pieces_from line (after mode byte) (foreign || is_foreign mode byte) (grown (after mode byte) text byte) bytes)
    (part line mode foreign text ++ pieces_from line modes.Front false [] bytes)
    (label_part line text ++ pieces_from line modes.Front false [] bytes)
    (part line mode foreign text ++ pieces_from (next_line line) modes.Front false [] bytes)

-- the statements of a source, in their order
unfoldable pub pieces : List ℕ → List Piece
pieces source = pieces_from 1 modes.Front false [] source

-- what a statement means
unfoldable pub piece_meaning : Piece → Result Meaning AsmCause
piece_meaning piece =
    if piece.is_label then Ok (Named (first_word piece.text))
    else (if piece.foreign then Err cause.Word else body_meaning piece.text)
