-- What the code's values stand for, without where they lie in memory.
-- The project's own.
use Rattle.std.specs.Prelude.{◌≡◌, [], false, unwrap_or, Result, Ok, Err}
use Rattle.isa_asm.specs.Lexing.{Halves}
use Rattle.isa_asm.specs.Statement.{Meaning, Nothing, Named, Section, One, Two, Jump, Conditional, Address, Number, Pointer, Zeros, Quoted, quoted_bytes}
use Rattle.std.specs.Cmp.Lexicographic.{slice_cmp}
use Rattle.isa_asm.specs.File.{Spells}
use Rattle.std.specs.Prelude.{ℕ, ◌∷◌, ◌++◌, replicate, if◌then◌else◌, List, Option, Some, None}
use Rattle.std.specs.Ordering.{nat_cmp}
use Rattle.std.specs.BTreeMap.{BTreeMap, get_by}
use Rattle.std.specs.Borrow.{Bor}
use Rattle.isa_asm.specs.declared.layout.Layout.{Layout}
use Rattle.isa_asm.specs.declared.layout.Spot.{Spot}
use Rattle.isa_asm.specs.declared.labels.Labels.{Labels}
use Rattle.isa_decode.specs.Ranges.{InRange}
use Rattle.isa_asm.specs.declared.resolve.Code.{Code}
use Rattle.isa_asm.specs.declared.resolve.Code.TheVariants as code
use Rattle.isa_asm.specs.Places.{Places, Item, Instruction, byte_items, here, names, number_bytes}
use Rattle.isa_asm.specs.Source.{Piece}
use Rattle.isa_asm.specs.declared.source.Piece.{Piece as PieceFound}
use Rattle.isa_asm.specs.declared.cause.AsmCause.{AsmCause}
use Rattle.isa_asm.specs.declared.meaning.Meaning.{Meaning as MeaningFound}
use Rattle.isa_asm.specs.declared.meaning.Meaning.TheVariants as meaning
use Rattle.isa_asm.specs.Operands.{Target, Offset, Label}
use Rattle.isa_asm.specs.declared.operands.Target.{Target as TargetFound}
use Rattle.isa_asm.specs.declared.operands.Target.TheVariants as target
use Rattle.isa_asm.specs.declared.lexing.Halves.{Halves as HalvesFound}

abbrev pub halves_seen : HalvesFound → Halves
halves_seen found = record { before = found.before.now; behind = found.behind.now }

abbrev pub target_seen : TargetFound → Target
target_seen (target.Offset offset) = Offset offset
target_seen (target.Label name) = Label name.now

abbrev pub meaning_seen : MeaningFound → Meaning
meaning_seen meaning.Nothing = Nothing
meaning_seen (meaning.Named name) = Named name.now
meaning_seen (meaning.Section in_data) = Section in_data
meaning_seen (meaning.One instr) = One instr
meaning_seen (meaning.Two first second) = Two first second
meaning_seen (meaning.Jump rd name) = Jump rd name.now
meaning_seen (meaning.Conditional cmp rs1 rs2 name) = Conditional cmp rs1 rs2 name.now
meaning_seen (meaning.Address rd name) = Address rd name.now
meaning_seen (meaning.Number width value) = Number width value
meaning_seen (meaning.Pointer name) = Pointer name.now
meaning_seen (meaning.Zeros size) = Zeros size
meaning_seen (meaning.Quoted quoted) = Quoted (unwrap_or (quoted_bytes false quoted.now) [])

-- what the code found out is what the statement means
abbrev pub Means : Result MeaningFound AsmCause → Result Meaning AsmCause → Type 0
Means (Ok found) meant = meant ≡ Ok (meaning_seen found)
Means (Err found) meant = meant ≡ Err found

abbrev pub piece_seen : PieceFound → Piece
piece_seen piece = record { line = piece.line; is_label = piece.is_label; foreign = piece.foreign; text = piece.text.now }

-- where a name stands by a map
abbrev pub spot_in : BTreeMap (Bor (List ℕ)) Spot → List ℕ → Option Spot
spot_in spots name = get_by (λ key. slice_cmp nat_cmp name key.now) spots

-- where a name stands with one more statement
abbrev pub noted : List ℕ → Option Spot → ℕ → Layout → Result Meaning AsmCause → Option Spot
noted name (Some spot) index layout meaning = Some spot
noted name None index layout meaning = if names name meaning then Some (here index layout) else None

abbrev pub places_seen : Labels → Places
places_seen labels = record { spot = λ name. spot_in labels.spots name; text = labels.text }

-- what the code of a statement becomes
abbrev pub code_items : Code → List Item
code_items code.Nothing = []
code_items (code.One instr) = Instruction instr ∷ []
code_items (code.Two first second) = Instruction first ∷ Instruction second ∷ []
code_items (code.Number width value) = byte_items (number_bytes width value)
code_items (code.Zeros size) = byte_items (replicate size 0)
code_items (code.Quoted quoted) = byte_items (unwrap_or (quoted_bytes false quoted.now) [])

-- its instructions are in range
abbrev pub IsSound : Code → Type 0
IsSound code.Nothing = Unit {0}
IsSound (code.One instr) = InRange instr
IsSound (code.Two first second) = InRange first × InRange second
IsSound (code.Number width value) = Unit {0}
IsSound (code.Zeros size) = Unit {0}
IsSound (code.Quoted quoted) = Unit {0}

abbrev pub Resolves : Result Code AsmCause → Result (List Item) AsmCause → Type 0
Resolves (Ok found) items = items ≡ Ok (code_items found)
Resolves (Err found) items = items ≡ Err found

-- the bytes that are added spell these
abbrev pub Emits : List Item → List ℕ → List ℕ → Type 0
Emits items before after = (bytes : List ℕ) × Spells items bytes × (after ≡ before ++ bytes)
