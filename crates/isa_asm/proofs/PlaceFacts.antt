-- Places of labels, a statement at a time.
use Rattle.std.proofs.Common.{◌≡◌, ℕ, ◌+◌, ◌<◌, Bool, true, false, cond, List, [], ◌∷◌, length, drop, get_or, map, Option, Some, None, Result, Ok, Err, refl, sym, ap, ◌∙◌, is_some, ◌≤◌, arith, rules}
use Rattle.std.proofs.lemmas.Grind.{common_steps}
use Rattle.std.proofs.lemmas.Map.Text.{btree_map_updates_str}
use Rattle.std.proofs.lemmas.Slice.Eq.{bytes_eq-Decides}
use Rattle.std.specs.BTreeMap.{BTreeMap, UpdatesBy}
use Rattle.std.specs.Borrow.{Bor}
use Rattle.std.specs.Cmp.Lexicographic.{slice_cmp}
use Rattle.std.specs.Ordering.{nat_cmp}
use Rattle.std.specs.Str.{bytes_eq}
use Rattle.isa_asm.specs.declared.cause.AsmCause.{AsmCause}
use Rattle.isa_asm.specs.declared.layout.Layout.{Layout}
use Rattle.isa_asm.specs.declared.layout.Spot.{Spot}
use Rattle.isa_asm.specs.declared.source.Piece.{Piece as PieceFound}
use Rattle.isa_asm.specs.Places.{Places, after_statement, end_from, here, names, places_of, spot_from, start}
use Rattle.isa_asm.specs.Seen.{noted, piece_seen, spot_in}
use Rattle.isa_asm.specs.Source.{Piece, piece_meaning}
use Rattle.isa_asm.specs.Statement.{Meaning, Named}

abbrev pub or_else : {T : Type 0} → Option T → Option T → Option T
or_else (Some found) other = Some found
or_else None other = other

by_name : (named : Bool) (spot : Spot) (later : Option Spot) → or_else (cond named (Some spot) None) later ≡ cond named (Some spot) later
by_name true spot later = refl
by_name false spot later = refl

-- one more statement is noted
pub noted_step : (name : List ℕ) (before : Option Spot) (index : ℕ) (layout : Layout) (piece : Piece) (rest : List Piece) (meaning : Result Meaning AsmCause) → piece_meaning piece ≡ meaning
    → or_else (noted name before index layout meaning) (spot_from name (index + 1) (after_statement layout meaning) rest) ≡ or_else before (spot_from name index layout (piece ∷ rest))
unfolding spot_from
noted_step name (Some spot) index layout piece rest meaning is = refl
noted_step name None index layout piece rest meaning is = rw is (by_name (names name meaning) (here index layout) (spot_from name (index + 1) (after_statement layout meaning) rest))

pub end_step : (layout : Layout) (piece : Piece) (rest : List Piece) (meaning : Result Meaning AsmCause) → piece_meaning piece ≡ meaning
    → end_from (after_statement layout meaning) rest ≡ end_from layout (piece ∷ rest)
unfolding end_from
end_step layout piece rest meaning is = rw is refl

-- the statements from one on
pub at_piece : (pieces : List PieceFound) (index : ℕ) (d : PieceFound) → index < length pieces → map piece_seen (drop index pieces) ≡ piece_seen (get_or pieces index d) ∷ map piece_seen (drop (index + 1) pieces)
at_piece pieces index d inside = grind (arith, common_steps)

from_bytes_eq : (one other : List ℕ) → bytes_eq one other ≡ true → one ≡ other
from_bytes_eq one other same = search (rules, bytes_eq-Decides)

abbrev pub places : (List ℕ → Option Spot) → ℕ → Places
places spots text = record { spot = spots; text = text }

noted_by : (named : Bool) (spot : Spot) (before : Option Spot) → (named ≡ true → before ≡ None) → cond named (Some spot) before ≡ or_else before (cond named (Some spot) None)
noted_by true spot (Some other) apart = let no : Some other ≡ None = apart refl in cc
noted_by true spot None apart = refl
noted_by false spot (Some other) apart = refl
noted_by false spot None apart = refl

noted_is : (name : List ℕ) (before : Option Spot) (index : ℕ) (layout : Layout) (meaning : Result Meaning AsmCause) → noted name before index layout meaning ≡ or_else before (cond (names name meaning) (Some (here index layout)) None)
noted_is name (Some spot) index layout meaning = refl
noted_is name None index layout meaning = refl

none_of : (found : Option Spot) → is_some found ≡ false → found ≡ None
none_of (Some spot) h = cc
none_of None h = refl

-- a label that stood nowhere before
pub note_named : (old new : BTreeMap (Bor (List ℕ)) Spot) (name other : List ℕ) (spot : Spot) (index : ℕ) (layout : Layout) → is_some (spot_in old name) ≡ false
    → UpdatesBy (λ x y. slice_cmp nat_cmp x.now y.now) (λ k. slice_cmp nat_cmp name k.now) old new (Some spot) → spot ≡ here index layout
    → spot_in new other ≡ noted other (spot_in old other) index layout (Ok (Named name))
note_named old new name other spot index layout absent updates is =
    let absent_other : bytes_eq name other ≡ true → spot_in old other ≡ None = λ equal.
    let same : name ≡ other = from_bytes_eq name other equal in
    ap (spot_in old) (sym same) ∙ none_of (spot_in old name) absent in
    btree_map_updates_str name old new (Some spot) updates other
    ∙ noted_by (bytes_eq name other) spot (spot_in old other) absent_other
    ∙ ap (λ (at : Spot). or_else (spot_in old other) (cond (bytes_eq name other) (Some at) None)) is
    ∙ sym (noted_is other (spot_in old other) index layout (Ok (Named name)))

noted_err : (name : List ℕ) (before : Option Spot) (index : ℕ) (layout : Layout) (because : AsmCause) → before ≡ noted name before index layout (Err because)
noted_err name (Some spot) index layout because = refl
noted_err name None index layout because = refl

pub spots_step : (old new : Option Spot) (all : Option Spot) (name : List ℕ) (index : ℕ) (layout next : Layout) (pieces : List PieceFound) (d : PieceFound) (meaning : Result Meaning AsmCause) → index < length pieces
    → piece_meaning (piece_seen (get_or pieces index d)) ≡ meaning → next ≡ after_statement layout meaning → new ≡ noted name old index layout meaning
    → or_else old (spot_from name index layout (map piece_seen (drop index pieces))) ≡ all
    → or_else new (spot_from name (index + 1) next (map piece_seen (drop (index + 1) pieces))) ≡ all
spots_step old new all name index layout next pieces d meaning inside is moves notes before =
    rw (notes, moves) (noted_step name old index layout (piece_seen (get_or pieces index d)) (map piece_seen (drop (index + 1) pieces)) meaning is)
    ∙ ap (λ rest. or_else old (spot_from name index layout rest)) (sym (at_piece pieces index d inside)) ∙ before

pub spots_skip : (old new : Option Spot) (all : Option Spot) (name : List ℕ) (index : ℕ) (layout next : Layout) (pieces : List PieceFound) (d : PieceFound) (because : AsmCause) → index < length pieces
    → piece_meaning (piece_seen (get_or pieces index d)) ≡ Err because → next ≡ layout → new ≡ old
    → or_else old (spot_from name index layout (map piece_seen (drop index pieces))) ≡ all
    → or_else new (spot_from name (index + 1) next (map piece_seen (drop (index + 1) pieces))) ≡ all
spots_skip old new all name index layout next pieces d because inside is moves notes before =
    spots_step old new all name index layout next pieces d (Err because) inside is moves (notes ∙ noted_err name old index layout because) before

pub ends_step : (end : Layout) (index : ℕ) (layout next : Layout) (pieces : List PieceFound) (d : PieceFound) (meaning : Result Meaning AsmCause) → index < length pieces
    → piece_meaning (piece_seen (get_or pieces index d)) ≡ meaning → next ≡ after_statement layout meaning
    → end_from layout (map piece_seen (drop index pieces)) ≡ end → end_from next (map piece_seen (drop (index + 1) pieces)) ≡ end
ends_step end index layout next pieces d meaning inside is moves before =
    rw moves (end_step layout (piece_seen (get_or pieces index d)) (map piece_seen (drop (index + 1) pieces)) meaning is)
    ∙ ap (λ rest. end_from layout rest) (sym (at_piece pieces index d inside)) ∙ before

or_else_none : (found : Option Spot) → or_else found None ≡ found
or_else_none (Some spot) = refl
or_else_none None = refl

-- nothing is left
pub no_pieces : (pieces : List PieceFound) (index : ℕ) → length pieces ≤ index → map piece_seen (drop index pieces) ≡ []
no_pieces pieces index all = grind (arith, common_steps)

pub places_done : (spots : List ℕ → Option Spot) (index : ℕ) (layout : Layout) (pieces : List PieceFound) → length pieces ≤ index
    → ((name : List ℕ) → or_else (spots name) (spot_from name index layout (map piece_seen (drop index pieces))) ≡ spot_from name 0 start (map piece_seen pieces))
    → end_from layout (map piece_seen (drop index pieces)) ≡ end_from start (map piece_seen pieces)
    → places spots layout.text_size ≡ places_of (map piece_seen pieces)
unfolding places_of spot_from end_from
places_done spots index layout pieces all found ends =
    let none = no_pieces pieces index all in
    let at : (name : List ℕ) → spots name ≡ spot_from name 0 start (map piece_seen pieces) = λ name.
    sym (or_else_none (spots name)) ∙ ap (λ rest. or_else (spots name) (spot_from name index layout rest)) (sym none) ∙ found name in
    let end : layout ≡ end_from start (map piece_seen pieces) = ap (λ rest. end_from layout rest) (sym none) ∙ ends in
    λ i. record { spot = λ name. at name i; text = (end i).text_size }
