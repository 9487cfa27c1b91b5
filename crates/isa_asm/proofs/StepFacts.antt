-- The sections, a statement at a time.
use Rattle.std.proofs.Common.{◌≡◌, ℕ, ◌+◌, ◌<◌, ◌≤◌, Bool, true, false, List, [], ◌∷◌, ◌++◌, length, drop, get_or, map, Option, Some, None, Ok, Err, refl, subst, sym, ap, ◌∙◌, append_assoc}
use Rattle.std.specs.Prelude.{not}
use Rattle.std.proofs.lemmas.List.{append-nil}
use Rattle.isa_asm.specs.declared.cause.AsmCause.{AsmCause}
use Rattle.isa_asm.specs.declared.cause.AsmFault.{AsmFault}
use Rattle.isa_asm.specs.declared.layout.Layout.{Layout}
use Rattle.isa_asm.specs.declared.source.Piece.{Piece as PieceFound}
use Rattle.isa_asm.specs.File.{Spells}
use Rattle.isa_asm.specs.Places.{Item, Places, after_statement, fault_from, items_from, kept, outcome}
use Rattle.isa_asm.specs.Seen.{Emits, piece_seen}
use Rattle.isa_asm.specs.Source.{Piece, piece_meaning}
use Rattle.isa_asm.proofs.EmitFacts.{spells_append}
use Rattle.isa_asm.proofs.PlaceFacts.{at_piece, no_pieces}

-- bytes that spell the rest, behind those that are there, spell all
abbrev pub Extends : List ℕ → List Item → List Item → Type 0
Extends out rest all = (bytes : List ℕ) → Spells rest bytes → Spells all (out ++ bytes)

-- nothing is there at first
pub extends_none : (all : List Item) → Extends [] all all
extends_none all bytes spells = spells

pub extends_more : (out next : List ℕ) (items rest all : List Item) → Emits items out next → Extends out (items ++ rest) all → Extends next rest all
extends_more out next items rest all (front, spelled, is) before bytes spells =
    let P : List ℕ → Type 0 = λ text. Spells all text in
    subst P (sym (ap (λ (text : List ℕ). text ++ bytes) is ∙ append_assoc out front bytes))
    (before (front ++ bytes) (spells_append items rest front bytes spelled spells))

pub extends_all : (out : List ℕ) (all : List Item) → Extends out [] all → Spells all out
extends_all out all before = let P : List ℕ → Type 0 = λ text. Spells all text in subst P (append-nil out) (before [] refl)

fault_unfolds : (places : Places) (index : ℕ) (layout : Layout) (piece : Piece) (rest : List Piece) (items : List Item) → outcome places index layout (piece_meaning piece) ≡ Ok items
    → fault_from places index layout (piece ∷ rest) ≡ fault_from places (index + 1) (after_statement layout (piece_meaning piece)) rest
unfolding fault_from
fault_unfolds places index layout piece rest items is = rw is

faulty_unfolds : (places : Places) (index : ℕ) (layout : Layout) (piece : Piece) (rest : List Piece) (because : AsmCause) → outcome places index layout (piece_meaning piece) ≡ Err because
    → fault_from places index layout (piece ∷ rest) ≡ Some (record { line = piece.line; cause = because })
unfolding fault_from
faulty_unfolds places index layout piece rest because is = rw is

text_unfolds : (places : Places) (index : ℕ) (layout : Layout) (piece : Piece) (rest : List Piece) (items : List Item) → outcome places index layout (piece_meaning piece) ≡ Ok items
    → items_from false places index layout (piece ∷ rest) ≡ kept (not layout.in_data) (Ok items) ++ items_from false places (index + 1) (after_statement layout (piece_meaning piece)) rest
unfolding items_from
text_unfolds places index layout piece rest items is = rw is

data_unfolds : (places : Places) (index : ℕ) (layout : Layout) (piece : Piece) (rest : List Piece) (items : List Item) → outcome places index layout (piece_meaning piece) ≡ Ok items
    → items_from true places index layout (piece ∷ rest) ≡ kept layout.in_data (Ok items) ++ items_from true places (index + 1) (after_statement layout (piece_meaning piece)) rest
unfolding items_from
data_unfolds places index layout piece rest items is = rw is

pub fault_step : (places : Places) (all : Option AsmFault) (index : ℕ) (layout next : Layout) (pieces : List PieceFound) (d : PieceFound) (items : List Item) → index < length pieces
    → outcome places index layout (piece_meaning (piece_seen (get_or pieces index d))) ≡ Ok items → next ≡ after_statement layout (piece_meaning (piece_seen (get_or pieces index d)))
    → fault_from places index layout (map piece_seen (drop index pieces)) ≡ all → fault_from places (index + 1) next (map piece_seen (drop (index + 1) pieces)) ≡ all
fault_step places all index layout next pieces d items inside is moves before =
    rw moves (sym (fault_unfolds places index layout (piece_seen (get_or pieces index d)) (map piece_seen (drop (index + 1) pieces)) items is))
    ∙ ap (λ rest. fault_from places index layout rest) (sym (at_piece pieces index d inside)) ∙ before

pub fault_here : (places : Places) (all : Option AsmFault) (index : ℕ) (layout : Layout) (pieces : List PieceFound) (d : PieceFound) (because : AsmCause) → index < length pieces
    → outcome places index layout (piece_meaning (piece_seen (get_or pieces index d))) ≡ Err because
    → fault_from places index layout (map piece_seen (drop index pieces)) ≡ all → all ≡ Some (record { line = (get_or pieces index d).line; cause = because })
fault_here places all index layout pieces d because inside is before =
    sym before ∙ ap (λ rest. fault_from places index layout rest) (at_piece pieces index d inside)
    ∙ faulty_unfolds places index layout (piece_seen (get_or pieces index d)) (map piece_seen (drop (index + 1) pieces)) because is

pub fault_none : (places : Places) (all : Option AsmFault) (index : ℕ) (layout : Layout) (pieces : List PieceFound) → length pieces ≤ index
    → fault_from places index layout (map piece_seen (drop index pieces)) ≡ all → all ≡ None
unfolding fault_from
fault_none places all index layout pieces past before = sym before ∙ ap (λ rest. fault_from places index layout rest) (no_pieces pieces index past)

pub text_step : (places : Places) (all : List Item) (index : ℕ) (layout next : Layout) (pieces : List PieceFound) (d : PieceFound) (items : List Item) (old new : List ℕ) → index < length pieces
    → outcome places index layout (piece_meaning (piece_seen (get_or pieces index d))) ≡ Ok items → next ≡ after_statement layout (piece_meaning (piece_seen (get_or pieces index d)))
    → Emits (kept (not layout.in_data) (Ok items)) old new
    → Extends old (items_from false places index layout (map piece_seen (drop index pieces))) all → Extends new (items_from false places (index + 1) next (map piece_seen (drop (index + 1) pieces))) all
text_step places all index layout next pieces d items old new inside is moves emits before =
    let P : List Item → Type 0 = λ rest. Extends old rest all in
    let same = ap (λ rest. items_from false places index layout rest) (at_piece pieces index d inside)
    ∙ text_unfolds places index layout (piece_seen (get_or pieces index d)) (map piece_seen (drop (index + 1) pieces)) items is in
    rw moves (extends_more old new (kept (not layout.in_data) (Ok items)) (items_from false places (index + 1) (after_statement layout (piece_meaning (piece_seen (get_or pieces index d)))) (map piece_seen (drop (index + 1) pieces))) all emits (subst P same before))

pub data_step : (places : Places) (all : List Item) (index : ℕ) (layout next : Layout) (pieces : List PieceFound) (d : PieceFound) (items : List Item) (old new : List ℕ) → index < length pieces
    → outcome places index layout (piece_meaning (piece_seen (get_or pieces index d))) ≡ Ok items → next ≡ after_statement layout (piece_meaning (piece_seen (get_or pieces index d)))
    → Emits (kept layout.in_data (Ok items)) old new
    → Extends old (items_from true places index layout (map piece_seen (drop index pieces))) all → Extends new (items_from true places (index + 1) next (map piece_seen (drop (index + 1) pieces))) all
data_step places all index layout next pieces d items old new inside is moves emits before =
    let P : List Item → Type 0 = λ rest. Extends old rest all in
    let same = ap (λ rest. items_from true places index layout rest) (at_piece pieces index d inside)
    ∙ data_unfolds places index layout (piece_seen (get_or pieces index d)) (map piece_seen (drop (index + 1) pieces)) items is in
    rw moves (extends_more old new (kept layout.in_data (Ok items)) (items_from true places (index + 1) (after_statement layout (piece_meaning (piece_seen (get_or pieces index d)))) (map piece_seen (drop (index + 1) pieces))) all emits (subst P same before))

pub section_done : (of_data : Bool) (places : Places) (all : List Item) (index : ℕ) (layout : Layout) (pieces : List PieceFound) (out : List ℕ) → length pieces ≤ index
    → Extends out (items_from of_data places index layout (map piece_seen (drop index pieces))) all → Spells all out
unfolding items_from
section_done of_data places all index layout pieces out past before =
    let P : List Item → Type 0 = λ rest. Extends out rest all in
    let none = ap (λ rest. items_from of_data places index layout rest) (no_pieces pieces index past) in
    extends_all out all (subst P none before)
