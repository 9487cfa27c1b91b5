use Rattle.std.proofs.Common.{◌≡◌, ◌+◌, ◌-◌, ℕ, min, List, ◌++◌, ◌∷◌, length, take, drop, sym, ap, ◌∙◌, append-nil, append_assoc, arith}
use Rattle.std.proofs.lemmas.List.{take_rest}
use Rattle.host_calls.specs.declared.pieces.Piece.{Piece}
use Rattle.host_calls.specs.Pieces.{cut, pieces_in, total}
use Rattle.host_calls.proofs.PieceFacts.{total_more}
use Rattle.host_calls.proofs.VectorFacts.{cut_end, cut_more, if_map, ok_map}
use Rattle.host_calls.proofs.pieces.+push_pieces.Goals as goal

pub returns-then-count-eq0-clause-pieces : goal.returns-then-count-eq0-clause-pieces
returns-then-count-eq0-clause-pieces t c =
    sym (append-nil c.args.pieces.now.items) ∙ ap (λ (l : List Piece). c.args.pieces.now.items ++ l) (sym (cut_end c.args.count c.args.room c.args.bytes.now c.if-count-eq0.true))

pub returns-then-count-eq0-clause-left : goal.returns-then-count-eq0-clause-left
returns-then-count-eq0-clause-left t c =
    let none = ap total (cut_end c.args.count c.args.room c.args.bytes.now c.if-count-eq0.true) in
    omega (arith, none)

pub returns-in-Ok-clause-pieces : goal.returns-in-Ok-clause-pieces
returns-in-Ok-clause-pieces t c = ok_map c.push_pieces.result _ _ (λ rest.
    rest
    ∙ (ap (λ (l : List Piece). l ++ cut (c.args.room - c.min-size.result) (pieces_in (c.args.count - 1) (take (length c.args.bytes.now - 16) (drop 16 c.args.bytes.now)))) c.in-Ok.ensures.items
    ∙ (append_assoc c.args.pieces.now.items _ _
    ∙ ap (λ (l : List Piece). c.args.pieces.now.items ++ l)
    (ap (λ (more : List ℕ). record { at = c.number_at-at.result; size = c.min-size.result } ∷ cut (c.args.room - c.min-size.result) (pieces_in (c.args.count - 1) more)) (take_rest c.args.bytes.now 16)
    ∙ sym (cut_more c.args.count c.args.room c.args.bytes.now c.number_at-at.result c.min-size.result (omega arith) c.number_at-at.ensures (c.min-size.ensures ∙ ap (λ (n : ℕ). min n c.args.room) c.number_at.ensures)))))) c.push_pieces.ensures.pieces

pub returns-in-Ok-clause-left : goal.returns-in-Ok-clause-left
returns-in-Ok-clause-left t c = if_map c.push_pieces.result _ _ (λ left rest.
    let more : total (cut c.args.room (pieces_in c.args.count c.args.bytes.now)) ≡ c.min-size.result + total (cut (c.args.room - c.min-size.result) (pieces_in (c.args.count - 1) (drop 16 c.args.bytes.now))) = ap total (cut_more c.args.count c.args.room c.args.bytes.now c.number_at-at.result c.min-size.result (omega arith) c.number_at-at.ensures (c.min-size.ensures ∙ ap (λ (n : ℕ). min n c.args.room) c.number_at.ensures)) ∙ total_more (record { at = c.number_at-at.result; size = c.min-size.result }) (cut (c.args.room - c.min-size.result) (pieces_in (c.args.count - 1) (drop 16 c.args.bytes.now))) in
    let same = ap (λ (l : List ℕ). total (cut (c.args.room - c.min-size.result) (pieces_in (c.args.count - 1) l))) (take_rest c.args.bytes.now 16) in
    omega (arith, more, same, rest, c.min-size.ensures)) c.push_pieces.ensures.left
