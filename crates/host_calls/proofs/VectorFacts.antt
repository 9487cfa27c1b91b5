-- Pieces whose places and sizes stand in bytes.
use Rattle.std.proofs.Common.{◌≡◌, ℕ, zero, suc, ◌-◌, ◌<◌, min, Result, Ok, Err, IfOk, OnOk, List, [], ◌∷◌, drop, refl, ap, ◌∙◌, arith}
use Rattle.byteorder.specs.Endian.{little_number}
use Rattle.host_calls.specs.declared.pieces.Piece.{Piece}
use Rattle.host_calls.specs.Pieces.{cut, piece_in, pieces_in}

pub pieces_end : (count : ℕ) (bytes : List ℕ) → count ≡ 0 → pieces_in count bytes ≡ []
unfolding pieces_in
pieces_end count bytes none = rw none refl

pub pieces_more : (count : ℕ) (bytes : List ℕ) → 0 < count → pieces_in count bytes ≡ piece_in bytes ∷ pieces_in (count - 1) (drop 16 bytes)
unfolding pieces_in
pieces_more zero bytes some = absurd (omega arith)
pieces_more (suc count) bytes some =
    let e : count ≡ suc count - 1 = omega arith in
    ap (λ (n : ℕ). piece_in bytes ∷ pieces_in n (drop 16 bytes)) e

pub cut_end : (count room : ℕ) (bytes : List ℕ) → count ≡ 0 → cut room (pieces_in count bytes) ≡ []
unfolding cut
cut_end count room bytes none = ap (cut room) (pieces_end count bytes none)

cut_by : (room : ℕ) (first : Piece) (pieces : List Piece) (at size : ℕ) → at ≡ first.at → size ≡ min first.size room → cut room (first ∷ pieces) ≡ record { at = at; size = size } ∷ cut (room - size) pieces
unfolding cut
cut_by room first pieces at size at-is size-is = rw (at-is, size-is) refl

-- one more is read, and cut
pub cut_more : (count room : ℕ) (bytes : List ℕ) (at size : ℕ) → 0 < count → at ≡ little_number 8 bytes → size ≡ min (little_number 8 (drop 8 bytes)) room → cut room (pieces_in count bytes) ≡ record { at = at; size = size } ∷ cut (room - size) (pieces_in (count - 1) (drop 16 bytes))
cut_more count room bytes at size some at-is size-is =
    ap (cut room) (pieces_more count bytes some) ∙ cut_by room (piece_in bytes) (pieces_in (count - 1) (drop 16 bytes)) at size at-is size-is

pub ok_map : {T E : Type 0} (r : Result T E) (P Q : Type 0) → (P → Q) → OnOk r P → OnOk r Q
ok_map (Ok it) P Q go holds = go holds
ok_map (Err error) P Q go holds = holds

pub if_map : {T E : Type 0} (r : Result T E) (P Q : T → Type 0) → ((it : T) → P it → Q it) → IfOk r P → IfOk r Q
if_map (Ok it) P Q go holds = go it holds
if_map (Err error) P Q go holds = holds
