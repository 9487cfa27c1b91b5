-- Pieces of which a part goes.
use Rattle.std.proofs.Common.{◌≡◌, ◌≢◌, ℕ, ◌+◌, ◌-◌, ◌%◌, ◌^◌, ◌≤◌, min, List, [], ◌∷◌, ◌++◌, length, take, drop, get_or, refl, sym, ap, ◌∙◌, append-nil, append_assoc, arith, length-append}
use Rattle.std.proofs.lemmas.List.{take_rest}
use Rattle.host_calls.specs.declared.pieces.Piece.{Piece}
use Rattle.guest_pages.specs.Operations.{bytes_at}
use Rattle.guest_pages.specs.Ranges.{Range}
use Rattle.guest_pages.proofs.ByteFacts.{length_bytes_at}
use Rattle.host_calls.specs.Pieces.{cut, gathered, piece, total}
use Rattle.host_calls.proofs.PieceFacts.{no_piece, total_more}
use Rattle.host_waits.specs.Moving.{past}

none_left : (pieces : List Piece) → length pieces ≡ 0 → pieces ≡ []
none_left [] none = refl
none_left (first ∷ pieces) none = absurd (omega (arith, none))

-- ---- a list that one more is pushed to, and then the rest

pub pushed_on : {A : Type 0} (new mid old one rest all : List A) → mid ≡ old ++ one → new ≡ mid ++ rest → one ++ rest ≡ all → new ≡ old ++ all
pushed_on new mid old one rest all pushed went is =
    went ∙ (ap (λ l. l ++ rest) pushed ∙ (append_assoc old one rest ∙ ap (λ l. old ++ l) is))

pub pushed_none : {A : Type 0} (old all : List A) → all ≡ [] → old ≡ old ++ all
pushed_none old all none = sym (append-nil old) ∙ ap (λ l. old ++ l) (sym none)

-- ---- the pieces cut

pub cut_none : (room : ℕ) (pieces : List Piece) → length pieces ≡ 0 → cut room pieces ≡ []
unfolding cut
cut_none room pieces none = rw (none_left pieces none) refl

cut_by : (room size : ℕ) (first : Piece) (pieces rest : List Piece) → size ≡ min first.size room → rest ≡ pieces → piece first.at size ∷ cut (room - size) rest ≡ cut room (first ∷ pieces)
unfolding cut
cut_by room size first pieces rest is same = rw (is, same) refl

pub part_step : (room size : ℕ) (pieces : List Piece) → length pieces ≢ 0 → size ≡ min (get_or pieces 0 no_piece).size room → piece (get_or pieces 0 no_piece).at size ∷ cut (room - size) (take (length pieces - 1) (drop 1 pieces)) ≡ cut room pieces
part_step room size [] some is = absurd (some refl)
part_step room size (first ∷ pieces) some is = cut_by room size first pieces (take (length (first ∷ pieces) - 1) (drop 1 (first ∷ pieces))) is (take_rest (first ∷ pieces) 1)

-- ---- the pieces without their first bytes

pub past_none : (count : ℕ) (pieces : List Piece) → length pieces ≡ 0 → past count pieces ≡ []
unfolding past
past_none count pieces none = rw (none_left pieces none) refl

past_by : (count gone : ℕ) (first : Piece) (pieces rest : List Piece) → gone ≡ min first.size count → rest ≡ pieces → piece ((first.at + gone) % 2 ^ 64) (first.size - gone) ∷ past (count - gone) rest ≡ past count (first ∷ pieces)
unfolding past
past_by count gone first pieces rest is same =
    let a : gone ≡ min count first.size = omega (arith, is) in
    let b : first.size - gone ≡ first.size - count = omega (arith, is) in
    let c : count - gone ≡ count - first.size = omega (arith, is) in
    rw (b, c, a, same) refl

pub rest_step : (count gone : ℕ) (pieces : List Piece) → length pieces ≢ 0 → gone ≡ min (get_or pieces 0 no_piece).size count → piece (((get_or pieces 0 no_piece).at + gone) % 2 ^ 64) ((get_or pieces 0 no_piece).size - gone) ∷ past (count - gone) (take (length pieces - 1) (drop 1 pieces)) ≡ past count pieces
rest_step count gone [] some is = absurd (some refl)
rest_step count gone (first ∷ pieces) some is = past_by count gone first pieces (take (length (first ∷ pieces) - 1) (drop 1 (first ∷ pieces))) is (take_rest (first ∷ pieces) 1)

pub total_cut : (room : ℕ) (pieces : List Piece) → total (cut room pieces) ≤ room
unfolding cut
total_cut room [] = omega arith
total_cut room (first ∷ pieces) =
    let rest = total_cut (room - min first.size room) pieces in
    let here = total_more (piece first.at (min first.size room)) (cut (room - min first.size room) pieces) in
    omega (arith, rest, here)

pub total_past : (count : ℕ) (pieces : List Piece) → total (past count pieces) ≡ total pieces - count
unfolding past
total_past count [] = omega arith
total_past count (first ∷ pieces) =
    let rest = total_past (count - first.size) pieces in
    let here = total_more (piece ((first.at + min count first.size) % 2 ^ 64) (first.size - count)) (past (count - first.size) pieces) in
    let all = total_more first pieces in
    omega (arith, rest, here, all)

pub length_gathered : (memory : List Range) (pieces : List Piece) → length (gathered memory pieces) ≡ total pieces
unfolding gathered
length_gathered memory [] = refl
length_gathered memory (first ∷ pieces) =
    let here = length_bytes_at memory first.at first.size in
    let rest = length_gathered memory pieces in
    let all = total_more first pieces in
    let both : length (bytes_at memory first.at first.size ++ gathered memory pieces) ≡ length (bytes_at memory first.at first.size) + length (gathered memory pieces) = length-append (bytes_at memory first.at first.size) (gathered memory pieces) in
    omega (arith, here, rest, all, both)
