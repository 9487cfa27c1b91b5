-- The parts of a path, a byte at a time.
use Rattle.std.proofs.Common.{◌≡◌, ℕ, ◌+◌, ◌-◌, ◌<◌, ◌≤◌, ◌==◌, Bool, true, false, cond, List, [], ◌∷◌, ◌++◌, length, take, drop, get_or, slice_range, refl, ap, ◌∙◌, arith}
use Rattle.std.specs.List.{list_all}
use Rattle.std.proofs.lemmas.Grind.{common_steps}
use Rattle.std.proofs.lemmas.List.{take_more, get_or-drop, length-drop}
use Rattle.cli_words.specs.Words.{parts_after, is_part, slash}

slash_by : (test : Bool) (part : List ℕ) (byte : ℕ) (rest : List ℕ) → test ≡ true → is_part part ≡ true → list_all is_part (cond test (part ∷ parts_after [] rest) (parts_after (part ++ byte ∷ []) rest)) ≡ list_all is_part (parts_after [] rest)
slash_by true part byte rest same good = rw good refl
slash_by false part byte rest same good = cc

other_by : (test : Bool) (part : List ℕ) (byte : ℕ) (rest : List ℕ) → test ≡ false → list_all is_part (cond test (part ∷ parts_after [] rest) (parts_after (part ++ byte ∷ []) rest)) ≡ list_all is_part (parts_after (part ++ byte ∷ []) rest)
other_by true part byte rest same = cc
other_by false part byte rest same = refl

empty_range : (bytes : List ℕ) (place : ℕ) → slice_range bytes place place ≡ []
empty_range bytes place = grind (arith, common_steps)

longer_range : (bytes : List ℕ) (start place : ℕ) → start ≤ place → place < length bytes → slice_range bytes start (place + 1) ≡ slice_range bytes start place ++ get_or bytes place 0 ∷ []
longer_range bytes start place order within =
    let more : place + 1 - start ≡ (place - start) + 1 = omega arith in
    let inside : place - start < length (drop start bytes) = rw (length-drop start bytes) (omega arith) in
    let here : get_or (drop start bytes) (place - start) 0 ≡ get_or bytes place 0 =
    get_or-drop start bytes (place - start) 0 ∙ ap (λ (n : ℕ). get_or bytes n 0) (omega arith) in
    ap (λ (n : ℕ). take n (drop start bytes)) more
    ∙ take_more (drop start bytes) (place - start) 0 inside
    ∙ ap (λ (n : ℕ). take (place - start) (drop start bytes) ++ n ∷ []) here

at_place : (bytes : List ℕ) (place : ℕ) → place < length bytes → drop place bytes ≡ get_or bytes place 0 ∷ drop (place + 1) bytes
at_place bytes place within = grind (arith, common_steps)

-- at a slash a part ends
pub slash_step : (bytes : List ℕ) (start place : ℕ) → place < length bytes → get_or bytes place 0 ≡ slash → is_part (slice_range bytes start place) ≡ true → list_all is_part (parts_after (slice_range bytes start place) (drop place bytes)) ≡ list_all is_part (parts_after (slice_range bytes (place + 1) (place + 1)) (drop (place + 1) bytes))
slash_step bytes start place within same good =
    let test : (get_or bytes place 0 == slash) ≡ true = grind (arith, common_steps) in
    rw (at_place bytes place within, empty_range bytes (place + 1))
    (slash_by (get_or bytes place 0 == slash) (slice_range bytes start place) (get_or bytes place 0) (drop (place + 1) bytes) test good)

-- elsewhere it goes on
pub other_step : (bytes : List ℕ) (start place : ℕ) → start ≤ place → place < length bytes → (get_or bytes place 0 ≡ slash → ⊥) → list_all is_part (parts_after (slice_range bytes start place) (drop place bytes)) ≡ list_all is_part (parts_after (slice_range bytes start (place + 1)) (drop (place + 1) bytes))
other_step bytes start place order within apart =
    let test : (get_or bytes place 0 == slash) ≡ false = grind (arith, common_steps) in
    rw (at_place bytes place within, longer_range bytes start place order within)
    (other_by (get_or bytes place 0 == slash) (slice_range bytes start place) (get_or bytes place 0) (drop (place + 1) bytes) test)
