-- The scan of a source, a byte at a time.
use Rattle.std.proofs.Common.{◌≡◌, ℕ, ◌+◌, ◌-◌, ◌<◌, ◌≤◌, ◌||◌, Bool, true, false, cond, List, [], ◌∷◌, ◌++◌, length, take, drop, get_or, slice_range, refl, sym, ap, ◌∙◌, append_assoc, arith}
use Rattle.std.proofs.lemmas.Grind.{common_steps}
use Rattle.std.proofs.lemmas.List.{take_more, get_or-drop, length-drop}
use Rattle.isa_asm.specs.declared.source.Mode.{Mode}
use Rattle.isa_asm.specs.declared.source.Mode.TheVariants.{Front, Name, Behind, Plain, Quoted, Escaped, Comment}
use Rattle.isa_asm.specs.declared.source.Cut.{Cut}
use Rattle.isa_asm.specs.declared.source.Cut.TheVariants.{Go, Part, Label, Line}
use Rattle.isa_asm.specs.declared.source.Scan.{Scan}
use Rattle.isa_asm.specs.Source.{Piece, after, at_cut, cut_of, grown, is_comment, is_foreign, label_part, next_line, part, pieces, pieces_from}

empty_range : (bytes : List ℕ) (place : ℕ) → slice_range bytes place place ≡ []
empty_range bytes place = grind (arith, common_steps)

longer_range : (bytes : List ℕ) (start place : ℕ) → start ≤ place → place < length bytes → slice_range bytes start (place + 1) ≡ slice_range bytes start place ++ get_or bytes place 0 ∷ []
longer_range bytes start place order within =
    let more : place + 1 - start ≡ (place - start) + 1 = omega arith in
    let inside : place - start < length (drop start bytes) = rw (length-drop start bytes) (omega arith) in
    let here : get_or (drop start bytes) (place - start) 0 ≡ get_or bytes place 0 =
    get_or-drop start bytes (place - start) 0 ∙ ap (λ (n : ℕ). get_or bytes n 0) (omega arith) in
    ap (λ (n : ℕ). take n (drop start bytes)) more
    ∙ take_more (drop start bytes) (place - start) 0 inside
    ∙ ap (λ (n : ℕ). take (place - start) (drop start bytes) ++ n ∷ []) here

at_place : (bytes : List ℕ) (place : ℕ) → place < length bytes → drop place bytes ≡ get_or bytes place 0 ∷ drop (place + 1) bytes
at_place bytes place within = grind (arith, common_steps)

-- the scan stands at a place, behind these statements
pub record IsAt (source : List ℕ) (place : ℕ) (found : List Piece) (scan : Scan) : Type 0 where
  pub order : scan.start ≤ scan.end
  pub within : scan.end ≤ place
  pub tight : is_comment scan.mode ≡ false → scan.end ≡ place
  pub rest : found ++ pieces_from scan.line scan.mode scan.foreign (slice_range source scan.start scan.end) (drop place source) ≡ pieces source

-- what the statements are from a byte on
at_byte : (source : List ℕ) (place line : ℕ) (mode : Mode) (foreign : Bool) (text : List ℕ) (cut : Cut) → place < length source → cut_of mode (get_or source place 0) ≡ cut
    → pieces_from line mode foreign text (drop place source)
    ≡ at_cut cut
    (pieces_from line (after mode (get_or source place 0)) (foreign || is_foreign mode (get_or source place 0)) (grown (after mode (get_or source place 0)) text (get_or source place 0)) (drop (place + 1) source))
    (part line mode foreign text ++ pieces_from line Front false [] (drop (place + 1) source))
    (label_part line text ++ pieces_from line Front false [] (drop (place + 1) source))
    (part line mode foreign text ++ pieces_from (next_line line) Front false [] (drop (place + 1) source))
unfolding pieces_from
at_byte source place line mode foreign text cut inside is =
    rw (at_place source place inside, is)

stays_comment : (mode : Mode) (byte : ℕ) → is_comment (after mode byte) ≡ false → is_comment mode ≡ false
stays_comment Front byte plain = refl
stays_comment Name byte plain = refl
stays_comment Behind byte plain = refl
stays_comment Plain byte plain = refl
stays_comment Quoted byte plain = refl
stays_comment Escaped byte plain = refl
stays_comment Comment byte plain = plain

-- the text with one more byte, which belongs to a comment or not
text_grows : (comment : Bool) (source : List ℕ) (start end place : ℕ) → start ≤ end → place < length source → (comment ≡ false → end ≡ place)
    → slice_range source start (cond comment end (place + 1)) ≡ cond comment (slice_range source start end) (slice_range source start end ++ get_or source place 0 ∷ [])
text_grows true source start end place order inside tight = refl
text_grows false source start end place order inside tight =
    let same : end ≡ place = tight refl in
    let ordered : start ≤ place = omega arith in
    rw same (longer_range source start place ordered inside)

end_grows : (comment : Bool) (start end place : ℕ) → start ≤ end → end ≤ place → (start ≤ cond comment end (place + 1)) × (cond comment end (place + 1) ≤ place + 1) × (comment ≡ false → cond comment end (place + 1) ≡ place + 1)
end_grows true start end place order within = (order, omega arith, λ plain. cc)
end_grows false start end place order within = (omega arith, omega arith, λ plain. refl)

pub at_go : (source : List ℕ) (place : ℕ) (found : List Piece) (scan next : Scan) → IsAt source place found scan → place < length source → cut_of scan.mode (get_or source place 0) ≡ Go
    → next.line ≡ scan.line → next.mode ≡ after scan.mode (get_or source place 0) → next.foreign ≡ (scan.foreign || is_foreign scan.mode (get_or source place 0)) → next.start ≡ scan.start
    → next.end ≡ cond (is_comment (after scan.mode (get_or source place 0))) scan.end (place + 1) → IsAt source (place + 1) found next
at_go source place found scan next at inside cut line mode foreign start end =
    let comment : Bool = is_comment (after scan.mode (get_or source place 0)) in
    let grows = end_grows comment scan.start scan.end place at.order at.within in
    let tight : comment ≡ false → scan.end ≡ place = λ plain. at.tight (stays_comment scan.mode (get_or source place 0) plain) in
    record {
      order = rw (start, end) grows.0;
      within = rw end grows.1;
      tight = rw (mode, end) grows.2;
      rest =
          rw (line, mode, foreign, start, end, text_grows comment source scan.start scan.end place at.order inside tight)
          (ap (λ (more : List Piece). found ++ more) (sym (at_byte source place scan.line scan.mode scan.foreign (slice_range source scan.start scan.end) Go inside cut)) ∙ at.rest);
    }

-- a statement begins behind the byte
begun : (source : List ℕ) (place line : ℕ) (found more : List Piece) (next : Scan) → next ≡ record { line = line; mode = Front; foreign = false; start = place + 1; end = place + 1 }
    → (found ++ more) ++ pieces_from line Front false [] (drop (place + 1) source) ≡ pieces source → IsAt source (place + 1) (found ++ more) next
begun source place line found more next is rest =
    rw is record {
      order = omega arith;
      within = omega arith;
      tight = λ plain. refl;
      rest = rw (empty_range source (place + 1)) rest;
    }

pub at_part : (source : List ℕ) (place : ℕ) (found new : List Piece) (scan next : Scan) → IsAt source place found scan → place < length source → cut_of scan.mode (get_or source place 0) ≡ Part
    → new ≡ found ++ part scan.line scan.mode scan.foreign (slice_range source scan.start scan.end) → next ≡ record { line = scan.line; mode = Front; foreign = false; start = place + 1; end = place + 1 } → IsAt source (place + 1) new next
at_part source place found new scan next at inside cut is fresh =
    let text : List ℕ = slice_range source scan.start scan.end in
    rw is (begun source place scan.line found (part scan.line scan.mode scan.foreign text) next fresh
    (append_assoc found (part scan.line scan.mode scan.foreign text) (pieces_from scan.line Front false [] (drop (place + 1) source))
    ∙ ap (λ (more : List Piece). found ++ more) (sym (at_byte source place scan.line scan.mode scan.foreign text Part inside cut)) ∙ at.rest))

pub at_label : (source : List ℕ) (place : ℕ) (found new : List Piece) (scan next : Scan) → IsAt source place found scan → place < length source → cut_of scan.mode (get_or source place 0) ≡ Label
    → new ≡ found ++ label_part scan.line (slice_range source scan.start scan.end) → next ≡ record { line = scan.line; mode = Front; foreign = false; start = place + 1; end = place + 1 } → IsAt source (place + 1) new next
at_label source place found new scan next at inside cut is fresh =
    let text : List ℕ = slice_range source scan.start scan.end in
    rw is (begun source place scan.line found (label_part scan.line text) next fresh
    (append_assoc found (label_part scan.line text) (pieces_from scan.line Front false [] (drop (place + 1) source))
    ∙ ap (λ (more : List Piece). found ++ more) (sym (at_byte source place scan.line scan.mode scan.foreign text Label inside cut)) ∙ at.rest))

pub at_line : (source : List ℕ) (place : ℕ) (found new : List Piece) (scan next : Scan) → IsAt source place found scan → place < length source → cut_of scan.mode (get_or source place 0) ≡ Line
    → new ≡ found ++ part scan.line scan.mode scan.foreign (slice_range source scan.start scan.end) → next ≡ record { line = next_line scan.line; mode = Front; foreign = false; start = place + 1; end = place + 1 } → IsAt source (place + 1) new next
at_line source place found new scan next at inside cut is fresh =
    let text : List ℕ = slice_range source scan.start scan.end in
    rw is (begun source place (next_line scan.line) found (part scan.line scan.mode scan.foreign text) next fresh
    (append_assoc found (part scan.line scan.mode scan.foreign text) (pieces_from (next_line scan.line) Front false [] (drop (place + 1) source))
    ∙ ap (λ (more : List Piece). found ++ more) (sym (at_byte source place scan.line scan.mode scan.foreign text Line inside cut)) ∙ at.rest))

-- the same with equal statements and scan
pub at_same : (source : List ℕ) (place : ℕ) (found new : List Piece) (scan next : Scan) → new ≡ found → next ≡ scan → IsAt source place found scan → IsAt source place new next
at_same source place found new scan next same_found same_scan at = rw (same_found, same_scan) at
