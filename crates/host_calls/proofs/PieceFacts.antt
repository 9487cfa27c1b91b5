-- Pieces of memory: what is good of them, and what bytes that go into them leave.
use Rattle.std.proofs.Common.{◌≡◌, ℕ, ◌+◌, ◌-◌, ◌^◌, ◌<◌, ◌≤◌, ◌||◌, min, Bool, true, false, if◌then◌else◌, List, [], ◌∷◌, ◌++◌, length, take, drop, get_or, Option, Some, None, is_some, inl, inr, refl, sym, ap, ◌∙◌, arith, length-take, length-drop, length-append}
use Rattle.std.proofs.lemmas.Bool.{cases_lt}
use Rattle.std.proofs.lemmas.List.{drop-drop, drop_all, drop_more, take_min}
use Rattle.std.proofs.lemmas.List.Sums.{sum_by-drop_more}
use Rattle.guest_pages.specs.declared.fault.PageFault.{PageFault}
use Rattle.guest_pages.specs.declared.rights.Rights.{Rights}
use Rattle.guest_pages.specs.Apart.{IsApart, Stays}
use Rattle.guest_pages.specs.Cells.{Cell}
use Rattle.guest_pages.specs.Faults.{KeepsRights, fault_of, first_fault, writable}
use Rattle.guest_pages.specs.Operations.{bytes_at, with_byte, written}
use Rattle.guest_pages.specs.Ranges.{Range, cell_at, within}
use Rattle.guest_pages.proofs.ApartFacts.{same_stays, written_stays}
use Rattle.guest_pages.proofs.CellFacts.{byte_kept, choice_kept, ranges_kept, reads_below}
use Rattle.guest_pages.proofs.FaultFacts.{fault_none, good_at}
use Rattle.word_memory.specs.declared.reservations.Held.{Held}
use Rattle.host_calls.specs.declared.pieces.Piece.{Piece}
use Rattle.host_calls.specs.Pieces.{Stored, any_bad, gathered, put_in, scattered, total}
use Rattle.host_calls.proofs.FillFacts.{stays_on}
use Rattle.host_calls.proofs.Shapes.{AllEased, eased_same, eased_store}

pub no_fault : (o : Option PageFault) → is_some o ≡ false → o ≡ None
no_fault None none = refl
no_fault (Some bad) none = cc

pub first_of_two : (one other : Bool) → (one || other) ≡ false → (one ≡ false) × (other ≡ false)
first_of_two true other none = cc
first_of_two false other none = (refl, none)

-- the first piece is good, and so are the others
pub first_good : (needed : Rights) (memory : List Range) (first : Piece) (pieces : List Piece) → any_bad needed memory (first ∷ pieces) ≡ false → (first_fault needed memory first.at first.size ≡ None) × (any_bad needed memory pieces ≡ false)
first_good needed memory first pieces none =
    let both = first_of_two (is_some (first_fault needed memory first.at first.size)) (any_bad needed memory pieces) none in
    (no_fault _ both.0, both.1)

-- a part of a good range is good
pub part_good : (needed : Rights) (memory : List Range) (at n size : ℕ) → first_fault needed memory at size ≡ None → n ≤ size → first_fault needed memory at n ≡ None
part_good needed memory at n size good few =
    fault_none needed memory at n (λ i low high. good_at needed memory at size i good low (omega arith))

some_false : (o : Option PageFault) → o ≡ None → is_some o ≡ false
some_false o none = ap is_some none

-- pieces stay good where all that could be used can be used
pub good_on : (needed : Rights) (old new : List Range) (pieces : List Piece) → KeepsRights old new → any_bad needed old pieces ≡ false → any_bad needed new pieces ≡ false
good_on needed old new [] keeps none = refl
good_on needed old new (first ∷ pieces) keeps none =
    let both = first_good needed old first pieces none in
    rw (some_false _ (keeps needed first.at first.size both.0)) (good_on needed old new pieces keeps both.1)

fault_byte : (needed : Rights) (a byte : ℕ) (o : Option Cell) → fault_of needed a o ≡ None → fault_of needed a (with_byte byte o) ≡ None
fault_byte needed a byte None good = good
fault_byte needed a byte (Some c) good = good

fault_choice : (needed : Rights) (b : Bool) (a byte : ℕ) (o : Option Cell) → fault_of needed a o ≡ None → fault_of needed a (if b then with_byte byte o else o) ≡ None
fault_choice needed true a byte o good = fault_byte needed a byte o good
fault_choice needed false a byte o good = good

none_bad : (needed : Rights) (a : ℕ) (o : Option Cell) → o ≡ None → fault_of needed a o ≡ None → ⊥
none_bad needed a None is good = cc
none_bad needed a (Some c) is good = cc

-- a write leaves what can be used
rights_stay : (at : ℕ) (bytes : List ℕ) (memory : List Range) → IsApart memory → KeepsRights memory (written at bytes memory)
unfolding written
rights_stay at bytes memory apart needed from n good = fault_none needed (written at bytes memory) from n (λ i low high.
    let here : fault_of needed i (cell_at memory i) ≡ None = good_at needed memory from n i good low high in
    elim (cases_lt i (2 ^ 38)) [
      | inl below ↦
          ap (fault_of needed i) (reads_below (λ k. if within at (length bytes) k then with_byte (get_or bytes (k - at) 0) (cell_at memory k) else cell_at memory k) i
          (λ k. choice_kept (within at (length bytes) k) (with_byte (get_or bytes (k - at) 0) (cell_at memory k)) (cell_at memory k) (byte_kept (get_or bytes (k - at) 0) (cell_at memory k)) (ranges_kept memory k)) below)
          ∙ fault_choice needed (within at (length bytes) i) i (get_or bytes (i - at) 0) (cell_at memory i) here
      | inr past ↦ absurd (none_bad needed i (cell_at memory i) (apart.low i past) here)
    ])

-- bytes that go into good pieces leave the code
pub scattered_stays : (thread : ℕ) (pieces : List Piece) (bytes : List ℕ) (stored : Stored) → any_bad writable stored.memory pieces ≡ false → IsApart stored.memory → Stays stored.memory (scattered thread pieces bytes stored).memory
unfolding scattered
scattered_stays thread [] bytes stored none apart = same_stays stored.memory stored.memory apart refl
scattered_stays thread (first ∷ pieces) bytes stored none apart =
    let both = first_good writable stored.memory first pieces none in
    let few : length (take first.size bytes) ≤ first.size = simp length-take (omega arith) in
    let one = written_stays first.at (take first.size bytes) stored.memory apart (part_good writable stored.memory first.at (length (take first.size bytes)) first.size both.0 few) in
    let next : Stored = put_in thread first.at (take first.size bytes) stored in
    stays_on stored.memory (put_in thread first.at (take first.size bytes) stored).memory _ one
    (scattered_stays thread pieces (drop first.size bytes) (put_in thread first.at (take first.size bytes) stored)
    (good_on writable stored.memory (put_in thread first.at (take first.size bytes) stored).memory pieces (rights_stay first.at (take first.size bytes) stored.memory apart) both.1) one.apart)

eased_scattered : (thread : ℕ) (pieces : List Piece) (bytes : List ℕ) (olds : List Held) (stored : Stored) → AllEased olds stored.held → AllEased olds (scattered thread pieces bytes stored).held
unfolding scattered
eased_scattered thread [] bytes olds stored eased = eased
eased_scattered thread (first ∷ pieces) bytes olds stored eased =
    eased_scattered thread pieces (drop first.size bytes) olds (put_in thread first.at (take first.size bytes) stored)
    (eased_store thread first.at (length (take first.size bytes)) olds stored.held eased)

-- and end reservations alone
pub scattered_eased : (thread : ℕ) (pieces : List Piece) (bytes : List ℕ) (stored : Stored) → AllEased stored.held (scattered thread pieces bytes stored).held
scattered_eased thread pieces bytes stored = eased_scattered thread pieces bytes stored.held stored (eased_same stored.held)

-- ---- one piece more

abbrev pub no_piece : Piece
no_piece = record { at = 0; size = 0 }

take_few : (n done : ℕ) (bytes : List ℕ) → take (min n (length bytes - done)) (drop done bytes) ≡ take n (drop done bytes)
take_few n done bytes =
    let room : length (drop done bytes) ≡ length bytes - done = simp length-drop refl in
    ap (λ (k : ℕ). take (min n k) (drop done bytes)) (sym room) ∙ take_min n (drop done bytes)

drop_few : (n done : ℕ) (bytes : List ℕ) → done ≤ length bytes → drop n (drop done bytes) ≡ drop (done + min n (length bytes - done)) bytes
drop_few n done bytes within = elim (cases_lt n (length bytes - done)) [
  | inl few ↦
      let e : done + n ≡ done + min n (length bytes - done) = omega arith in
      drop-drop n done bytes ∙ ap (λ (k : ℕ). drop k bytes) e
  | inr many ↦
      let e : length bytes ≤ done + min n (length bytes - done) = omega arith in
      let f : length (drop done bytes) ≤ n = simp length-drop (omega arith) in
      drop_all n (drop done bytes) f ∙ sym (drop_all (done + min n (length bytes - done)) bytes e)
]

pub scatter_step : (thread : ℕ) (pieces : List Piece) (k : ℕ) (bytes : List ℕ) (done size : ℕ) (stored : Stored) → k < length pieces → done ≤ length bytes → size ≡ min (get_or pieces k no_piece).size (length bytes - done) → scattered thread (drop (k + 1) pieces) (drop (done + size) bytes) (put_in thread (get_or pieces k no_piece).at (take size (drop done bytes)) stored) ≡ scattered thread (drop k pieces) (drop done bytes) stored
unfolding scattered
scatter_step thread pieces k bytes done size stored low within is =
    let first : Piece = get_or pieces k no_piece in
    let cut-is : take size (drop done bytes) ≡ take (get_or pieces k no_piece).size (drop done bytes) = ap (λ (n : ℕ). take n (drop done bytes)) is ∙ take_few (get_or pieces k no_piece).size done bytes in
    let rest-is : drop (done + size) bytes ≡ drop (get_or pieces k no_piece).size (drop done bytes) = ap (λ (n : ℕ). drop (done + n) bytes) is ∙ sym (drop_few (get_or pieces k no_piece).size done bytes within) in
    rw (cut-is, rest-is, drop_more pieces k no_piece low) refl

pub scatter_end : (thread : ℕ) (pieces : List Piece) (k : ℕ) (bytes : List ℕ) (stored : Stored) → length pieces ≤ k → scattered thread (drop k pieces) bytes stored ≡ stored
unfolding scattered
scatter_end thread pieces k bytes stored high = rw (drop_all k pieces high) refl

pub good_first : (needed : Rights) (memory : List Range) (pieces : List Piece) (k : ℕ) → k < length pieces → any_bad needed memory (drop k pieces) ≡ false → (first_fault needed memory (get_or pieces k no_piece).at (get_or pieces k no_piece).size ≡ None) × (any_bad needed memory (drop (k + 1) pieces) ≡ false)
good_first needed memory pieces k low none =
    first_good needed memory (get_or pieces k no_piece) (drop (k + 1) pieces) (sym (ap (any_bad needed memory) (drop_more pieces k no_piece low)) ∙ none)

pub gather_step : (memory : List Range) (pieces : List Piece) (k : ℕ) → k < length pieces → gathered memory (drop k pieces) ≡ bytes_at memory (get_or pieces k no_piece).at (get_or pieces k no_piece).size ++ gathered memory (drop (k + 1) pieces)
unfolding gathered
gather_step memory pieces k low = rw (drop_more pieces k no_piece low) refl

pub gather_end : (memory : List Range) (pieces : List Piece) (k : ℕ) → length pieces ≤ k → gathered memory (drop k pieces) ≡ []
unfolding gathered
gather_end memory pieces k high = rw (drop_all k pieces high) refl

pub total_step : (pieces : List Piece) (k : ℕ) → k < length pieces → total (drop k pieces) ≡ (get_or pieces k no_piece).size + total (drop (k + 1) pieces)
total_step pieces k low = sum_by-drop_more (λ (piece : Piece). piece.size) pieces k no_piece low

pub long_by : (new old more : List ℕ) (n : ℕ) → new ≡ old ++ more → length more ≡ n → length new ≡ length old + n
long_by new old more n is size = ap length is ∙ simp length-append (omega (arith, size))

pub total_more : (first : Piece) (pieces : List Piece) → total (first ∷ pieces) ≡ first.size + total pieces
total_more first pieces = let low : 0 < length (first ∷ pieces) = omega arith in total_step (first ∷ pieces) 0 low
