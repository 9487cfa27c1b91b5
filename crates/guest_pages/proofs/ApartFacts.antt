-- Memory in which nothing can be both written and executed stays so, and what can be executed stays as it is.
use Rattle.std.proofs.Common.{◌≡◌, ℕ, zero, suc, ◌+◌, ◌-◌, ◌^◌, ◌<◌, ◌≤◌, Bool, true, false, not, ◌&&◌, ◌||◌, if◌then◌else◌, List, ◌∷◌, length, get_or, Option, Some, None, inl, inr, refl, sym, ap, ◌∙◌, arith}
use Rattle.std.proofs.lemmas.Bool.{cases_lt}
use Rattle.guest_pages.specs.declared.rights.Rights.{Rights}
use Rattle.guest_pages.specs.declared.fault.PageFault.TheVariants.{NoAccess}
use Rattle.guest_pages.specs.Cells.{Cell, cell}
use Rattle.guest_pages.specs.Faults.{executable, fault_of, first_fault, writable}
use Rattle.guest_pages.specs.Operations.{bytes_at, byte_of, placed, protected, unmapped, with_byte, with_rights, written}
use Rattle.guest_pages.specs.Ranges.{Range, within, cell_at, ranges_of}
use Rattle.guest_pages.specs.Finding.{any_cell, is_code, touches_code}
use Rattle.guest_pages.proofs.FaultFacts.{fault_none, good_at}
use Rattle.guest_pages.proofs.Reading.{IsKept}
use Rattle.guest_pages.proofs.RightsFacts.{within_high, within_inside, within_low, within_outside}
use Rattle.guest_pages.proofs.TableFacts.{cell_kept}
use Rattle.guest_pages.proofs.CellFacts.{byte_kept, choice_kept, ranges_kept, reads_below, reads_past}
use Rattle.guest_pages.specs.Apart.{code_in, is_apart, IsApart, KeepsCode, Stays}

-- ---- memory that is made from cells

pub choice_apart : (b : Bool) (x y : Option Cell) → is_apart x ≡ true → is_apart y ≡ true → is_apart (if b then x else y) ≡ true
choice_apart true x y first second = first
choice_apart false x y first second = second

pub apart_of : (f : ℕ → Option Cell) → ((a : ℕ) → IsKept (f a)) → ((a : ℕ) → is_apart (f a) ≡ true) → IsApart (ranges_of f)
apart_of f kept apart = record {
  low = λ a past. reads_past f a kept past;
  apart = λ a. elim (cases_lt a (2 ^ 38)) [
    | inl below ↦ rw (reads_below f a kept below) (apart a)
    | inr past ↦ rw (reads_past f a kept past) refl
  ];
}

pub apart_placed : (start count : ℕ) (rights : Rights) (memory : List Range) → not (rights.write && rights.execute) ≡ true → IsApart memory → IsApart (placed start count rights memory)
unfolding placed
apart_placed start count rights memory way is =
    apart_of (λ a. if within start count a then Some (cell rights 0) else cell_at memory a)
    (λ a. choice_kept (within start count a) (Some (cell rights 0)) (cell_at memory a) (cell_kept rights 0) (ranges_kept memory a))
    (λ a. choice_apart (within start count a) (Some (cell rights 0)) (cell_at memory a) way (is.apart a))

rights_kept : (rights : Rights) (o : Option Cell) → IsKept (with_rights rights o)
rights_kept rights None = tt
rights_kept rights (Some c) = cell_kept rights c.byte

rights_apart : (rights : Rights) (o : Option Cell) → not (rights.write && rights.execute) ≡ true → is_apart (with_rights rights o) ≡ true
rights_apart rights None way = refl
rights_apart rights (Some c) way = way

pub apart_protected : (start count : ℕ) (rights : Rights) (memory : List Range) → not (rights.write && rights.execute) ≡ true → IsApart memory → IsApart (protected start count rights memory)
unfolding protected
apart_protected start count rights memory way is =
    apart_of (λ a. if within start count a then with_rights rights (cell_at memory a) else cell_at memory a)
    (λ a. choice_kept (within start count a) (with_rights rights (cell_at memory a)) (cell_at memory a) (rights_kept rights (cell_at memory a)) (ranges_kept memory a))
    (λ a. choice_apart (within start count a) (with_rights rights (cell_at memory a)) (cell_at memory a) (rights_apart rights (cell_at memory a) way) (is.apart a))

byte_apart : (byte : ℕ) (o : Option Cell) → is_apart o ≡ true → is_apart (with_byte byte o) ≡ true
byte_apart byte None apart = refl
byte_apart byte (Some c) apart = apart

pub apart_written : (start : ℕ) (bytes : List ℕ) (memory : List Range) → IsApart memory → IsApart (written start bytes memory)
unfolding written
apart_written start bytes memory is =
    apart_of (λ a. if within start (length bytes) a then with_byte (get_or bytes (a - start) 0) (cell_at memory a) else cell_at memory a)
    (λ a. choice_kept (within start (length bytes) a) (with_byte (get_or bytes (a - start) 0) (cell_at memory a)) (cell_at memory a) (byte_kept (get_or bytes (a - start) 0) (cell_at memory a)) (ranges_kept memory a))
    (λ a. choice_apart (within start (length bytes) a) (with_byte (get_or bytes (a - start) 0) (cell_at memory a)) (cell_at memory a) (byte_apart (get_or bytes (a - start) 0) (cell_at memory a) (is.apart a)) (is.apart a))

-- ---- a write leaves what can be executed

writes_by : (write execute : Bool) (address byte : ℕ) (c : Cell) → not (write && execute) ≡ true → (if write && true then None else Some (NoAccess address)) ≡ None → (if execute then Some (cell c.rights byte) else None) ≡ (if execute then Some c else None)
writes_by true true address byte c apart writes = cc
writes_by true false address byte c apart writes = refl
writes_by false execute address byte c apart writes = cc

-- what is written is no code
write_leaves : (address byte : ℕ) (o : Option Cell) → is_apart o ≡ true → fault_of writable address o ≡ None → code_in (with_byte byte o) ≡ code_in o
write_leaves address byte None apart writes = refl
write_leaves address byte (Some c) apart writes = writes_by c.rights.write c.rights.execute address byte c apart writes

leaves_by : (at n a byte : ℕ) (memory : List Range) → IsApart memory → first_fault writable memory at n ≡ None → code_in (if within at n a then with_byte byte (cell_at memory a) else cell_at memory a) ≡ code_in (cell_at memory a)
leaves_by at n a byte memory is good = elim (cases_lt a at) [
  | inl below ↦ rw (within_outside at n a (inl below)) refl
  | inr from ↦ elim (cases_lt a (at + n)) [
    | inl inside ↦ rw (within_inside at n a from inside) (write_leaves a byte (cell_at memory a) (is.apart a) (good_at writable memory at n a good from inside))
    | inr past ↦ rw (within_outside at n a (inr past)) refl
  ]
]

pub code_written : (at : ℕ) (bytes : List ℕ) (memory : List Range) → IsApart memory → first_fault writable memory at (length bytes) ≡ None → KeepsCode memory (written at bytes memory)
unfolding written
code_written at bytes memory is good a =
    let f : ℕ → Option Cell = λ k. if within at (length bytes) k then with_byte (get_or bytes (k - at) 0) (cell_at memory k) else cell_at memory k in
    let kept : (k : ℕ) → IsKept (if within at (length bytes) k then with_byte (get_or bytes (k - at) 0) (cell_at memory k) else cell_at memory k) = λ k. choice_kept (within at (length bytes) k) (with_byte (get_or bytes (k - at) 0) (cell_at memory k)) (cell_at memory k) (byte_kept (get_or bytes (k - at) 0) (cell_at memory k)) (ranges_kept memory k) in
    elim (cases_lt a (2 ^ 38)) [
      | inl below ↦ ap code_in (reads_below _ a kept below) ∙ leaves_by at (length bytes) a (get_or bytes (a - at) 0) memory is good
      | inr past ↦ ap code_in (reads_past _ a kept past ∙ sym (is.low a past))
    ]

-- ---- what is read of code

found_by : (execute : Bool) (c d : Cell) → (if execute then Some d else None) ≡ Some c → Some d ≡ Some c
found_by true c d same = same
found_by false c d same = cc

cell_by : (execute : Bool) (address : ℕ) (c : Cell) (new : Option Cell) → code_in new ≡ (if execute then Some c else None) → (if execute then None else Some (NoAccess address)) ≡ None → new ≡ Some c
cell_by true address c None same runs = cc
cell_by true address c (Some d) same runs = found_by d.rights.execute c d same
cell_by false address c new same runs = cc

-- an address that can be executed holds what it held
same_cell : (address : ℕ) (old new : Option Cell) → code_in new ≡ code_in old → fault_of executable address old ≡ None → new ≡ old
same_cell address None new same runs = cc
same_cell address (Some c) new same runs = cell_by c.rights.execute address c new same runs

still : (old new : List Range) (at n i : ℕ) → KeepsCode old new → first_fault executable old at n ≡ None → at ≤ i → i < at + n → cell_at new i ≡ cell_at old i
still old new at n i keeps none low high = same_cell i (cell_at old i) (cell_at new i) (keeps i) (good_at executable old at n i none low high)

pub fault_stays : (old new : List Range) (at n : ℕ) → KeepsCode old new → first_fault executable old at n ≡ None → first_fault executable new at n ≡ None
fault_stays old new at n keeps none =
    fault_none executable new at n (λ i low high. rw (still old new at n i keeps none low high) (good_at executable old at n i none low high))

same_bytes : (old new : List Range) (at n : ℕ) → ((i : ℕ) → at ≤ i → i < at + n → cell_at new i ≡ cell_at old i) → bytes_at new at n ≡ bytes_at old at n
unfolding bytes_at
same_bytes old new at zero same = refl
same_bytes old new at (suc n) same =
    rw (same at (omega arith) (omega arith)) (ap (λ (rest : List ℕ). byte_of (cell_at old at) ∷ rest) (same_bytes old new (at + 1) n (λ i low high. same i (omega arith) (omega arith))))

pub bytes_stay : (old new : List Range) (at n : ℕ) → KeepsCode old new → first_fault executable old at n ≡ None → bytes_at new at n ≡ bytes_at old at n
bytes_stay old new at n keeps none = same_bytes old new at n (λ i low high. still old new at n i keeps none low high)

-- ---- both

pub same_stays : (old new : List Range) → IsApart old → new ≡ old → Stays old new
same_stays old new is same = rw same (record { apart = is; code = λ a. refl })

pub written_stays : (at : ℕ) (bytes : List ℕ) (memory : List Range) → IsApart memory → first_fault writable memory at (length bytes) ≡ None → Stays memory (written at bytes memory)
written_stays at bytes memory is good = record { apart = apart_written at bytes memory is; code = code_written at bytes memory is good }

-- ---- memory whose pages change where there is no code

not_code : (o : Option Cell) → is_code o ≡ false → code_in o ≡ None
not_code None no_code = refl
not_code (Some c) no_code = rw no_code refl

first_of_two : (one other : Bool) → (one || other) ≡ false → (one ≡ false) × (other ≡ false)
first_of_two false other none = (refl, none)
first_of_two true other none = cc

no_code_at : (memory : List Range) (at n a : ℕ) → touches_code memory at n ≡ false → at ≤ a → a < at + n → is_code (cell_at memory a) ≡ false
unfolding any_cell
no_code_at memory at zero a none low high = absurd (omega (arith, low, high))
no_code_at memory at (suc n) a none low high =
    let both = first_of_two (is_code (cell_at memory at)) (any_cell is_code memory (at + 1) n) none in
    elim (cases_lt at a) [
      | inl later ↦ no_code_at memory (at + 1) n a both.1 (omega (arith, later)) (omega (arith, high))
      | inr here ↦ let same : a ≡ at = omega (arith, low, here) in rw same both.0
    ]

-- what stands in the range is no code before and after, and what stands elsewhere is as before
pub changed_stays : (f : ℕ → Option Cell) (at n : ℕ) (memory : List Range) → ((a : ℕ) → IsKept (f a)) → ((a : ℕ) → is_apart (f a) ≡ true) → ((a : ℕ) → within at n a ≡ true → code_in (f a) ≡ None) → ((a : ℕ) → within at n a ≡ false → f a ≡ cell_at memory a) → touches_code memory at n ≡ false → IsApart memory → Stays memory (ranges_of f)
changed_stays f at n memory kept apart inside outside none is = record {
  apart = apart_of f kept apart;
  code = λ a. elim (cases_lt a (2 ^ 38)) [
    | inl below ↦ ap code_in (reads_below f a kept below) ∙ code_by (within at n a) a refl
    | inr past ↦ ap code_in (reads_past f a kept past ∙ sym (is.low a past))
  ];
}
  where
    code_by : (here : Bool) (a : ℕ) → within at n a ≡ here → code_in (f a) ≡ code_in (cell_at memory a)
    code_by true a here = inside a here ∙ sym (not_code (cell_at memory a) (no_code_at memory at n a none (within_low at n a here) (within_high at n a here)))
    code_by false a here = ap code_in (outside a here)

no_code_cell : (rights : Rights) → rights.execute ≡ false → code_in (Some (cell rights 0)) ≡ None
no_code_cell rights none = rw none refl

no_code_changed : (rights : Rights) (o : Option Cell) → rights.execute ≡ false → code_in (with_rights rights o) ≡ None
no_code_changed rights None none = refl
no_code_changed rights (Some c) none = rw none refl

not_both : (rights : Rights) → rights.execute ≡ false → not (rights.write && rights.execute) ≡ true
not_both rights none = by_write rights.write rights.execute none
  where
    by_write : (write execute : Bool) → execute ≡ false → not (write && execute) ≡ true
    by_write true false none = refl
    by_write false false none = refl
    by_write write true none = cc

pub placed_stays : (at n : ℕ) (rights : Rights) (memory : List Range) → rights.execute ≡ false → touches_code memory at n ≡ false → IsApart memory → Stays memory (placed at n rights memory)
unfolding placed
placed_stays at n rights memory plain none is =
    changed_stays (λ a. if within at n a then Some (cell rights 0) else cell_at memory a) at n memory
    (λ a. choice_kept (within at n a) (Some (cell rights 0)) (cell_at memory a) (cell_kept rights 0) (ranges_kept memory a))
    (λ a. choice_apart (within at n a) (Some (cell rights 0)) (cell_at memory a) (not_both rights plain) (is.apart a))
    (λ a here. rw here (no_code_cell rights plain))
    (λ a here. rw here refl) none is

pub unmapped_stays : (at n : ℕ) (memory : List Range) → touches_code memory at n ≡ false → IsApart memory → Stays memory (unmapped at n memory)
unfolding unmapped
unmapped_stays at n memory none is =
    changed_stays (λ a. if within at n a then None else cell_at memory a) at n memory
    (λ a. choice_kept (within at n a) None (cell_at memory a) tt (ranges_kept memory a))
    (λ a. choice_apart (within at n a) None (cell_at memory a) refl (is.apart a))
    (λ a here. rw here refl)
    (λ a here. rw here refl) none is

pub protected_stays : (at n : ℕ) (rights : Rights) (memory : List Range) → rights.execute ≡ false → touches_code memory at n ≡ false → IsApart memory → Stays memory (protected at n rights memory)
unfolding protected
protected_stays at n rights memory plain none is =
    changed_stays (λ a. if within at n a then with_rights rights (cell_at memory a) else cell_at memory a) at n memory
    (λ a. choice_kept (within at n a) (with_rights rights (cell_at memory a)) (cell_at memory a) (rights_kept rights (cell_at memory a)) (ranges_kept memory a))
    (λ a. choice_apart (within at n a) (with_rights rights (cell_at memory a)) (cell_at memory a) (rights_apart rights (cell_at memory a) (not_both rights plain)) (is.apart a))
    (λ a here. rw here (no_code_changed rights (cell_at memory a) plain))
    (λ a here. rw here refl) none is
