-- The least bad address of a range of addresses.
use Rattle.std.proofs.Common.{◌≡◌, ℕ, zero, suc, ◌+◌, ◌-◌, ◌/◌, ◌%◌, ◌^◌, ◌<◌, ◌≤◌, Bool, true, false, if◌then◌else◌, List, length, Option, Some, None, inl, inr, refl, sym, ap, ◌∙◌, arith}
use Rattle.std.proofs.lemmas.Bool.{cases_lt, cases_eq}
use Rattle.guest_pages.specs.declared.rights.Rights.{Rights}
use Rattle.guest_pages.specs.declared.fault.PageFault.{PageFault}
use Rattle.guest_pages.specs.declared.fault.PageFault.TheVariants.{NoAccess}
use Rattle.guest_pages.specs.declared.page.Page.{Page}
use Rattle.guest_pages.specs.declared.page.Table.{Table}
use Rattle.guest_pages.specs.declared.page.Page.TheVariants.{Absent, Bare, Held}
use Rattle.guest_pages.specs.Cells.{include}
use Rattle.guest_pages.specs.Faults.{fault_of, fault_or, first_fault}
use Rattle.guest_pages.specs.Ranges.{Range, cell_at}
use Rattle.guest_pages.specs.Tables.{fault_in, page_at, held, nothing}
use Rattle.guest_pages.proofs.TableFacts.{fault_here, page_past}

or_assoc : (a b c : Option PageFault) → fault_or (fault_or a b) c ≡ fault_or a (fault_or b c)
or_assoc None b c = refl
or_assoc (Some x) b c = refl

-- a range in two parts
pub fault_split : (needed : Rights) (memory : List Range) (at k n : ℕ) → first_fault needed memory at (k + n) ≡ fault_or (first_fault needed memory at k) (first_fault needed memory (at + k) n)
unfolding first_fault
fault_split needed memory at zero n =
    let p : at ≡ at + 0 = omega arith in
    let q : 0 + n ≡ n = omega arith in
    ap (first_fault needed memory at) q ∙ ap (λ (a : ℕ). first_fault needed memory a n) p
fault_split needed memory at (suc k) n =
    let p : at + 1 + k ≡ at + suc k = omega arith in
    let q : suc k + n ≡ suc (k + n) = omega arith in
    ap (first_fault needed memory at) q
    ∙ (ap (fault_or (fault_of needed at (cell_at memory at))) (fault_split needed memory (at + 1) k n ∙ ap (λ (a : ℕ). fault_or (first_fault needed memory (at + 1) k) (first_fault needed memory a n)) p)
    ∙ sym (or_assoc (fault_of needed at (cell_at memory at)) (first_fault needed memory (at + 1) k) (first_fault needed memory (at + suc k) n)))

-- no address is bad
pub fault_none : (needed : Rights) (memory : List Range) (at n : ℕ) → ((i : ℕ) → at ≤ i → i < at + n → fault_of needed i (cell_at memory i) ≡ None) → first_fault needed memory at n ≡ None
unfolding first_fault
fault_none needed memory at zero good = refl
fault_none needed memory at (suc n) good =
    rw (good at (omega arith) (omega arith)) (fault_none needed memory (at + 1) n (λ i low high. good i (omega arith) (omega arith)))

-- the first address is bad
pub fault_first : (needed : Rights) (memory : List Range) (at n : ℕ) (fault : PageFault) → 0 < n → fault_of needed at (cell_at memory at) ≡ Some fault → first_fault needed memory at n ≡ Some fault
unfolding first_fault
fault_first needed memory at zero fault some bad = absurd (omega arith)
fault_first needed memory at (suc n) fault some bad = rw bad refl

or_left : (a b : Option PageFault) → fault_or a b ≡ None → a ≡ None
or_left None b h = refl
or_left (Some x) b h = h

or_right : (a b : Option PageFault) → fault_or a b ≡ None → b ≡ None
or_right None b h = h
or_right (Some x) b h = cc

-- where none is bad, each is good
pub good_at : (needed : Rights) (memory : List Range) (at n i : ℕ) → first_fault needed memory at n ≡ None → at ≤ i → i < at + n → fault_of needed i (cell_at memory i) ≡ None
unfolding first_fault
good_at needed memory at zero i none low high = absurd (omega arith)
good_at needed memory at (suc n) i none low high =
    let first = or_left (fault_of needed at (cell_at memory at)) (first_fault needed memory (at + 1) n) none in
    let rest = or_right (fault_of needed at (cell_at memory at)) (first_fault needed memory (at + 1) n) none in
    elim (cases_eq i at) [
      | inl same ↦ rw same first
      | inr other ↦ good_at needed memory (at + 1) n i rest (omega arith) (omega arith)
    ]

-- where a range is good, so is the rest of it
pub good_rest : (needed : Rights) (memory : List Range) (at k n : ℕ) → first_fault needed memory at (k + n) ≡ None → first_fault needed memory (at + k) n ≡ None
good_rest needed memory at k n none =
    or_right (first_fault needed memory at k) (first_fault needed memory (at + k) n) (sym (fault_split needed memory at k n) ∙ none)

unless : Bool → ℕ → Option PageFault
unless ok a = if ok then None else Some (NoAccess a)

unless_moves : (ok : Bool) (a b : ℕ) → unless ok a ≡ None → unless ok b ≡ None
unfolding unless
unless_moves true a b h = refl
unless_moves false a b h = cc

fault_moves : (needed : Rights) (page : Page) (a b : ℕ) → fault_in needed page a ≡ None → fault_in needed page b ≡ None
unfolding unless
fault_moves needed Absent a b h = cc
fault_moves needed Bare a b h = unless_moves (include nothing needed) a b h
fault_moves needed (Held rights bytes) a b h = unless_moves (include rights needed) a b h

-- the page of an address is good, so are the addresses after it in the page
pub page_good : (needed : Rights) (tables : List Table) (at n : ℕ) → length tables ≤ 8192 → fault_in needed (page_at tables (at / 4096)) at ≡ None → at % 4096 + n ≤ 4096 → first_fault needed (held tables) at n ≡ None
page_good needed tables at n small good room =
    fault_none needed (held tables) at n (λ i low high.
    let p : i / 4096 ≡ at / 4096 = omega arith in
    fault_here needed tables i small
    ∙ (ap (λ (q : ℕ). fault_in needed (page_at tables q) i) p ∙ fault_moves needed (page_at tables (at / 4096)) at i good))

-- a good address is one of user memory
pub good_below : (needed : Rights) (tables : List Table) (at : ℕ) → length tables ≤ 8192 → fault_in needed (page_at tables (at / 4096)) at ≡ None → at < 2 ^ 38
good_below needed tables at small good =
    elim (cases_lt at (2 ^ 38)) [
      | inl below ↦ below
      | inr past ↦
          let e = page_past tables (at / 4096) (omega arith) in
          let f = ap (λ (p : Page). fault_in needed p at) e in
          cc
    ]

-- the page of an address is bad
pub page_bad : (needed : Rights) (tables : List Table) (at n : ℕ) (fault : PageFault) → length tables ≤ 8192 → 0 < n → fault_in needed (page_at tables (at / 4096)) at ≡ Some fault → first_fault needed (held tables) at n ≡ Some fault
page_bad needed tables at n fault small some bad =
    fault_first needed (held tables) at n fault some (fault_here needed tables at small ∙ bad)

-- on to the next page
pub page_next : (needed : Rights) (tables : List Table) (at left : ℕ) → length tables ≤ 8192 → fault_in needed (page_at tables (at / 4096)) at ≡ None → 4096 - at % 4096 ≤ left → first_fault needed (held tables) at left ≡ first_fault needed (held tables) (at + (4096 - at % 4096)) (left - (4096 - at % 4096))
page_next needed tables at left small good more =
    let room : ℕ = 4096 - at % 4096 in
    let p : left ≡ (4096 - at % 4096) + (left - (4096 - at % 4096)) = omega arith in
    ap (first_fault needed (held tables) at) p
    ∙ (fault_split needed (held tables) at (4096 - at % 4096) (left - (4096 - at % 4096))
    ∙ ap (λ (o : Option PageFault). fault_or o (first_fault needed (held tables) (at + (4096 - at % 4096)) (left - (4096 - at % 4096)))) (page_good needed tables at (4096 - at % 4096) small good (omega arith)))
