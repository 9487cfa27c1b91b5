-- Bytes that come into pages which were placed for them.
use Rattle.std.proofs.Common.{◌≡◌, ℕ, ◌+◌, ◌-◌, ◌^◌, ◌<◌, ◌≤◌, ◌&&◌, ◌||◌, not, Bool, true, false, cond, if◌then◌else◌, List, length, take, get_or, Option, Some, None, inl, inr, refl, sym, ap, ◌∙◌, arith, length-take}
use Rattle.std.proofs.lemmas.Bool.{cases_lt}
use Rattle.guest_pages.specs.declared.rights.Rights.{Rights}
use Rattle.guest_pages.specs.Apart.{IsApart, KeepsCode, Stays, code_in}
use Rattle.guest_pages.specs.Cells.{Cell, cell, has_none}
use Rattle.guest_pages.specs.Faults.{fault_of, first_fault}
use Rattle.guest_pages.specs.Finding.{touches_code}
use Rattle.guest_pages.specs.Operations.{placed, with_byte, written}
use Rattle.guest_pages.specs.Ranges.{Range, cell_at, within}
use Rattle.guest_pages.proofs.ApartFacts.{apart_written, placed_stays}
use Rattle.guest_pages.proofs.CellFacts.{byte_kept, choice_kept, ranges_kept, reads_below, reads_past}
use Rattle.guest_pages.proofs.FaultFacts.{fault_none}
use Rattle.guest_pages.proofs.Reading.{IsKept}
use Rattle.guest_pages.proofs.RightsFacts.{within_inside, within_outside}
use Rattle.guest_pages.proofs.TableFacts.{cell_kept}
use Rattle.host_calls.specs.Maps.{filled}

-- what stands in pages that were placed
pub placed_cell : (at size : ℕ) (rights : Rights) (memory : List Range) (a : ℕ) → at ≤ a → a < at + size → a < 2 ^ 38 → cell_at (placed at size rights memory) a ≡ Some (cell rights 0)
unfolding placed
placed_cell at size rights memory a from below user =
    reads_below (λ b. if within at size b then Some (cell rights 0) else cell_at memory b) a
    (λ b. choice_kept (within at size b) (Some (cell rights 0)) (cell_at memory b) (cell_kept rights 0) (ranges_kept memory b)) user
    ∙ ap (λ (w : Bool). if w then Some (cell rights 0) else cell_at memory a) (within_inside at size a from below)

includes_by : (r w x : Bool) → ((not r || r) && ((not w || w) && (not x || x))) ≡ true
includes_by true true true = refl
includes_by true true false = refl
includes_by true false true = refl
includes_by true false false = refl
includes_by false true true = refl
includes_by false true false = refl
includes_by false false true = refl
includes_by false false false = refl

own_rights : (rights : Rights) (a : ℕ) → fault_of rights a (Some (cell rights 0)) ≡ None
own_rights rights a = rw (includes_by rights.read rights.write rights.execute) refl

-- they have the rights with which they were placed
pub placed_good : (at size n : ℕ) (rights : Rights) (memory : List Range) → at + size ≤ 2 ^ 38 → n ≤ size → first_fault rights (placed at size rights memory) at n ≡ None
placed_good at size n rights memory inside few =
    fault_none rights (placed at size rights memory) at n (λ i from below.
    ap (fault_of rights i) (placed_cell at size rights memory i from (omega arith) (omega arith)) ∙ own_rights rights i)

pub stays_on : (first second third : List Range) → Stays first second → Stays second third → Stays first third
stays_on first second third one other = record { apart = other.apart; code = λ a. other.code a ∙ one.code a }

chosen_code : (w : Bool) (byte : ℕ) (o : Option Cell) → (w ≡ true → code_in (with_byte byte o) ≡ code_in o) → code_in (if w then with_byte byte o else o) ≡ code_in o
chosen_code true byte o same = same refl
chosen_code false byte o same = refl

no_code_by : (execute : Bool) (one other : Cell) → execute ≡ false → (if execute then Some one else None) ≡ (if execute then Some other else None)
no_code_by true one other is = cc
no_code_by false one other is = refl

plain_code : (rights : Rights) (byte : ℕ) (o : Option Cell) → rights.execute ≡ false → o ≡ Some (cell rights 0) → code_in (with_byte byte o) ≡ code_in o
plain_code rights byte o none is = rw is (no_code_by rights.execute (cell rights byte) (cell rights 0) none)

inside_by : (at n a : ℕ) (w : Bool) → within at n a ≡ w → w ≡ true → (at ≤ a) × (a < at + n)
inside_by at n a w is holds = elim (cases_lt a at) [
  | inl below ↦ absurd (never (sym (within_outside at n a (inl below)) ∙ (is ∙ holds)))
  | inr from ↦ elim (cases_lt a (at + n)) [
    | inl inside ↦ (from, inside)
    | inr past ↦ absurd (never (sym (within_outside at n a (inr past)) ∙ (is ∙ holds)))
  ]
]
  where
    never : false ≡ true → ⊥
    never wrong = cc

placed_past : (at size : ℕ) (rights : Rights) (memory : List Range) (a : ℕ) → 2 ^ 38 ≤ a → cell_at (placed at size rights memory) a ≡ None
unfolding placed
placed_past at size rights memory a past =
    reads_past (λ b. if within at size b then Some (cell rights 0) else cell_at memory b) a
    (λ b. choice_kept (within at size b) (Some (cell rights 0)) (cell_at memory b) (cell_kept rights 0) (ranges_kept memory b)) past

-- bytes that come into such pages leave the code
fill_leaves : (at size : ℕ) (rights : Rights) (bytes : List ℕ) (memory : List Range) → rights.execute ≡ false → length bytes ≤ size → KeepsCode (placed at size rights memory) (written at bytes (placed at size rights memory))
unfolding written
fill_leaves at size rights bytes memory plain few a =
    let pages : List Range = placed at size rights memory in
    let kept : (k : ℕ) → IsKept (if within at (length bytes) k then with_byte (get_or bytes (k - at) 0) (cell_at (placed at size rights memory) k) else cell_at (placed at size rights memory) k) =
    λ k. choice_kept (within at (length bytes) k) (with_byte (get_or bytes (k - at) 0) (cell_at (placed at size rights memory) k)) (cell_at (placed at size rights memory) k) (byte_kept (get_or bytes (k - at) 0) (cell_at (placed at size rights memory) k)) (ranges_kept (placed at size rights memory) k) in
    elim (cases_lt a (2 ^ 38)) [
      | inl below ↦
          ap code_in (reads_below _ a kept below)
          ∙ chosen_code (within at (length bytes) a) (get_or bytes (a - at) 0) (cell_at (placed at size rights memory) a)
          (λ yes. let there = inside_by at (length bytes) a (within at (length bytes) a) refl yes in
          plain_code rights (get_or bytes (a - at) 0) (cell_at (placed at size rights memory) a) plain (placed_cell at size rights memory a there.0 (omega (arith, there.1)) below))
      | inr past ↦ ap code_in (reads_past _ a kept past ∙ sym (placed_past at size rights memory a past))
    ]

filled_by : (none : Bool) (at size : ℕ) (rights : Rights) (bytes : List ℕ) (memory : List Range) → rights.execute ≡ false → Stays memory (placed at size rights memory) → Stays memory (cond none (placed at size rights memory) (written at (take size bytes) (placed at size rights memory)))
filled_by true at size rights bytes memory plain placed-stays = placed-stays
filled_by false at size rights bytes memory plain placed-stays =
    let few : length (take size bytes) ≤ size = simp length-take (omega arith) in
    stays_on memory (placed at size rights memory) _ placed-stays (record {
      apart = apart_written at (take size bytes) (placed at size rights memory) placed-stays.apart;
      code = fill_leaves at size rights (take size bytes) memory plain few;
    })

pub filled_stays : (at size : ℕ) (rights : Rights) (bytes : List ℕ) (memory : List Range) → rights.execute ≡ false → touches_code memory at size ≡ false → IsApart memory → Stays memory (filled at size bytes rights (placed at size rights memory))
filled_stays at size rights bytes memory plain none apart =
    filled_by (has_none rights) at size rights bytes memory plain (placed_stays at size rights memory plain none apart)
