-- What stands in the stack can be written, also after some of it was written.
use Rattle.std.proofs.Common.{◌≡◌, ℕ, zero, suc, ◌+◌, ◌-◌, ◌^◌, ◌<◌, ◌≤◌, Bool, true, false, if◌then◌else◌, nat_lt, List, [], ◌∷◌, length, get_or, Option, Some, None, refl, sym, ap, ◌∙◌, arith}
use Rattle.std.proofs.lemmas.Bool.Decides.{nat_tests}
use Rattle.guest_pages.specs.declared.rights.Rights.{Rights}
use Rattle.guest_pages.specs.Cells.{Cell, cell}
use Rattle.guest_pages.specs.Counting.{rights_of}
use Rattle.guest_pages.specs.Faults.{fault_of, first_fault, writable, changeable}
use Rattle.guest_pages.specs.Operations.{placed, written, with_byte}
use Rattle.guest_pages.specs.Ranges.{Range, within, cell_at, with_cell, ranges_from, ranges_of}
use Rattle.guest_pages.proofs.FaultFacts.{fault_none}
use Rattle.guest_pages.proofs.CellFacts.{byte_kept, choice_kept, ranges_kept, reads_below}
use Rattle.guest_pages.proofs.Reading.{IsKept, reads_back}
use Rattle.guest_pages.proofs.RightsFacts.{within_inside}
use Rattle.guest_pages.proofs.TableFacts.{cell_kept}
use Rattle.start_stack.specs.Contents.{IsInside}
use Rattle.start_stack.specs.Placing.{with_pages}
use Rattle.guest_pages.specs.Limits.{stack_length, stack_end}

-- what stands where zeros were placed
placed_cell : (start count : ℕ) (rights : Rights) (memory : List Range) (a : ℕ) → start ≤ a → a < start + count → a < 2 ^ 38 → cell_at (placed start count rights memory) a ≡ Some (cell rights 0)
unfolding placed
placed_cell start count rights memory a low high below =
    reads_below _ a (λ k. choice_kept (within start count k) (Some (cell rights 0)) (cell_at memory k) (cell_kept rights 0) (ranges_kept memory k)) below
    ∙ ap (λ (b : Bool). if b then Some (cell rights 0) else cell_at memory a) (within_inside start count a low high)

byte_rights : (byte : ℕ) (o : Option Cell) → rights_of (with_byte byte o) ≡ rights_of o
byte_rights byte None = refl
byte_rights byte (Some c) = refl

choice_rights : (b : Bool) (byte : ℕ) (o : Option Cell) → rights_of (if b then with_byte byte o else o) ≡ rights_of o
choice_rights true byte o = byte_rights byte o
choice_rights false byte o = refl

-- a write leaves the rights
pub written_rights : (start : ℕ) (bytes : List ℕ) (memory : List Range) (a : ℕ) → a < 2 ^ 38 → rights_of (cell_at (written start bytes memory) a) ≡ rights_of (cell_at memory a)
unfolding written
written_rights start bytes memory a below =
    ap rights_of (reads_below _ a (λ k. choice_kept (within start (length bytes) k) (with_byte (get_or bytes (k - start) 0) (cell_at memory k)) (cell_at memory k) (byte_kept (get_or bytes (k - start) 0) (cell_at memory k)) (ranges_kept memory k)) below)
    ∙ choice_rights (within start (length bytes) a) (get_or bytes (a - start) 0) (cell_at memory a)

-- an address with the stack's rights can be written
good_cell : (o : Option Cell) (a : ℕ) → rights_of o ≡ Some changeable → fault_of writable a o ≡ None
good_cell None a same = cc
good_cell (Some c) a same =
    let e : c.rights ≡ changeable = cc in
    rw e refl

pub stack_rights_at : (memory : List Range) (a : ℕ) → stack_end - stack_length ≤ a → a < stack_end → rights_of (cell_at (with_pages memory) a) ≡ Some changeable
stack_rights_at memory a low high =
    ap rights_of (placed_cell (stack_end - stack_length) stack_length changeable memory a low (omega arith) (omega arith))

-- bytes in the stack can be written
pub fresh_good : (memory : List Range) (at : ℕ) (bytes : List ℕ) → IsInside at bytes → first_fault writable (with_pages memory) at (length bytes) ≡ None
fresh_good memory at bytes inside =
    let low = inside.low in
    let high = inside.high in
    fault_none writable (with_pages memory) at (length bytes) (λ k from below.
    good_cell (cell_at (with_pages memory) k) k (stack_rights_at memory k (omega arith) (omega arith)))

-- also after others were written
pub written_good : (memory : List Range) (at place : ℕ) (bytes others : List ℕ) → IsInside at bytes → first_fault writable (written place others (with_pages memory)) at (length bytes) ≡ None
written_good memory at place bytes others inside =
    let low = inside.low in
    let high = inside.high in
    fault_none writable (written place others (with_pages memory)) at (length bytes) (λ k from below.
    good_cell (cell_at (written place others (with_pages memory)) k) k
    (written_rights place others (with_pages memory) k (omega arith) ∙ stack_rights_at memory k (omega arith) (omega arith)))
