-- Where both rights are there, each is.
use Rattle.std.proofs.Common.{◌≡◌, ℕ, zero, suc, ◌+◌, Bool, true, false, cond, List, Option, Some, None, refl, arith}
use Rattle.std.proofs.lemmas.Grind.{common_steps}
use Rattle.guest_pages.specs.declared.rights.Rights.{Rights}
use Rattle.guest_pages.specs.declared.fault.PageFault.{PageFault}
use Rattle.guest_pages.specs.declared.fault.PageFault.TheVariants.{NoAccess}
use Rattle.guest_pages.specs.Cells.{Cell, include}
use Rattle.guest_pages.specs.Faults.{first_fault, fault_of, fault_or, readable, writable, changeable}
use Rattle.guest_pages.specs.Ranges.{Range, cell_at}

-- the other rights are among those that are needed
abbrev Weaker : Rights → Rights → Type 0
Weaker needed other = (rights : Rights) → include rights needed ≡ true → include rights other ≡ true

by_test : (test : Bool) (needed other : Rights) → Weaker needed other → (c : Cell) (address : ℕ) (rest left : Option PageFault) → include c.rights needed ≡ test → (rest ≡ None → left ≡ None) → fault_or (cond test None (Some (NoAccess address))) rest ≡ None → fault_or (fault_of other address (Some c)) left ≡ None
by_test true needed other weaker c address rest left e more none = rw (weaker c.rights e) (more none)
by_test false needed other weaker c address rest left e more none = cc

by_cell : (needed other : Rights) → Weaker needed other → (c : Option Cell) (address : ℕ) (rest left : Option PageFault) → (rest ≡ None → left ≡ None) → fault_or (fault_of needed address c) rest ≡ None → fault_or (fault_of other address c) left ≡ None
by_cell needed other weaker None address rest left more none = cc
by_cell needed other weaker (Some c) address rest left more none = by_test (include c.rights needed) needed other weaker c address rest left refl more none

weaker_fault : (needed other : Rights) → Weaker needed other → (memory : List Range) (at count : ℕ) → first_fault needed memory at count ≡ None → first_fault other memory at count ≡ None
unfolding first_fault
weaker_fault needed other weaker memory at zero none = refl
weaker_fault needed other weaker memory at (suc count) none = by_cell needed other weaker (cell_at memory at) at (first_fault needed memory (at + 1) count) (first_fault other memory (at + 1) count) (weaker_fault needed other weaker memory (at + 1) count) none

changeable_reads : Weaker changeable readable
changeable_reads rights holds = grind (arith, common_steps)

changeable_writes : Weaker changeable writable
changeable_writes rights holds = grind (arith, common_steps)

pub readable_too : (memory : List Range) (at count : ℕ) → first_fault changeable memory at count ≡ None → first_fault readable memory at count ≡ None
readable_too memory at count none = weaker_fault changeable readable changeable_reads memory at count none

pub writable_too : (memory : List Range) (at count : ℕ) → first_fault changeable memory at count ≡ None → first_fault writable memory at count ≡ None
writable_too memory at count none = weaker_fault changeable writable changeable_writes memory at count none
