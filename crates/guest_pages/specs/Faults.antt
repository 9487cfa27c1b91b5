-- Whether a range of addresses can be used: each must be mapped with the rights that are needed. Else the least bad
-- address is told.
-- Source: mmap(2), sigaction(2) (SEGV_MAPERR and SEGV_ACCERR); that the least address is told is the project's own.
use Rattle.std.specs.Prelude.{◌≡◌, ℕ, zero, suc, ◌+◌, true, false, if◌then◌else◌, List, Option, Some, None, Result, Ok, Err}
use Rattle.guest_pages.specs.declared.rights.Rights.{Rights}
use Rattle.guest_pages.specs.declared.fault.PageFault.{PageFault}
use Rattle.guest_pages.specs.declared.fault.PageFault.TheVariants.{NotMapped, NoAccess}
use Rattle.guest_pages.specs.Cells.{Cell, include}
use Rattle.guest_pages.specs.Ranges.{Range, cell_at}

abbrev pub readable : Rights
readable = record { read = true; write = false; execute = false }

abbrev pub writable : Rights
writable = record { read = false; write = true; execute = false }

abbrev pub executable : Rights
executable = record { read = false; write = false; execute = true }

-- to read and to write
abbrev pub changeable : Rights
changeable = record { read = true; write = true; execute = false }

-- to read and to execute
abbrev pub runnable : Rights
runnable = record { read = true; write = false; execute = true }

-- what is wrong with one address
abbrev pub fault_of : Rights → ℕ → Option Cell → Option PageFault
fault_of needed address None = Some (NotMapped address)
fault_of needed address (Some c) = if include c.rights needed then None else Some (NoAccess address)

abbrev pub fault_or : Option PageFault → Option PageFault → Option PageFault
fault_or (Some fault) rest = Some fault
fault_or None rest = rest

-- the first bad address of the count addresses from one on
unfoldable pub first_fault : Rights → List Range → ℕ → ℕ → Option PageFault
first_fault needed memory address zero = None
first_fault needed memory address (suc count) =
    fault_or (fault_of needed address (cell_at memory address)) (first_fault needed memory (address + 1) count)

-- the answer, unless there is a fault
abbrev pub answer_or : {X : Type 0} → Option PageFault → X → Result X PageFault
answer_or None answer = Ok answer
answer_or (Some fault) answer = Err fault

abbrev pub unmapped_or : ℕ → Option Cell → Option ℕ → Option ℕ
unmapped_or address None rest = Some address
unmapped_or address (Some c) rest = rest

-- the first address that is not mapped, of the count addresses from one on
unfoldable pub first_unmapped : List Range → ℕ → ℕ → Option ℕ
first_unmapped memory address zero = None
first_unmapped memory address (suc count) =
    unmapped_or address (cell_at memory address) (first_unmapped memory (address + 1) count)

-- what could be used can still be used
abbrev pub KeepsRights : List Range → List Range → Type 0
KeepsRights old new = (needed : Rights) (at n : ℕ) → first_fault needed old at n ≡ None → first_fault needed new at n ≡ None
