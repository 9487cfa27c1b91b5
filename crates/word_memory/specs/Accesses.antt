-- The atomic accesses of a thread to memory, and what they leave of the reservations. A misaligned address is refused
-- first, then one that isn't mapped or lacks a right; a refusal leaves all as it was.
-- Source: the RISC-V unprivileged manual, "A" Standard Extension for Atomic Instructions.
use Rattle.std.specs.Prelude.{ℕ, ◌%◌, ◌==◌, Bool, true, false, if◌then◌else◌, List, Option, Some, None, Result, Ok, Err}
use Rattle.byteorder.specs.Endian.{little_number, little_bytes}
use Rattle.guest_pages.specs.declared.fault.PageFault.{PageFault}
use Rattle.guest_pages.specs.declared.rights.Rights.{Rights}
use Rattle.guest_pages.specs.Faults.{first_fault}
use Rattle.guest_pages.specs.Operations.{bytes_at, written}
use Rattle.guest_pages.specs.Ranges.{Range}
use Rattle.isa_decode.specs.declared.instruction.AmoOp.{AmoOp}
use Rattle.word_memory.specs.declared.fault.WordFault.{WordFault}
use Rattle.word_memory.specs.declared.fault.WordFault.TheVariants.{Misaligned, Page}
use Rattle.word_memory.specs.declared.reservations.Held.{Held}
use Rattle.word_memory.specs.Atomics.{combined, cut, size_of}
use Rattle.word_memory.specs.Reservations.{reserving, stands, stored_to}

abbrev pub page_fault : Option PageFault → Option WordFault
page_fault None = None
page_fault (Some fault) = Some (Page fault)

-- what is wrong with an access
unfoldable pub word_fault : Rights → List Range → Bool → ℕ → Option WordFault
word_fault needed memory wide at =
    if at % size_of wide == 0 then page_fault (first_fault needed memory at (size_of wide)) else Some (Misaligned at)

abbrev pub word_or : {X : Type 0} → Option WordFault → X → Result X WordFault
word_or None answer = Ok answer
word_or (Some fault) answer = Err fault

-- the word or doubleword at an address
unfoldable pub word_at : List Range → Bool → ℕ → ℕ
word_at memory wide at = cut wide (little_number (size_of wide) (bytes_at memory at (size_of wide)))

unfoldable pub with_word : ℕ → Bool → ℕ → List Range → List Range
with_word at wide value memory = written at (little_bytes (size_of wide) value) memory

-- what an atomic operation leaves in memory
abbrev pub combined_at : AmoOp → Bool → ℕ → ℕ → List Range → List Range
combined_at op wide at value memory =
    with_word at wide (combined op wide (word_at memory wide at) (cut wide value)) memory

-- a conditional store writes where the reservation stands, and ends it in both cases
abbrev pub conditional_at : Bool → Bool → ℕ → ℕ → List Range → List Range
conditional_at stands wide at value memory = if stands then with_word at wide value memory else memory

abbrev pub after_conditional : Bool → ℕ → Bool → ℕ → List Held → List Held
after_conditional stands thread wide at held =
    if stands then stored_to thread at (size_of wide) (reserving thread None held) else reserving thread None held
