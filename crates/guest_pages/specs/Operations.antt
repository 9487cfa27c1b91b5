-- What the operations on memory read and leave, each told by what then stands at each address.
-- Source: mmap(2), munmap(2), mprotect(2). That no more than 65,536 pages are stored is the project's own.
use Rattle.std.specs.Prelude.{ℕ, zero, suc, ◌+◌, ◌-◌, ◌/◌, if◌then◌else◌, List, [], ◌∷◌, get_or, length, Option, Some, None}
use Rattle.guest_pages.specs.declared.rights.Rights.{Rights}
use Rattle.guest_pages.specs.Cells.{Cell, cell, has_none}
use Rattle.guest_pages.specs.Ranges.{Range, within, cell_at, ranges_of}

abbrev pub byte_of : Option Cell → ℕ
byte_of None = 0
byte_of (Some c) = c.byte

-- the count bytes from an address on
unfoldable pub bytes_at : List Range → ℕ → ℕ → List ℕ
bytes_at memory address zero = []
bytes_at memory address (suc count) = byte_of (cell_at memory address) ∷ bytes_at memory (address + 1) count

-- zeros with these rights, in place of what was there
unfoldable pub placed : ℕ → ℕ → Rights → List Range → List Range
placed start count rights memory =
    ranges_of (λ address. if within start count address then Some (cell rights 0) else cell_at memory address)

-- nothing, in place of what was there
unfoldable pub unmapped : ℕ → ℕ → List Range → List Range
unmapped start count memory =
    ranges_of (λ address. if within start count address then None else cell_at memory address)

-- other rights: what loses all rights loses its bytes
abbrev pub with_rights : Rights → Option Cell → Option Cell
with_rights rights None = None
with_rights rights (Some c) = Some (cell rights c.byte)

unfoldable pub protected : ℕ → ℕ → Rights → List Range → List Range
protected start count rights memory =
    ranges_of (λ address. if within start count address then with_rights rights (cell_at memory address) else cell_at memory address)

abbrev pub with_byte : ℕ → Option Cell → Option Cell
with_byte byte None = None
with_byte byte (Some c) = Some (cell c.rights byte)

-- bytes written from an address on
unfoldable pub written : ℕ → List ℕ → List Range → List Range
written start bytes memory =
    ranges_of (λ address. if within start (length bytes) address
    then with_byte (get_or bytes (address - start) 0) (cell_at memory address)
    else cell_at memory address)

-- the pages that are stored: those with a right
unfoldable pub stored_pages : List Range → ℕ
stored_pages [] = 0
stored_pages (range ∷ ranges) = (if has_none range.rights then 0 else range.length / 4096) + stored_pages ranges
