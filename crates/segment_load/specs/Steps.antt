-- How the memory comes about, by its pages.
-- Source: the project's own.
use Rattle.std.specs.Prelude.{◌≡◌, ◌<◌, ◌≤◌, ◌-◌, ℕ, ◌/◌, ◌^◌, Bool, false, ◌||◌, if◌then◌else◌, List, get_or, length, Option, Some, None}
use Rattle.elf_file.specs.Segments.{SegmentImage}
use Rattle.guest_pages.specs.declared.rights.Rights.{Rights}
use Rattle.guest_pages.specs.Cells.{Cell, cell}
use Rattle.guest_pages.specs.Ranges.{Range, within, ranges_of}
use Rattle.guest_pages.specs.Counting.{count_pages}
use Rattle.guest_pages.specs.declared.fault.MapFault.{MapFault}
use Rattle.guest_pages.specs.declared.fault.MapFault.TheVariants.{PagesFull, NotMapped, Memory}
use Rattle.guest_pages.specs.Limits.{most_pages, page_size}
use Rattle.segment_load.specs.Loading.{either, no_right, touches}

-- what stands at an address, by the pages that are mapped, the rights of each page and the byte of each address
unfoldable pub paged : (ℕ → Bool) → (ℕ → Rights) → (ℕ → ℕ) → ℕ → Option Cell
paged mapped rights bytes address =
    if mapped (address / page_size) then Some (cell (rights (address / page_size)) (bytes address)) else None

-- the memory has these pages, all of which are of user memory
pub record HasPages (mapped : ℕ → Bool) (rights : ℕ → Rights) (bytes : ℕ → ℕ) (memory : List Range) : Type 0 where
  pub low : (page : ℕ) → 2 ^ 26 ≤ page → mapped page ≡ false
  pub is : memory ≡ ranges_of (paged mapped rights bytes)

-- no page has a right
abbrev pub no_rights : ℕ → Rights
no_rights page = no_right

-- each byte is 0
abbrev pub zeros : ℕ → ℕ
zeros address = 0

-- the pages of a segment, too
abbrev pub with_pages : SegmentImage → (ℕ → Bool) → ℕ → Bool
with_pages s mapped page = touches s page || mapped page

-- the pages from one on have these rights, too
abbrev pub with_more : ℕ → ℕ → Rights → (ℕ → Rights) → ℕ → Rights
with_more first count more rights page = if within first count page then either more (rights page) else rights page

-- bytes from an address on, in place of others
abbrev pub over : ℕ → List ℕ → (ℕ → ℕ) → ℕ → ℕ
over start news bytes address =
    if within start (length news) address then get_or news (address - start) 0 else bytes address

-- the rights of what stands at an address
abbrev pub rights_in : Option Cell → Rights
rights_in None = no_right
rights_in (Some c) = c.rights

-- how many pages are stored: those that are mapped with a right
unfoldable pub right_pages : (ℕ → Bool) → (ℕ → Rights) → ℕ
right_pages mapped rights = count_pages (paged mapped rights zeros) 0 (2 ^ 26)

-- why pages don't get these rights: more would be stored than there may be, or want of memory
abbrev pub IsFull : (ℕ → Bool) → (ℕ → Rights) → MapFault → Type 0
IsFull mapped rights (PagesFull wanted) = most_pages < right_pages mapped rights
IsFull mapped rights (NotMapped address) = ⊥
IsFull mapped rights Memory = Unit {0}
