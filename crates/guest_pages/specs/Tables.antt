-- What stands at each address, by the tables of pages that hold it.
-- Source: the project's own.
use Rattle.std.specs.Prelude.{◌≡◌, ℕ, ◌/◌, ◌%◌, ◌≤◌, Bool, true, false, not, if◌then◌else◌, List, [], slice_get, get_or, length, Option, Some, None}
use Rattle.std.specs.Borrow.{Bor}
use Rattle.std.specs.declared.alloc.Global.{Global}
use Rattle.std.specs.declared.vec.Vec.{Vec}
use Rattle.guest_pages.specs.declared.rights.Rights.{Rights}
use Rattle.guest_pages.specs.declared.fault.PageFault.{PageFault}
use Rattle.guest_pages.specs.declared.fault.PageFault.TheVariants.{NotMapped, NoAccess}
use Rattle.guest_pages.specs.declared.page.Page.{Page}
use Rattle.guest_pages.specs.declared.page.Table.{Table}
use Rattle.guest_pages.specs.declared.page.Page.TheVariants.{Absent, Bare, Held}
use Rattle.guest_pages.specs.Bits.{bit_of}
use Rattle.guest_pages.specs.Cells.{Cell, cell, include, has_none}
use Rattle.guest_pages.specs.Ranges.{Range, ranges_of}
use Rattle.guest_pages.specs.Operations.{stored_pages}

abbrev pub nothing : Rights
nothing = record { read = false; write = false; execute = false }

-- what stands at a place of a page
abbrev pub cell_in : Page → ℕ → Option Cell
cell_in Absent place = None
cell_in Bare place = Some (cell nothing 0)
cell_in (Held rights bytes) place = Some (cell rights (get_or bytes.value place 0))

-- what is wrong with an address of a page
abbrev pub fault_in : Rights → Page → ℕ → Option PageFault
fault_in needed Absent address = Some (NotMapped address)
fault_in needed Bare address = if include nothing needed then None else Some (NoAccess address)
fault_in needed (Held rights bytes) address = if include rights needed then None else Some (NoAccess address)

-- the bytes of a page that has these rights
abbrev pub held_in : Rights → Page → Option (List ℕ)
held_in needed Absent = None
held_in needed Bare = None
held_in needed (Held rights bytes) = if include rights needed then Some bytes.value else None

-- the page that was found, absent if none was
abbrev pub page_found : Option (Bor Page) → Page
page_found None = Absent
page_found (Some page) = page.now

-- the tables, of which there are none at first
abbrev pub rows_of : Option (Vec Table Global) → List Table
rows_of None = []
rows_of (Some tables) = tables.items

-- a page that stores nothing
abbrev pub bare_if : Bool → Page
bare_if true = Bare
bare_if false = Absent

-- the page at a place of a table
abbrev pub page_in : Option Table → ℕ → Page
page_in None place = Absent
page_in (Some table) place = get_or table.pages.items place (bare_if (bit_of table.mapped.items place))

-- the marks of a table
abbrev pub marks_in : Option Table → List ℕ
marks_in None = []
marks_in (Some table) = table.mapped.items

-- its mark: whether it is mapped
abbrev pub mark_in : Option Table → ℕ → Bool
mark_in None place = false
mark_in (Some table) place = bit_of table.mapped.items place

-- the mark of the page with a number
unfoldable pub mark_at : List Table → ℕ → Bool
mark_at tables number = mark_in (slice_get tables (number / 8192)) (number % 8192)

-- the page with a number: its address is 4096 times that
unfoldable pub page_at : List Table → ℕ → Page
page_at tables number = page_in (slice_get tables (number / 8192)) (number % 8192)

-- what stands at an address
unfoldable pub cells : List Table → ℕ → Option Cell
cells tables address = cell_in (page_at tables (address / 4096)) (address % 4096)

-- the memory that the tables hold
unfoldable pub held : List Table → List Range
held tables = ranges_of (cells tables)

-- the page is mapped
abbrev pub is_present : Page → Bool
is_present Absent = false
is_present Bare = true
is_present (Held rights bytes) = true

-- the marks say which pages are mapped
abbrev pub AreMarked : List Table → Type 0
AreMarked tables = (number : ℕ) → mark_at tables number ≡ is_present (page_at tables number)

-- the tables reach no further than user memory, the marks are right, and the pages that are stored are counted
pub record IsSound (tables : List Table) (stored : ℕ) : Type 0 where
  pub small : length tables ≤ 8192
  pub marked : AreMarked tables
  pub counted : stored ≡ stored_pages (held tables)

-- the page has a right
abbrev pub right_in : Page → Bool
right_in Absent = false
right_in Bare = false
right_in (Held rights bytes) = not (has_none rights)

-- the page can be executed
abbrev pub runs_in : Page → Bool
runs_in Absent = false
runs_in Bare = false
runs_in (Held rights bytes) = rights.execute
