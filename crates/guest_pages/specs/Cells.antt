-- What stands at an address of the guest's memory: rights and a byte.
-- Source: mmap(2) and mprotect(2) for the rights. That a page without rights stores nothing is the project's own.
use Rattle.std.specs.Prelude.{ℕ, Bool, true, false, not, ◌&&◌, ◌||◌, if◌then◌else◌}
use Rattle.guest_pages.specs.declared.rights.Rights.{Rights}

pub record Cell : Type 0 where
  pub rights : Rights
  pub byte : ℕ

abbrev pub has_none : Rights → Bool
has_none rights = not (rights.read || (rights.write || rights.execute))

-- a cell with these rights; without any it holds 0
abbrev pub cell : Rights → ℕ → Cell
cell rights byte = record { rights = rights; byte = if has_none rights then 0 else byte }

-- the rights include all that are needed
abbrev pub include : Rights → Rights → Bool
include rights needed =
    (not needed.read || rights.read) && ((not needed.write || rights.write) && (not needed.execute || rights.execute))

abbrev pub same_bool : Bool → Bool → Bool
same_bool true b = b
same_bool false b = not b

abbrev pub same_rights : Rights → Rights → Bool
same_rights a b = same_bool a.read b.read && (same_bool a.write b.write && same_bool a.execute b.execute)
