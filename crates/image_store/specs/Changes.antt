-- What a call that changes a folder leaves of its entries, where it tells them.
-- Source: open(2), mkdir(2), unlink(2), rmdir(2).
use Rattle.std.specs.Prelude.{◌≡◌, ◌≢◌, ℕ, ◌≤◌, ◌⊎◌, List, [], length, take, map, Option, Some, None}
use Rattle.std.specs.List.{find}
use Rattle.std.specs.Ordering.{nat_cmp, is_eq}
use Rattle.std.specs.Cmp.Lexicographic.{slice_cmp}
use Rattle.image_store.specs.declared.folder.Entry.{Entry}
use Rattle.image_store.specs.declared.folder.Kind.TheVariants.{File, Dir}
use Rattle.image_store.specs.Files.{listed}
use Rattle.image_store.specs.Listing.{IsListing}

-- the entry at a path
abbrev pub entry_at : List ℕ → List Entry → Option Entry
entry_at path entries = find (λ entry. is_eq (slice_cmp nat_cmp entry.path path)) entries

abbrev pub file_at : List ℕ → List ℕ → Entry
file_at path bytes = record { path = path; kind = File; bytes = bytes }

abbrev pub dir_at : List ℕ → Entry
dir_at path = record { path = path; kind = Dir; bytes = [] }

-- a path has this entry, or none, and all else is as it was
pub record IsChanged (path : List ℕ) (entry : Option Entry) (old new : List Entry) : Type 0 where
  pub sound : IsListing (map listed new)
  pub here : entry_at path new ≡ entry
  pub others : (other : List ℕ) → other ≢ path → entry_at other new ≡ entry_at other old

-- the same where the folder tells
abbrev pub Leaves : List ℕ → Option Entry → Option (List Entry) → Option (List Entry) → Type 0
Leaves path entry None after = after ≡ None
Leaves path entry (Some old) after = (new : List Entry) × (after ≡ Some new) × IsChanged path entry old new

-- what a write leaves that failed: what was there, or a beginning of the new bytes
abbrev pub LeavesBeginning : List ℕ → List ℕ → Option (List Entry) → Option (List Entry) → Type 0
LeavesBeginning path bytes before after =
    (after ≡ before) ⊎ ((count : ℕ) × (count ≤ length bytes) × Leaves path (Some (file_at path (take count bytes))) before after)
