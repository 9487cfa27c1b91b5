-- The names of a directory, with the inodes that they lead to, in rising order of the names' bytes.
-- Source: getdents(2); the order is the project's own.
use Rattle.std.specs.Prelude.{ℕ, List, Option, map}
use Rattle.std.specs.Ordering.{nat_cmp}
use Rattle.std.specs.Cmp.Lexicographic.{slice_cmp}
use Rattle.std.specs.List.Sorted.{IsStrictlySortedBy}
use Rattle.std.specs.Map.{lookup, remove_entry, keys_of}
use Rattle.std.specs.BTreeMap.{insert_entry, is_at}
use Rattle.std.specs.declared.alloc.Global.{Global}
use Rattle.std.specs.declared.vec.Vec.{Vec}

abbrev pub Entries : Type 0
Entries = List (List ℕ × ℕ)

-- the inode that a name leads to
abbrev pub entry_named : List ℕ → Entries → Option ℕ
entry_named name entries = lookup (is_at (slice_cmp nat_cmp name)) entries

abbrev pub with_entry : List ℕ → ℕ → Entries → Entries
with_entry name inode entries = insert_entry (slice_cmp nat_cmp) entries name inode

abbrev pub without_entry : List ℕ → Entries → Entries
without_entry name entries = remove_entry (is_at (slice_cmp nat_cmp name)) entries

abbrev pub AreRising : Entries → Type 0
AreRising entries = IsStrictlySortedBy (slice_cmp nat_cmp) (keys_of entries)

-- the entries that a map has
abbrev pub named : List (Vec ℕ Global × ℕ) → Entries
named pairs = map (λ e. (e.0.items, e.1)) pairs
