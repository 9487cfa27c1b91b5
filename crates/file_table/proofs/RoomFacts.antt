-- What is listed of a directory fits in the room for it.
use Rattle.std.proofs.Common.{◌≡◌, ℕ, ◌+◌, ◌-◌, ◌≤◌, nat_lt, Bool, true, false, not, if◌then◌else◌, List, [], ◌∷◌, ◌++◌, length, drop, Option, Some, None, Result, Ok, Err, refl, arith, length-append}
use Rattle.std.proofs.lemmas.Bool.Decides.{nat_tests}
use Rattle.file_tree.specs.declared.errno.Errno.{Errno}
use Rattle.file_tree.specs.declared.errno.Errno.TheVariants.{EBADF, EINVAL, ENOENT}
use Rattle.file_tree.specs.declared.kind.Kind.{Kind}
use Rattle.file_tree.specs.declared.kind.Kind.TheVariants.{Dir, File}
use Rattle.file_tree.specs.Entries.{Entries}
use Rattle.file_tree.specs.Nodes.{Tree, kind_in, linked_in}
use Rattle.file_table.specs.declared.state.Description.{Description}
use Rattle.file_table.specs.declared.state.Target.{Target}
use Rattle.file_table.specs.declared.state.Target.TheVariants as targets
use Rattle.file_table.specs.Due.{Done}
use Rattle.file_table.specs.Entries.{Listed, entries, entry_bytes, entry_size, fitted, list, listed_by, listed_in, listed_on, lists, onto}
use Rattle.file_table.specs.State.{Files, chosen, open_as}
use Rattle.file_table.proofs.ListFacts.{entry_long}

join_few : (one other : List ℕ) (size room : ℕ) → length one ≡ size → size ≤ room → length other ≤ room - size → length (one ++ other) ≤ room
join_few one other size room is low few = simp length-append (omega (arith, is))

fits_by : (full : Bool) (room index : ℕ) (entry : List ℕ × ℕ) (tree : Tree) (rest : Listed) → nat_lt room (entry_size entry.0) ≡ full → length rest.bytes ≤ room - entry_size entry.0 → length (if full then record { bytes = []; next = index } else onto (entry_bytes (index + 1) entry tree) rest).bytes ≤ room
fits_by true room index entry tree rest is few = omega arith
fits_by false room index entry tree rest is few =
    let low : entry_size entry.0 ≤ room = grind (arith, nat_tests) in
    join_few (entry_bytes (index + 1) entry tree) rest.bytes (entry_size entry.0) room (entry_long (index + 1) entry tree) low few

fitted_few : (room index : ℕ) (es : Entries) (tree : Tree) → length (fitted room index es tree).bytes ≤ room
unfolding fitted
fitted_few room index [] tree = omega arith
fitted_few room index ((name, inode) ∷ rest) tree =
    fits_by (nat_lt room (entry_size name)) room index (name, inode) tree (fitted (room - entry_size name) (index + 1) rest tree) refl
    (fitted_few (room - entry_size name) (index + 1) rest tree)

-- so many bytes at most are answered
abbrev pub Few : {E : Type 0} → ℕ → Result (Done (List ℕ)) E → Type 0
Few room (Err error) = Unit {0}
Few room (Ok it) = length it.answer ≤ room

abbrev pub FewListed : ℕ → Result Listed Errno → Type 0
FewListed room (Err errno) = Unit {0}
FewListed room (Ok listed) = length listed.bytes ≤ room

either_few : (b : Bool) (room : ℕ) (one other : Result Listed Errno) → FewListed room one → FewListed room other → FewListed room (if b then one else other)
either_few true room one other first second = first
either_few false room one other first second = second

lists_few : (room index : ℕ) (es : Entries) (tree : Tree) → FewListed room (lists room index es tree)
lists_few room index [] tree = omega arith
lists_few room index ((name, inode) ∷ rest) tree =
    either_few (nat_lt room (entry_size name)) room (Err EINVAL) (Ok (fitted room index ((name, inode) ∷ rest) tree)) tt (fitted_few room index ((name, inode) ∷ rest) tree)

by_few : (inode : ℕ) (kind : Option Kind) (linked : Bool) (room index : ℕ) (tree : Tree) → FewListed room (listed_by inode kind linked room index tree)
by_few inode None linked room index tree = tt
by_few inode (Some File) linked room index tree = tt
by_few inode (Some Dir) linked room index tree = either_few (not linked) room (Err ENOENT) (lists room index (drop index (entries inode tree)) tree) tt (lists_few room index (drop index (entries inode tree)) tree)

in_few : (target : Target) (room index : ℕ) (tree : Tree) → FewListed room (listed_in target room index tree)
in_few (targets.Device device) room index tree = tt
in_few (targets.Pipe pipe writes) room index tree = tt
in_few (targets.Node inode) room index tree = by_few inode (kind_in tree inode) (linked_in tree inode) room index tree

on_few : (number room : ℕ) (it : Description) (files : Files) (r : Result Listed Errno) → FewListed room r → Few room (listed_on number it files r)
on_few number room it files (Err errno) few = tt
on_few number room it files (Ok listed) few = few

open_few : (o : Option (ℕ × Description)) (room : ℕ) (files : Files) → Few room (chosen o (Err EBADF) (λ number it. listed_on number it files (listed_in it.target room it.offset files.tree)))
open_few None room files = tt
open_few (Some (number, it)) room files = on_few number room it files (listed_in it.target room it.offset files.tree) (in_few it.target room it.offset files.tree)

pub list_few : (fd room : ℕ) (files : Files) → Few room (list fd room files)
unfolding list
list_few fd room files = open_few (open_as fd files) room files
