-- Loading a folder into a tree of files: what is refused, and which tree is made.
-- Source: readdir(3), open(2), mkdir(2). The limits, the order in which entries are refused, and that what stands under a
-- name of the folder itself that begins with `rv-` isn't loaded, are the project's own.
use Rattle.std.specs.Prelude.{◌≡◌, ℕ, ◌+◌, ◌<◌, ◌≤◌, max, nat_lt, ◌||◌, Bool, true, false, not, if◌then◌else◌, List, [], ◌∷◌, length, take, get_or, ◌⊎◌, Option, Some, None, Ok}
use Rattle.std.specs.List.{filter}
use Rattle.file_tree.specs.Making.{is_own}
use Rattle.file_tree.specs.Nodes.{Tree, Has, kind_in, holds_in, file_bytes}
use Rattle.file_tree.specs.Answers.{HoldsStay, KindsStay}
use Rattle.file_tree.specs.Walk.{walked}
use Rattle.file_tree.specs.declared.kind.Kind.{Kind as NodeKind}
use Rattle.file_tree.specs.declared.kind.Kind.TheVariants as nodes
use Rattle.image_store.specs.declared.folder.Entry.{Entry}
use Rattle.image_store.specs.declared.folder.FolderError.{FolderError}
use Rattle.image_store.specs.declared.folder.FolderError.TheVariants as errors
use Rattle.image_store.specs.declared.folder.Kind.{Kind}
use Rattle.image_store.specs.declared.folder.Kind.TheVariants as kinds
use Rattle.image_store.specs.declared.folder.Listed.{Listed}
use Rattle.image_store.specs.declared.loading.LoadFault.{LoadFault}
use Rattle.image_store.specs.declared.loading.LoadFault.TheVariants as faults
use Rattle.image_store.specs.Files.{Lists, Reads}
use Rattle.image_store.specs.Listing.{IsListing}
use Rattle.told.specs.Told.{Rose}

-- what is loaded of a listing
abbrev pub loaded_of : List Listed → List Listed
loaded_of listing = filter (λ entry. not (is_own entry.path)) listing

-- how many bytes an entry counts, by how many it gave: a file at least as many as are listed
abbrev pub counted_by : Kind → ℕ → ℕ → ℕ
counted_by kinds.File size given = max size given
counted_by kinds.Dir size given = 0
counted_by kinds.Other size given = 0

abbrev pub counted : Listed → ℕ → ℕ
counted entry given = counted_by entry.kind entry.size given

-- a file is too big, or too many bytes are with it
abbrev pub over : ℕ → List ℕ → ℕ → Option LoadFault
over before path count = if nat_lt 16777216 count || nat_lt 268435456 (before + count) then Some (faults.TooBig path count) else None

abbrev pub refused_by : ℕ → List ℕ → Kind → ℕ → Option LoadFault
refused_by before path kinds.File count = over before path count
refused_by before path kinds.Dir count = None
refused_by before path kinds.Other count = Some (faults.Link path)

-- why an entry is refused, by how many bytes those before it count
abbrev pub refused : ℕ → Listed → ℕ → Option LoadFault
refused before entry given = refused_by before entry.path entry.kind (counted entry given)

abbrev pub or_else : Option LoadFault → Option LoadFault → Option LoadFault
or_else None other = other
or_else (Some fault) other = Some fault

-- how many bytes entries count, by what each gave
abbrev pub total : List Listed → List (List ℕ) → ℕ
total [] given = 0
total (entry ∷ entries) [] = counted entry 0 + total entries []
total (entry ∷ entries) (bytes ∷ given) = counted entry (length bytes) + total entries given

-- the first refusal, by what each entry gave; one that hasn't given anything counts as it is listed
abbrev pub first_refused : ℕ → List Listed → List (List ℕ) → Option LoadFault
first_refused before [] given = None
first_refused before (entry ∷ entries) [] = or_else (refused before entry 0) (first_refused (before + counted entry 0) entries [])
first_refused before (entry ∷ entries) (bytes ∷ given) = or_else (refused before entry (length bytes)) (first_refused (before + counted entry (length bytes)) entries given)

abbrev pub GivenBy : Option (List Entry) → List ℕ → Kind → List ℕ → Type 0
GivenBy folder path kinds.File bytes = Reads folder path bytes
GivenBy folder path kinds.Dir bytes = bytes ≡ []
GivenBy folder path kinds.Other bytes = bytes ≡ []

-- what each of the first entries gave: files as they were read, where the folder tells, and others nothing
abbrev pub AreGiven : Option (List Entry) → List Listed → List (List ℕ) → Type 0
AreGiven folder entries [] = Unit {0}
AreGiven folder [] (bytes ∷ given) = ⊥
AreGiven folder (entry ∷ entries) (bytes ∷ given) = GivenBy folder entry.path entry.kind bytes × AreGiven folder entries given

abbrev pub IsNodeKind : Kind → NodeKind → Type 0
IsNodeKind kinds.File kind = kind ≡ nodes.File
IsNodeKind kinds.Dir kind = kind ≡ nodes.Dir
IsNodeKind kinds.Other kind = ⊥

-- an entry of the tree is what was listed, with the bytes that it gave
pub record IsPut (entry : Listed) (given : List ℕ) (inode : ℕ) (tree : Tree) : Type 0 where
  pub kind : NodeKind
  pub found : walked tree 1 entry.path ≡ Ok inode
  pub there : kind_in tree inode ≡ Some kind
  pub same : IsNodeKind entry.kind kind
  pub bytes : file_bytes tree.nodes inode ≡ given

-- one entry more, with these bytes, under the next inode; all else stays
pub record IsAdded (kind : NodeKind) (path bytes : List ℕ) (old new : Tree) : Type 0 where
  pub found : walked new 1 path ≡ Ok old.next
  pub there : kind_in new old.next ≡ Some kind
  pub has : file_bytes new.nodes old.next ≡ bytes
  pub next : new.next ≡ old.next + 1
  pub holds : HoldsStay old new
  pub kinds : KindsStay old new
  pub paths : (other : List ℕ) (inode : ℕ) → walked old 1 other ≡ Ok inode → walked new 1 other ≡ Ok inode
  pub others : (inode : ℕ) → Has old inode → file_bytes new.nodes inode ≡ file_bytes old.nodes inode

-- the tree has these entries and no other: the inodes go from 2 on in their order
pub record IsMadeOf (entries : List Listed) (given : List (List ℕ)) (tree : Tree) : Type 0 where
  pub placed : (k : ℕ) (d : Listed) → k < length entries → IsPut (get_or entries k d) (get_or given k []) (k + 2) tree
  pub next : tree.next ≡ length entries + 2
  pub free : (inode : ℕ) → holds_in tree inode ≡ 0

-- a tree is loaded from a folder that has this listing
pub record IsLoaded (folder : Option (List Entry)) (listing : List Listed) (tree : Tree) : Type 0 where
  pub lists : Lists folder listing
  pub sound : IsListing listing
  pub few : length listing ≤ 4096
  pub given : List (List ℕ)
  pub count : length given ≡ length (loaded_of listing)
  pub are_given : AreGiven folder (loaded_of listing) given
  pub fits : first_refused 0 (loaded_of listing) [] ≡ None
  pub fits_given : first_refused 0 (loaded_of listing) given ≡ None
  pub made : IsMadeOf (loaded_of listing) given tree

-- the listing that a refusal is about
pub record IsListed (folder : Option (List Entry)) (listing : List Listed) : Type 0 where
  pub lists : Lists folder listing
  pub sound : IsListing listing

-- before any file is read
pub record IsRefused (folder : Option (List Entry)) (fault : LoadFault) : Type 0 where
  pub listing : List Listed
  pub is : IsListed folder listing
  pub few : length listing ≤ 4096
  pub first : first_refused 0 (loaded_of listing) [] ≡ Some fault

-- after a file was read, among those that are read so far
pub record IsOver (folder : Option (List Entry)) (fault : LoadFault) : Type 0 where
  pub listing : List Listed
  pub is : IsListed folder listing
  pub few : length listing ≤ 4096
  pub none : first_refused 0 (loaded_of listing) [] ≡ None
  pub given : List (List ℕ)
  pub are_given : AreGiven folder (loaded_of listing) given
  pub first : first_refused 0 (take (length given) (loaded_of listing)) given ≡ Some fault

pub record IsTooMany (folder : Option (List Entry)) (count : ℕ) : Type 0 where
  pub listing : List Listed
  pub is : IsListed folder listing
  pub counted : count ≡ length listing
  pub many : 4096 < count

-- why no tree was loaded; want of memory is free
abbrev pub NotLoaded : Option (List Entry) → ℕ → ℕ → LoadFault → Type 0
NotLoaded folder before after (faults.TooMany count) = IsTooMany folder count
NotLoaded folder before after (faults.Link path) = IsRefused folder (faults.Link path)
NotLoaded folder before after (faults.TooBig path count) = IsRefused folder (faults.TooBig path count) ⊎ IsOver folder (faults.TooBig path count)
NotLoaded folder before after faults.ReadFault = Rose before after
NotLoaded folder before after faults.Memory = Unit {0}

-- no failed read is passed over by the refusals of entries
abbrev pub IsQuiet : ℕ → ℕ → LoadFault → Type 0
IsQuiet before after (faults.TooMany count) = after ≡ before
IsQuiet before after (faults.Link path) = after ≡ before
IsQuiet before after (faults.TooBig path count) = after ≡ before
IsQuiet before after faults.ReadFault = Unit {0}
IsQuiet before after faults.Memory = Unit {0}

-- a refusal that is due; want of memory is free
abbrev pub Refuses : Option LoadFault → LoadFault → Type 0
Refuses due (faults.TooMany count) = ⊥
Refuses due (faults.Link path) = due ≡ Some (faults.Link path)
Refuses due (faults.TooBig path count) = due ≡ Some (faults.TooBig path count)
Refuses due faults.ReadFault = ⊥
Refuses due faults.Memory = Unit {0}

-- a tree is filled with the entries of a listing, by what the folder gave
pub record IsFilledWith (folder : Option (List Entry)) (entries : List Listed) (before : ℕ) (tree : Tree) : Type 0 where
  pub given : List (List ℕ)
  pub count : length given ≡ length entries
  pub are_given : AreGiven folder entries given
  pub fits : first_refused 0 entries given ≡ None
  pub sum : before ≡ total entries given
  pub made : IsMadeOf entries given tree
  pub root : Has tree 1

-- why it wasn't filled
pub record IsStopped (folder : Option (List Entry)) (entries : List Listed) (fault : LoadFault) : Type 0 where
  pub given : List (List ℕ)
  pub are_given : AreGiven folder entries given
  pub first : first_refused 0 (take (length given) entries) given ≡ Some fault

abbrev pub NotFilled : Option (List Entry) → ℕ → ℕ → List Listed → LoadFault → Type 0
NotFilled folder before after entries (faults.TooMany count) = ⊥
NotFilled folder before after entries (faults.Link path) = ⊥
NotFilled folder before after entries (faults.TooBig path count) = IsStopped folder entries (faults.TooBig path count)
NotFilled folder before after entries faults.ReadFault = Rose before after
NotFilled folder before after entries faults.Memory = Unit {0}

-- an entry is put into the tree, with what the folder gave for it
pub record IsPutFrom (folder : Option (List Entry)) (entry : Listed) (before count : ℕ) (old new : Tree) : Type 0 where
  pub given : List ℕ
  pub is_given : GivenBy folder entry.path entry.kind given
  pub fits : refused before entry (length given) ≡ None
  pub counts : count ≡ counted entry (length given)
  pub kind : NodeKind
  pub same : IsNodeKind entry.kind kind
  pub added : IsAdded kind entry.path given old new

-- an entry that isn't loaded changes nothing
abbrev pub IsTakenBy : Bool → Option (List Entry) → Listed → ℕ → ℕ → Tree → Tree → Type 0
IsTakenBy true folder entry before count old new = (count ≡ 0) × (new ≡ old)
IsTakenBy false folder entry before count old new = IsPutFrom folder entry before count old new

-- the loaded ones of an entry and others
abbrev pub with_loaded : Listed → List Listed → List Listed
with_loaded entry entries = if not (is_own entry.path) then entry ∷ entries else entries

-- a file gave too much
pub record GaveTooMuch (folder : Option (List Entry)) (entry : Listed) (before : ℕ) (fault : LoadFault) : Type 0 where
  pub given : List ℕ
  pub is_given : GivenBy folder entry.path entry.kind given
  pub first : refused before entry (length given) ≡ Some fault

abbrev pub NotPut : Option (List Entry) → ℕ → ℕ → Listed → ℕ → LoadFault → Type 0
NotPut folder reads_before reads_after entry before (faults.TooMany count) = ⊥
NotPut folder reads_before reads_after entry before (faults.Link path) = ⊥
NotPut folder reads_before reads_after entry before (faults.TooBig path count) = GaveTooMuch folder entry before (faults.TooBig path count)
NotPut folder reads_before reads_after entry before faults.ReadFault = Rose reads_before reads_after
NotPut folder reads_before reads_after entry before faults.Memory = Unit {0}

abbrev pub read_fault : FolderError → LoadFault
read_fault errors.Failed = faults.ReadFault
read_fault errors.Memory = faults.Memory
