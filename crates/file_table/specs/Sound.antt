-- What every table of files keeps: an open descriptor names a description, each description is named, an entry of the tree is
-- held as often as descriptions name it, a device is named by one description, and lives while it is, and so is an end of a
-- pipe, which is open while it is.
-- Source: open(2), close(2), unlink(2), pipe(7). That there are 256 descriptors is the project's own.
use Rattle.std.specs.Prelude.{◌≡◌, ℕ, ◌<◌, ◌≤◌, ◌==◌, true, if◌then◌else◌, List, sum_by, length, slice_get, Option, Some, None, IsSome}
use Rattle.file_tree.specs.Nodes.{Tree, Has, holds_in}
use Rattle.file_tree.specs.Whole.{IsSound as IsSoundTree}
use Rattle.file_table.specs.declared.state.Descriptor.{Descriptor}
use Rattle.file_table.specs.declared.state.Description.{Description}
use Rattle.file_table.specs.declared.state.Device.{Device}
use Rattle.file_table.specs.declared.state.Target.{Target}
use Rattle.file_table.specs.declared.state.Target.TheVariants as targets
use Rattle.file_table.specs.Descriptors.{lone_of, is_named}
use Rattle.file_table.specs.State.{Files, Pipe, at, is_open_by, lives_by}

abbrev pub one_in : ℕ → Target → ℕ
one_in inode (targets.Node other) = if other == inode then 1 else 0
one_in inode (targets.Device device) = 0
one_in inode (targets.Pipe pipe writes) = 0

abbrev pub one_for : ℕ → Option Description → ℕ
one_for inode None = 0
one_for inode (Some it) = one_in inode it.target

-- how many descriptions name an entry of the tree
unfoldable pub holders : ℕ → List (Option Description) → ℕ
holders inode descriptions = sum_by (one_for inode) descriptions

-- what a description is open for is there
abbrev pub IsThere : Tree → List Device → List (Option Pipe) → Target → Type 0
IsThere tree devices pipes (targets.Node inode) = Has tree inode
IsThere tree devices pipes (targets.Device device) = lives_by (slice_get devices device) ≡ true
IsThere tree devices pipes (targets.Pipe pipe writes) = is_open_by writes (at pipes pipe) ≡ true

pub record IsSound (files : Files) : Type 0 where
  pub tree : IsSoundTree files.tree
  pub many : length files.descriptors ≡ 256
  pub named : (fd : ℕ) (descriptor : Descriptor) → at files.descriptors fd ≡ Some descriptor → IsSome (at files.descriptions descriptor.description)
  pub used : (number : ℕ) → IsSome (at files.descriptions number) → is_named number files.descriptors ≡ true
  pub there : (number : ℕ) (it : Description) → at files.descriptions number ≡ Some it → IsThere files.tree files.devices files.pipes it.target
  pub holds : (inode : ℕ) → holds_in files.tree inode ≡ holders inode files.descriptions
  pub once : (target : Target) (number other : ℕ) → lone_of (at files.descriptions number) ≡ Some target → lone_of (at files.descriptions other) ≡ Some target → number ≡ other

-- from a number on nothing is open, and no description is for a device
pub record AreReady (first count : ℕ) (files : Files) : Type 0 where
  pub behind : first ≤ length files.descriptions
  pub free : (number : ℕ) → first ≤ number → at files.descriptors number ≡ None
  pub unused : (number : ℕ) → first ≤ number → at files.descriptions number ≡ None
  pub lives : (device : ℕ) → device < count → lives_by (slice_get files.devices device) ≡ true
  pub fresh : (device number : ℕ) → first ≤ device → lone_of (at files.descriptions number) ≡ Some (targets.Device device) → ⊥
