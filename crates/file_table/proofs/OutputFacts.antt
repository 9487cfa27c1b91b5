-- What calls on files do to what was written to devices: a write to a device goes on, and nothing else changes it.
use Rattle.std.proofs.Common.{◌≡◌, ℕ, zero, suc, ◌+◌, Bool, true, false, not, nat_lt, ◌==◌, ◌&&◌, if◌then◌else◌, List, [], ◌∷◌, ◌++◌, length, get_or, map, set, replicate, Option, Some, None, option_map, Result, Ok, Err, ℤ, pos, ◌+ℤ◌, refl, sym, ap, ◌∙◌, append-nil}
use Rattle.file_tree.specs.declared.errno.Errno.{Errno}
use Rattle.file_tree.specs.declared.errno.Errno.TheVariants.{EBADF, ENOENT}
use Rattle.file_tree.specs.declared.kind.Kind.{Kind}
use Rattle.file_tree.specs.declared.kind.Kind.TheVariants.{Dir, File}
use Rattle.file_tree.specs.Files.{truncated}
use Rattle.file_tree.specs.Making.{made}
use Rattle.file_tree.specs.Nodes.{Tree, kind_in}
use Rattle.file_tree.specs.Unlinking.{unlinked}
use Rattle.file_tree.specs.Walk.{walked}
use Rattle.file_table.specs.declared.state.Description.{Description}
use Rattle.file_table.specs.declared.state.Descriptor.{Descriptor}
use Rattle.file_table.specs.declared.state.Device.{Device}
use Rattle.file_table.specs.declared.state.Target.{Target}
use Rattle.file_table.specs.declared.state.Target.TheVariants as targets
use Rattle.file_table.specs.Descriptors.{close, close_by, closed, closed_by, dead, dup, dup_at, dup_by, dup_to, dup_to_by, free_place, is_named, let_go, marked, marked_by, no_device, swept, with_descriptor, with_flags, without_description}
use Rattle.file_table.specs.Due.{Done, and_then, done}
use Rattle.file_table.specs.Entries.{Listed, list, listed_in, listed_on}
use Rattle.file_table.specs.Flags.{are_wrong, can_read, can_write, changes, creates, is_exclusive, truncates, wants_directory}
use Rattle.file_table.specs.declared.fault.FileFault.{FileFault}
use Rattle.file_table.specs.Moving.{counted_from, cut, cut_kind, faulted, file_read, file_written, given, given_by, lawful, moved, past, place_of, put_by, read, read_target, seek, sought, stopped, takes_by, truncate, went_by, went_on, with_output, with_pipe, without_bytes, without_input, write, write_at, write_target, write_target_at}
use Rattle.file_table.specs.Moving.{with_devices as table_devices}
use Rattle.file_table.specs.Opening.{bare, device_description, new_device, open_base, open_found, open_free, open_kind, open_made, open_there, opened, standing, started, with_devices}
use Rattle.file_table.specs.Paths.{base, put_tree, with_dir, with_tree, without}
use Rattle.file_table.specs.Pipes.{are_foreign, next_free, piped, piped_at}
use Rattle.file_table.specs.State.{Files, OnlyDie, Pipe, at, chosen, open_as, outputs_of}

-- ---- of one device of a list

output_at : (devices : List Device) (device : ℕ) → (get_or devices device no_device).output ≡ get_or (map (λ d. d.output) devices) device []
output_at [] device = refl
output_at (first ∷ devices) zero = refl
output_at (first ∷ devices) (suc device) = output_at devices device

outputs_set : (devices : List Device) (device : ℕ) (new : Device) → map (λ d. d.output) (set devices device new) ≡ set (map (λ d. d.output) devices) device new.output
outputs_set [] device new = refl
outputs_set (first ∷ devices) zero new = refl
outputs_set (first ∷ devices) (suc device) new = ap (λ (l : List (List ℕ)). first.output ∷ l) (outputs_set devices device new)

same_set : (l : List (List ℕ)) (device : ℕ) → set l device (get_or l device []) ≡ l
same_set [] device = refl
same_set (first ∷ l) zero = refl
same_set (first ∷ l) (suc device) = ap (λ (rest : List (List ℕ)). first ∷ rest) (same_set l device)

-- a device that lives no more keeps what was written
pub dead_same : (devices : List Device) (device : ℕ) → map (λ d. d.output) (set devices device (dead (get_or devices device no_device))) ≡ map (λ d. d.output) devices
dead_same devices device =
    outputs_set devices device _ ∙ (ap (set (map (λ d. d.output) devices) device) (output_at devices device) ∙ same_set (map (λ d. d.output) devices) device)

-- and only one that lives no more is otherwise
pub dead_dies : (devices : List Device) (device : ℕ) → OnlyDie devices (set devices device (dead (get_or devices device no_device)))
dead_dies [] device = λ place lives. lives
dead_dies (first ∷ devices) zero = elim [
  | zero ↦ λ lives. absurd (let f : ⊥ = cc in f)
  | suc place ↦ λ lives. lives
]
dead_dies (first ∷ devices) (suc device) = elim [
  | zero ↦ λ lives. lives
  | suc place ↦ λ lives. dead_dies devices device place lives
]

-- a write leaves alone which devices live
pub written_dies : (devices : List Device) (device : ℕ) (bytes : List ℕ) → OnlyDie devices (with_output device bytes devices)
written_dies [] device bytes = λ place lives. lives
written_dies (first ∷ devices) zero bytes = elim [
  | zero ↦ λ lives. lives
  | suc place ↦ λ lives. lives
]
written_dies (first ∷ devices) (suc device) bytes = elim [
  | zero ↦ λ lives. lives
  | suc place ↦ λ lives. written_dies devices device bytes place lives
]

-- a device that lives on as it did
alive_dies : (devices : List Device) (device : ℕ) (new : Device) → new.live ≡ (get_or devices device no_device).live → OnlyDie devices (set devices device new)
alive_dies [] device new same = λ place lives. lives
alive_dies (first ∷ devices) zero new same = elim [
  | zero ↦ λ lives. sym same ∙ lives
  | suc place ↦ λ lives. lives
]
alive_dies (first ∷ devices) (suc device) new same = elim [
  | zero ↦ λ lives. lives
  | suc place ↦ λ lives. alive_dies devices device new same place lives
]

-- what is written goes behind
pub written_more : (devices : List Device) (device : ℕ) (bytes : List ℕ) → map (λ d. d.output) (with_output device bytes devices) ≡ set (map (λ d. d.output) devices) device (get_or (map (λ d. d.output) devices) device [] ++ bytes)
written_more devices device bytes =
    outputs_set devices device _ ∙ ap (λ (output : List ℕ). set (map (λ d. d.output) devices) device (output ++ bytes)) (output_at devices device)

-- ---- calls that leave what was written

-- what was written is as before, and devices only die
abbrev pub Kept : Files → Files → Type 0
Kept old new = (outputs_of new ≡ outputs_of old) × OnlyDie old.devices new.devices

-- where there is an answer
abbrev pub Keeps : {X E : Type 0} → (X → Files) → Files → Result X E → Type 0
Keeps of files (Err error) = Unit {0}
Keeps of files (Ok x) = Kept files (of x)

abbrev pub done_files : {A : Type 0} → Done A → Files
done_files it = it.files

abbrev pub themselves : Files → Files
themselves files = files

keeps_if : {X E : Type 0} (of : X → Files) (files : Files) (b : Bool) (x y : Result X E) → Keeps of files x → Keeps of files y → Keeps of files (if b then x else y)
keeps_if of files true x y one other = one
keeps_if of files false x y one other = other

keeps_chosen : {X E : Type 0} (of : X → Files) (files : Files) (o : Option (ℕ × Description)) (closed : Result X E) (go : ℕ → Description → Result X E) → Keeps of files closed → ((number : ℕ) (it : Description) → Keeps of files (go number it)) → Keeps of files (chosen o closed go)
keeps_chosen of files None closed go one all = one
keeps_chosen of files (Some (number, it)) closed go one all = all number it

keeps_then : {X Y : Type 0} (of : X → Files) (files : Files) (r : Result Y Errno) (go : Y → Result X Errno) → ((y : Y) → Keeps of files (go y)) → Keeps of files (and_then r go)
keeps_then of files (Err errno) go all = tt
keeps_then of files (Ok y) go all = all y

let_go_same : (target : Target) (files : Files) → Kept files (let_go target files)
let_go_same (targets.Node inode) files = (refl, λ device lives. lives)
let_go_same (targets.Device device) files = (dead_same files.devices device, dead_dies files.devices device)
let_go_same (targets.Pipe pipe writes) files = (refl, λ device lives. lives)

without_same : (number : ℕ) (o : Option Description) (files : Files) → Kept files (without_description number o files)
without_same number None files = (refl, λ device lives. lives)
without_same number (Some gone) files = let_go_same gone.target _

either_same : (b : Bool) (files one other : Files) → Kept files one → Kept files other → Kept files (if b then one else other)
either_same true files one other first second = first
either_same false files one other first second = second

swept_same : (number : ℕ) (files : Files) → Kept files (swept number files)
swept_same number files = either_same (is_named number files.descriptors) files files (without_description number (at files.descriptions number) files) (refl, λ device lives. lives) (without_same number (at files.descriptions number) files)

closed_by_same : (fd : ℕ) (o : Option Descriptor) (files : Files) → Kept files (closed_by fd o files)
closed_by_same fd None files = (refl, λ device lives. lives)
closed_by_same fd (Some descriptor) files = swept_same descriptor.description (with_descriptor fd None files)

closed_same : (fd : ℕ) (files : Files) → Kept files (closed fd files)
unfolding closed
closed_same fd files = closed_by_same fd (at files.descriptors fd) files

close_by_keeps : (fd : ℕ) (o : Option Descriptor) (files : Files) → Keeps done_files files (close_by fd o files)
close_by_keeps fd None files = tt
close_by_keeps fd (Some descriptor) files = swept_same descriptor.description (with_descriptor fd None files)

pub close_keeps : (fd : ℕ) (files : Files) → Keeps done_files files (close fd files)
unfolding close
close_keeps fd files = close_by_keeps fd (at files.descriptors fd) files

dup_at_keeps : (to : Option ℕ) (descriptor : Descriptor) (closes : Bool) (files : Files) → Keeps done_files files (dup_at to descriptor closes files)
dup_at_keeps None descriptor closes files = tt
dup_at_keeps (Some to) descriptor closes files = (refl, λ device lives. lives)

dup_by_keeps : (o : Option Descriptor) (least : ℕ) (closes : Bool) (files : Files) → Keeps done_files files (dup_by o least closes files)
dup_by_keeps None least closes files = tt
dup_by_keeps (Some descriptor) least closes files = dup_at_keeps (free_place least files.descriptors) descriptor closes files

pub dup_keeps : (fd least : ℕ) (closes : Bool) (files : Files) → Keeps done_files files (dup fd least closes files)
unfolding dup
dup_keeps fd least closes files = keeps_if done_files files (nat_lt 255 least) _ _ tt (dup_by_keeps (at files.descriptors fd) least closes files)

dup_to_by_keeps : (o : Option Descriptor) (to : ℕ) (closes : Bool) (files : Files) → Keeps done_files files (dup_to_by o to closes files)
dup_to_by_keeps None to closes files = tt
dup_to_by_keeps (Some descriptor) to closes files = keeps_if done_files files (nat_lt 255 to) _ _ tt (closed_same to files)

pub dup_to_keeps : (fd to : ℕ) (closes : Bool) (files : Files) → Keeps done_files files (dup_to fd to closes files)
unfolding dup_to
dup_to_keeps fd to closes files = keeps_if done_files files (fd == to) _ _ tt (dup_to_by_keeps (at files.descriptors fd) to closes files)

marked_by_keeps : (o : Option Descriptor) (fd : ℕ) (closes : Bool) (files : Files) → Keeps themselves files (marked_by o fd closes files)
marked_by_keeps None fd closes files = tt
marked_by_keeps (Some descriptor) fd closes files = (refl, λ device lives. lives)

pub marked_keeps : (fd : ℕ) (closes : Bool) (files : Files) → Keeps themselves files (marked fd closes files)
unfolding marked
marked_keeps fd closes files = marked_by_keeps (at files.descriptors fd) fd closes files

pub flags_keep : (fd flags : ℕ) (files : Files) → Keeps themselves files (with_flags fd flags files)
unfolding with_flags
flags_keep fd flags files = keeps_chosen themselves files (open_as fd files) _ _ tt (λ number it. (refl, λ device lives. lives))

-- ---- opening, and calls on paths

open_kind_keeps : (kind : Option Kind) (fd inode flags : ℕ) (files : Files) → Keeps done_files files (open_kind kind fd inode flags files)
open_kind_keeps None fd inode flags files = tt
open_kind_keeps (Some Dir) fd inode flags files = keeps_if done_files files (changes flags) _ _ tt (refl, λ device lives. lives)
open_kind_keeps (Some File) fd inode flags files =
    keeps_if done_files files (wants_directory flags) _ _ tt
    (keeps_if done_files files (truncates flags) _ _ (keeps_then done_files files (truncated inode 0 files.tree) _ (λ tree. (refl, λ device lives. lives))) (refl, λ device lives. lives))

open_there_keeps : (fd inode flags : ℕ) (files : Files) → Keeps done_files files (open_there fd inode flags files)
open_there_keeps fd inode flags files =
    keeps_if done_files files (creates flags && is_exclusive flags) _ _ tt (open_kind_keeps (kind_in files.tree inode) fd inode flags files)

open_made_keeps : (from : ℕ) (path : List ℕ) (flags fd : ℕ) (files : Files) → Keeps done_files files (open_made from path flags fd files)
open_made_keeps from path flags fd files =
    keeps_if done_files files (wants_directory flags) _ _ tt (keeps_then done_files files (made File from path files.tree) _ (λ tree. (refl, λ device lives. lives)))

open_missing_keeps : (from : ℕ) (path : List ℕ) (flags fd : ℕ) (files : Files) → Keeps done_files files (if creates flags then open_made from path flags fd files else Err ENOENT)
open_missing_keeps from path flags fd files = keeps_if done_files files (creates flags) _ _ (open_made_keeps from path flags fd files) tt

open_found_keeps : (r : Result ℕ Errno) (from : ℕ) (path : List ℕ) (flags fd : ℕ) (files : Files) → Keeps done_files files (open_found r from path flags fd files)
open_found_keeps (Ok inode) from path flags fd files = open_there_keeps fd inode flags files
open_found_keeps (Err ENOENT) from path flags fd files = open_missing_keeps from path flags fd files
open_found_keeps (Err errno) from path flags fd files = tt

open_free_keeps : (fd : Option ℕ) (from : Result ℕ Errno) (path : List ℕ) (flags : ℕ) (files : Files) → Keeps done_files files (open_free fd from path flags files)
open_free_keeps None from path flags files = tt
open_free_keeps (Some fd) from path flags files =
    keeps_then done_files files from _ (λ inode. open_found_keeps (walked files.tree inode path) inode path flags fd files)

open_base_keeps : (from : Result ℕ Errno) (path : List ℕ) (flags : ℕ) (files : Files) → Keeps done_files files (open_base from path flags files)
open_base_keeps (Err EBADF) path flags files = tt
open_base_keeps from path flags files = open_free_keeps (free_place 0 files.descriptors) from path flags files

pub opened_keeps : (dir : ℤ) (path : List ℕ) (flags : ℕ) (files : Files) → Keeps done_files files (opened dir path flags files)
unfolding opened
opened_keeps dir path flags files = keeps_if done_files files (are_wrong flags) _ _ tt (open_base_keeps (base dir path files) path flags files)

piped_at_keeps : (reader writer : Option ℕ) (flags : ℕ) (files : Files) → Keeps done_files files (piped_at reader writer flags files)
piped_at_keeps (Some reader) (Some writer) flags files = (refl, λ device lives. lives)
piped_at_keeps (Some reader) None flags files = tt
piped_at_keeps None writer flags files = tt

pub piped_keeps : (flags : ℕ) (files : Files) → Keeps done_files files (piped flags files)
unfolding piped
piped_keeps flags files = keeps_if done_files files (are_foreign flags) _ _ tt (piped_at_keeps (free_place 0 files.descriptors) (next_free (free_place 0 files.descriptors) files) flags files)

tree_keeps : (r : Result Tree Errno) (files : Files) → Keeps themselves files (put_tree r files)
tree_keeps (Err errno) files = tt
tree_keeps (Ok tree) files = (refl, λ device lives. lives)

pub dir_keeps : (dir : ℤ) (path : List ℕ) (files : Files) → Keeps themselves files (with_dir dir path files)
unfolding with_dir
dir_keeps dir path files = keeps_then themselves files (base dir path files) _ (λ from. tree_keeps (made Dir from path files.tree) files)

pub without_keeps : (dir : ℤ) (path : List ℕ) (directory : Bool) (files : Files) → Keeps themselves files (without dir path directory files)
unfolding without
without_keeps dir path directory files = keeps_then themselves files (base dir path files) _ (λ from. tree_keeps (unlinked from path directory files.tree) files)

-- ---- moving

went_on_keeps : (number : ℕ) (it : Description) (files : Files) (r : Result (List ℕ) Errno) → Keeps done_files files (went_on number it files r)
went_on_keeps number it files (Err errno) = tt
went_on_keeps number it files (Ok bytes) = (refl, λ device lives. lives)

device_read_keeps : (number : ℕ) (device : Device) (files : Files) (r : Result (List ℕ) FileFault) → device ≡ get_or files.devices number no_device → Keeps done_files files (went_by r (λ count. table_devices (set files.devices number (without_input count device)) files))
device_read_keeps number device files (Err fault) is = tt
device_read_keeps number device files (Ok bytes) is = (
  outputs_set files.devices number (without_input (length bytes) device) ∙ (ap (λ (d : Device). set (map (λ d. d.output) files.devices) number d.output) is ∙ (ap (set (map (λ d. d.output) files.devices) number) (output_at files.devices number) ∙ same_set (map (λ d. d.output) files.devices) number)),
  alive_dies files.devices number (without_input (length bytes) device) (ap (λ (d : Device). d.live) is),
)

pipe_read_keeps : (number : ℕ) (place : Option Pipe) (files : Files) (r : Result (List ℕ) FileFault) → Keeps done_files files (went_by r (λ count. with_pipe number (option_map (without_bytes count) place) files))
pipe_read_keeps number place files (Err fault) = tt
pipe_read_keeps number place files (Ok bytes) = (refl, λ device lives. lives)

read_target_keeps : (target : Target) (number : ℕ) (it : Description) (size : ℕ) (files : Files) → Keeps done_files files (read_target target number it size files)
read_target_keeps (targets.Node inode) number it size files = went_on_keeps number it files (file_read inode it.offset size files.tree)
read_target_keeps (targets.Device device) number it size files = device_read_keeps device (get_or files.devices device no_device) files (given (not (get_or files.devices device no_device).ended) (get_or files.devices device no_device).input it.flags size) refl
read_target_keeps (targets.Pipe pipe writes) number it size files = pipe_read_keeps pipe (at files.pipes pipe) files (given_by (at files.pipes pipe) it.flags size)

pub read_keeps : (fd size : ℕ) (files : Files) → Keeps done_files files (read fd size files)
unfolding read
read_keeps fd size files =
    keeps_chosen done_files files (open_as fd files) _ _ tt
    (λ number it. keeps_if done_files files (not (can_read it.flags)) _ _ tt (read_target_keeps it.target number it size files))

write_at_target_keeps : (target : Target) (flags offset : ℕ) (bytes : List ℕ) (files : Files) → Keeps done_files files (write_target_at target flags offset bytes files)
write_at_target_keeps (targets.Node inode) flags offset bytes files = keeps_then done_files files (file_written inode (place_of flags inode offset files.tree) bytes files.tree) _ (λ tree. (refl, λ device lives. lives))
write_at_target_keeps (targets.Device device) flags offset bytes files = tt
write_at_target_keeps (targets.Pipe pipe writes) flags offset bytes files = tt

pub write_at_keeps : (fd offset : ℕ) (bytes : List ℕ) (files : Files) → Keeps done_files files (write_at fd offset bytes files)
unfolding write_at
write_at_keeps fd offset bytes files =
    keeps_chosen done_files files (open_as fd files) _ _ tt
    (λ number it. keeps_if done_files files (not (can_write it.flags)) _ _ tt (write_at_target_keeps it.target it.flags offset bytes files))

sought_keeps : (target : Target) (number : ℕ) (it : Description) (offset : ℤ) (whence : ℕ) (files : Files) → Keeps done_files files (sought target number it offset whence files)
sought_keeps (targets.Device device) number it offset whence files = tt
sought_keeps (targets.Pipe pipe writes) number it offset whence files = tt
sought_keeps (targets.Node inode) number it offset whence files =
    keeps_then done_files files (counted_from whence inode it files.tree) _ (λ from. keeps_then done_files files (lawful (pos from +ℤ offset)) _ (λ to. (refl, λ device lives. lives)))

pub seek_keeps : (fd : ℕ) (offset : ℤ) (whence : ℕ) (files : Files) → Keeps done_files files (seek fd offset whence files)
unfolding seek
seek_keeps fd offset whence files =
    keeps_if done_files files (nat_lt 2 whence) _ _ tt
    (keeps_chosen done_files files (open_as fd files) _ _ tt (λ number it. sought_keeps it.target number it offset whence files))

cut_kind_keeps : (kind : Option Kind) (inode flags size : ℕ) (files : Files) → Keeps themselves files (cut_kind kind inode flags size files)
cut_kind_keeps None inode flags size files = tt
cut_kind_keeps (Some Dir) inode flags size files = tt
cut_kind_keeps (Some File) inode flags size files = keeps_if themselves files (not (can_write flags)) _ _ tt (keeps_then themselves files (truncated inode size files.tree) _ (λ tree. (refl, λ device lives. lives)))

cut_keeps : (target : Target) (flags size : ℕ) (files : Files) → Keeps themselves files (cut target flags size files)
cut_keeps (targets.Device device) flags size files = tt
cut_keeps (targets.Pipe pipe writes) flags size files = tt
cut_keeps (targets.Node inode) flags size files = cut_kind_keeps (kind_in files.tree inode) inode flags size files

pub truncate_keeps : (fd size : ℕ) (files : Files) → Keeps themselves files (truncate fd size files)
unfolding truncate
truncate_keeps fd size files = keeps_chosen themselves files (open_as fd files) _ _ tt (λ number it. cut_keeps it.target it.flags size files)

listed_keeps : (number : ℕ) (it : Description) (files : Files) (r : Result Listed Errno) → Keeps done_files files (listed_on number it files r)
listed_keeps number it files (Err errno) = tt
listed_keeps number it files (Ok listed) = (refl, λ device lives. lives)

pub list_keeps : (fd room : ℕ) (files : Files) → Keeps done_files files (list fd room files)
unfolding list
list_keeps fd room files =
    keeps_chosen done_files files (open_as fd files) _ _ tt (λ number it. listed_keeps number it files (listed_in it.target room it.offset files.tree))

-- ---- a write to a device goes on

-- at most one output goes on
abbrev pub GoesOn : List (List ℕ) → List (List ℕ) → Type 0
GoesOn old new = (device : ℕ) × (more : List ℕ) × (new ≡ set old device (get_or old device [] ++ more))

abbrev pub Grows : {E : Type 0} → Files → Result (Done ℕ) E → Type 0
Grows files (Err error) = Unit {0}
Grows files (Ok it) = GoesOn (outputs_of files) (outputs_of it.files) × OnlyDie files.devices it.files.devices

same_goes_on : (old new : List (List ℕ)) → new ≡ old → GoesOn old new
same_goes_on old new same = (0, [], same ∙ sym (ap (set old 0) (append-nil (get_or old 0 [])) ∙ same_set old 0))

node_grows : (inode number : ℕ) (it : Description) (bytes : List ℕ) (files : Files) (r : Result Tree Errno) → Grows files (faulted (and_then r (λ tree. Ok (done (moved number (past it.offset (place_of it.flags inode it.offset files.tree) (length bytes)) it (with_tree tree files)) (length bytes)))))
node_grows inode number it bytes files (Err errno) = tt
node_grows inode number it bytes files (Ok tree) = (same_goes_on _ _ refl, λ device lives. lives)

put_grows : (r : Result ℕ FileFault) (number : ℕ) (place : Option Pipe) (bytes : List ℕ) (files : Files) → Grows files (put_by r number place bytes files)
put_grows (Err fault) number place bytes files = tt
put_grows (Ok count) number place bytes files = (same_goes_on _ _ refl, λ device lives. lives)

target_grows : (target : Target) (number : ℕ) (it : Description) (bytes : List ℕ) (files : Files) → Grows files (write_target target number it bytes files)
target_grows (targets.Node inode) number it bytes files = node_grows inode number it bytes files (file_written inode (place_of it.flags inode it.offset files.tree) bytes files.tree)
target_grows (targets.Device device) number it bytes files = ((device, bytes, written_more files.devices device bytes), written_dies files.devices device bytes)
target_grows (targets.Pipe pipe writes) number it bytes files = put_grows (takes_by (at files.pipes pipe) it.flags (length bytes)) pipe (at files.pipes pipe) bytes files

grows_by : (b : Bool) (target : Target) (number : ℕ) (it : Description) (bytes : List ℕ) (files : Files) → Grows files (if b then stopped EBADF else write_target target number it bytes files)
grows_by true target number it bytes files = tt
grows_by false target number it bytes files = target_grows target number it bytes files

open_grows : (o : Option (ℕ × Description)) (bytes : List ℕ) (files : Files) → Grows files (chosen o (stopped EBADF) (λ number it. if not (can_write it.flags) then stopped EBADF else write_target it.target number it bytes files))
open_grows None bytes files = tt
open_grows (Some (number, it)) bytes files = grows_by (not (can_write it.flags)) it.target number it bytes files

pub write_grows : (fd : ℕ) (bytes : List ℕ) (files : Files) → Grows files (write fd bytes files)
unfolding write
write_grows fd bytes files = open_grows (open_as fd files) bytes files

-- ---- the start

pub devices_same : (device count : ℕ) (files : Files) → outputs_of (with_devices device count files) ≡ outputs_of files
unfolding with_devices
devices_same device zero files = refl
devices_same device (suc count) files = devices_same (device + 1) count (standing device (device_description device) files)

new_outputs : (count : ℕ) → map (λ d. d.output) (replicate count new_device) ≡ replicate count []
new_outputs zero = refl
new_outputs (suc count) = ap (λ (l : List (List ℕ)). [] ∷ l) (new_outputs count)

-- nothing was written at first
pub outputs_at_start : (tree : Tree) (devices : ℕ) → outputs_of (started tree devices None) ≡ replicate devices []
unfolding started bare
outputs_at_start tree devices = devices_same 0 devices (bare tree devices) ∙ new_outputs devices
