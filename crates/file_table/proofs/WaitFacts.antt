-- That a call would wait is what is asked of its descriptor.
use Rattle.std.proofs.Common.{◌≡◌, ℕ, ◌==◌, Bool, true, false, not, ◌&&◌, ◌||◌, if◌then◌else◌, List, length, take, get_or, set, Option, Some, None, option_map, Result, Ok, Err, refl, ◌∙◌}
use Rattle.file_tree.specs.declared.errno.Errno.{Errno}
use Rattle.file_tree.specs.declared.errno.Errno.TheVariants.{EAGAIN, EBADF}
use Rattle.file_table.specs.declared.fault.FileFault.{FileFault}
use Rattle.file_table.specs.declared.fault.FileFault.TheVariants as faults
use Rattle.file_table.specs.declared.state.Description.{Description}
use Rattle.file_table.specs.declared.state.Target.{Target}
use Rattle.file_table.specs.declared.state.Target.TheVariants as targets
use Rattle.file_table.specs.Descriptors.{no_device}
use Rattle.file_table.specs.Due.{Done}
use Rattle.file_table.specs.Flags.{can_read, can_write, never_waits}
use Rattle.file_table.specs.Moving.{faulted, file_read, given, given_by, put_by, read, read_target, stopped, takes_by, waits, went_by, went_on, with_devices, with_pipe, without_bytes, without_input, write, write_node, write_target}
use Rattle.file_table.specs.State.{Files, Pipe, at, chosen, open_as}
use Rattle.file_table.specs.Waits.{given_waits, gives_later, is_wait, pipe_gives_later, read_waits, takes_later, write_waits}

waits_is : (flags : ℕ) → is_wait (waits {A = List ℕ} flags) ≡ not (never_waits flags)
waits_is flags = by_never (never_waits flags)
  where
    by_never : (never : Bool) → is_wait {A = List ℕ} (if never then Err (faults.Errno EAGAIN) else Err faults.Block) ≡ not never
    by_never true = refl
    by_never false = refl

-- ---- a read

given_is : (more : Bool) (bytes : List ℕ) (flags size : ℕ) → is_wait (given more bytes flags size) ≡ given_waits more (length bytes) flags size
given_is more bytes flags size = by_test ((size == 0) || (not (length bytes == 0) || not more))
  where
    by_test : (ready : Bool) → is_wait (if ready then Ok (take size bytes) else waits flags) ≡ (not ready && not (never_waits flags))
    by_test true = refl
    by_test false = waits_is flags

place_is : (place : Option Pipe) (flags size : ℕ) → is_wait (given_by place flags size) ≡ pipe_gives_later place flags size
place_is None flags size = refl
place_is (Some pipe) flags size = given_is pipe.writer pipe.bytes flags size

went_is : (r : Result (List ℕ) FileFault) (left : ℕ → Files) → is_wait (went_by r left) ≡ is_wait r
went_is (Ok bytes) left = refl
went_is (Err (faults.Errno errno)) left = refl
went_is (Err faults.Block) left = refl
went_is (Err faults.Memory) left = refl

node_is : (number : ℕ) (it : Description) (files : Files) (r : Result (List ℕ) Errno) → is_wait (went_on number it files r) ≡ false
node_is number it files (Ok bytes) = refl
node_is number it files (Err errno) = refl

target_is : (target : Target) (number : ℕ) (it : Description) (size : ℕ) (files : Files) → is_wait (read_target target number it size files) ≡ gives_later target it.flags size files
target_is (targets.Node inode) number it size files = node_is number it files (file_read inode it.offset size files.tree)
target_is (targets.Device device) number it size files =
    went_is (given (not (get_or files.devices device no_device).ended) (get_or files.devices device no_device).input it.flags size) (λ count. with_devices (set files.devices device (without_input count (get_or files.devices device no_device))) files)
    ∙ given_is (not (get_or files.devices device no_device).ended) (get_or files.devices device no_device).input it.flags size
target_is (targets.Pipe pipe writes) number it size files =
    went_is (given_by (at files.pipes pipe) it.flags size) (λ count. with_pipe pipe (option_map (without_bytes count) (at files.pipes pipe)) files)
    ∙ place_is (at files.pipes pipe) it.flags size

-- what isn't open for it is refused
unless_closed : {A : Type 0} (can : Bool) (r : Result A FileFault) (later : Bool) → is_wait r ≡ later → is_wait (if not can then stopped EBADF else r) ≡ (can && later)
unless_closed true r later is = is
unless_closed false r later is = refl

read_by : (o : Option (ℕ × Description)) (size : ℕ) (files : Files) → is_wait (chosen o (stopped {A = Done (List ℕ)} EBADF) (λ number it. if not (can_read it.flags) then stopped EBADF else read_target it.target number it size files)) ≡ chosen o false (λ number it. can_read it.flags && gives_later it.target it.flags size files)
read_by None size files = refl
read_by (Some (number, it)) size files =
    unless_closed (can_read it.flags) (read_target it.target number it size files) (gives_later it.target it.flags size files) (target_is it.target number it size files)

pub read_asked : (fd size : ℕ) (files : Files) → is_wait (read fd size files) ≡ read_waits fd size files
unfolding read read_waits
read_asked fd size files = read_by (open_as fd files) size files

-- ---- a write

put_is : (r : Result ℕ FileFault) (number : ℕ) (place : Option Pipe) (bytes : List ℕ) (files : Files) → is_wait (put_by r number place bytes files) ≡ is_wait r
put_is (Ok count) number place bytes files = refl
put_is (Err (faults.Errno errno)) number place bytes files = refl
put_is (Err faults.Block) number place bytes files = refl
put_is (Err faults.Memory) number place bytes files = refl

faulted_is : {A : Type 0} (r : Result A Errno) → is_wait (faulted r) ≡ false
faulted_is (Ok value) = refl
faulted_is (Err errno) = refl

written_is : (target : Target) (number : ℕ) (it : Description) (bytes : List ℕ) (files : Files) → is_wait (write_target target number it bytes files) ≡ takes_later target it.flags (length bytes) files
written_is (targets.Node inode) number it bytes files = faulted_is (write_node inode number it bytes files)
written_is (targets.Device device) number it bytes files = refl
written_is (targets.Pipe pipe writes) number it bytes files = put_is (takes_by (at files.pipes pipe) it.flags (length bytes)) pipe (at files.pipes pipe) bytes files

write_by : (o : Option (ℕ × Description)) (bytes : List ℕ) (files : Files) → is_wait (chosen o (stopped {A = Done ℕ} EBADF) (λ number it. if not (can_write it.flags) then stopped EBADF else write_target it.target number it bytes files)) ≡ chosen o false (λ number it. can_write it.flags && takes_later it.target it.flags (length bytes) files)
write_by None bytes files = refl
write_by (Some (number, it)) bytes files =
    unless_closed (can_write it.flags) (write_target it.target number it bytes files) (takes_later it.target it.flags (length bytes) files) (written_is it.target number it bytes files)

pub write_asked : (fd : ℕ) (bytes : List ℕ) (files : Files) → is_wait (write fd bytes files) ≡ write_waits fd (length bytes) files
unfolding write write_waits
write_asked fd bytes files = write_by (open_as fd files) bytes files
