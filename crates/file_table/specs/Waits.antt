-- Whether a call would wait, asked without making it.
-- Source: read(2), write(2), pipe(7).
use Rattle.std.specs.Prelude.{ℕ, ◌==◌, Bool, true, false, not, ◌&&◌, ◌||◌, length, get_or, Option, Some, None, Result, Ok, Err}
use Rattle.file_table.specs.declared.fault.FileFault.{FileFault}
use Rattle.file_table.specs.declared.fault.FileFault.TheVariants as faults
use Rattle.file_table.specs.declared.state.Target.{Target}
use Rattle.file_table.specs.declared.state.Target.TheVariants as targets
use Rattle.file_table.specs.Descriptors.{no_device}
use Rattle.file_table.specs.Flags.{can_read, can_write, never_waits}
use Rattle.file_table.specs.Moving.{takes_by}
use Rattle.file_table.specs.State.{Files, Pipe, at, with_open}

-- a call comes to a wait
abbrev pub is_wait : {A : Type 0} → Result A FileFault → Bool
is_wait (Ok value) = false
is_wait (Err (faults.Errno errno)) = false
is_wait (Err faults.Block) = true
is_wait (Err faults.Memory) = false

-- a read of so many bytes waits, where so many are there
abbrev pub given_waits : Bool → ℕ → ℕ → ℕ → Bool
given_waits more count flags size = not ((size == 0) || (not (count == 0) || not more)) && not (never_waits flags)

abbrev pub pipe_gives_later : Option Pipe → ℕ → ℕ → Bool
pipe_gives_later None flags size = false
pipe_gives_later (Some pipe) flags size = given_waits pipe.writer (length pipe.bytes) flags size

abbrev pub gives_later : Target → ℕ → ℕ → Files → Bool
gives_later (targets.Node inode) flags size files = false
gives_later (targets.Device device) flags size files =
    given_waits (not (get_or files.devices device no_device).ended) (length (get_or files.devices device no_device).input) flags size
gives_later (targets.Pipe pipe writes) flags size files = pipe_gives_later (at files.pipes pipe) flags size

unfoldable pub read_waits : ℕ → ℕ → Files → Bool
read_waits fd size files = with_open fd files false (λ number it. can_read it.flags && gives_later it.target it.flags size files)

-- a write of so many bytes waits
abbrev pub takes_later : Target → ℕ → ℕ → Files → Bool
takes_later (targets.Node inode) flags size files = false
takes_later (targets.Device device) flags size files = false
takes_later (targets.Pipe pipe writes) flags size files = is_wait (takes_by (at files.pipes pipe) flags size)

unfoldable pub write_waits : ℕ → ℕ → Files → Bool
write_waits fd size files = with_open fd files false (λ number it. can_write it.flags && takes_later it.target it.flags size files)
