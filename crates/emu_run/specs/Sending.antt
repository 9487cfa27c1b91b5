-- What becomes of devices when the outputs of a run were sent to them.
-- The project's own.
use Rattle.std.specs.Prelude.{◌≡◌, ◌≤◌, ℕ, if◌then◌else◌, List, [], ◌∷◌, length, take, Option, Some, None, slice_get, slice_set}
use Rattle.file_table.specs.declared.state.Device.{Device}
use Rattle.file_table.specs.State.{output_of}
use Rattle.dev_board.specs.Seen.{DeviceSeen}
use Rattle.told.specs.Told.{more, Rose}

-- it holds bytes more behind what it held, and is else as it was
abbrev pub with_more : DeviceSeen → List ℕ → DeviceSeen
with_more seen bytes = record {
  left = seen.left;
  held = more seen.held bytes;
  failed_reads = seen.failed_reads;
  failed_writes = seen.failed_writes;
}

-- a device that lives no more was let go; another holds what it held, and its output behind that
abbrev pub after_output : Option DeviceSeen → Device → Option DeviceSeen
after_output None device = None
after_output (Some seen) device = if device.live then Some (with_more seen device.output) else None

abbrev pub sent : List (Option DeviceSeen) → List Device → List (Option DeviceSeen)
sent [] devices = []
sent (seen ∷ rest) [] = seen ∷ rest
sent (seen ∷ rest) (device ∷ devices) = after_output seen device ∷ sent rest devices

-- So does each but one, whose count of failed writes rose: it holds a beginning of its output, with all of what that was
-- earlier.
pub record IsSentUpTo (before : List (Option DeviceSeen)) (earlier devices : List Device) (device : ℕ) (after : List (Option DeviceSeen)) : Type 0 where
  pub was : DeviceSeen
  pub is : DeviceSeen
  pub there : slice_get before device ≡ Some (Some was)
  pub all : after ≡ slice_set (sent before devices) device (Some is)
  pub count : ℕ
  pub all_earlier : length (output_of (slice_get earlier device)) ≤ count
  pub within : count ≤ length (output_of (slice_get devices device))
  pub held : is.held ≡ more was.held (take count (output_of (slice_get devices device)))
  pub left : is.left ≡ was.left
  pub same_reads : is.failed_reads ≡ was.failed_reads
  pub rose : Rose was.failed_writes is.failed_writes
