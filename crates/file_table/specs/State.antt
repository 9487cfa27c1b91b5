-- The descriptors of a process, what they name, its devices, its pipes and its tree of files.
-- Source: open(2): a descriptor names an open file description, and several may name one; pipe(7). The numbers of
-- descriptions and of pipes are the project's own.
use Rattle.std.specs.Prelude.{◌≡◌, ℕ, Bool, true, false, nat_lt, if◌then◌else◌, List, [], ◌∷◌, ◌++◌, length, get_or, map, set, slice_get, Option, Some, None}
use Rattle.file_tree.specs.Nodes.{Tree}
use Rattle.file_table.specs.declared.state.Descriptor.{Descriptor}
use Rattle.file_table.specs.declared.state.Description.{Description}
use Rattle.file_table.specs.declared.state.Device.{Device}

-- a pipe: its bytes, the first one first, and which of its ends are open
pub record Pipe : Type 0 where
  pub bytes : List ℕ
  pub reader : Bool
  pub writer : Bool

pub record Files : Type 0 where
  pub tree : Tree
  -- by their numbers
  pub descriptors : List (Option Descriptor)
  pub descriptions : List (Option Description)
  pub devices : List Device
  pub pipes : List (Option Pipe)

-- what stands at a place
abbrev pub at : {A : Type 0} → List (Option A) → ℕ → Option A
at places number = get_or places number None

-- something put at a place, or behind the last one
abbrev pub put : {A : Type 0} → ℕ → A → List (Option A) → List (Option A)
put number value places = if nat_lt number (length places) then set places number (Some value) else places ++ Some value ∷ []

abbrev pub with_number : ℕ → Option Description → Option (ℕ × Description)
with_number number None = None
with_number number (Some description) = Some (number, description)

abbrev pub opened_by : Files → Option Descriptor → Option (ℕ × Description)
opened_by files None = None
opened_by files (Some descriptor) = with_number descriptor.description (at files.descriptions descriptor.description)

-- the description that a descriptor names, with its number
unfoldable pub open_as : ℕ → Files → Option (ℕ × Description)
open_as fd files = opened_by files (at files.descriptors fd)

abbrev pub chosen : {A : Type 0} → Option (ℕ × Description) → A → (ℕ → Description → A) → A
chosen None closed go = closed
chosen (Some (number, description)) closed go = go number description

-- what is done with it, and what where the descriptor isn't open
abbrev pub with_open : {A : Type 0} → ℕ → Files → A → (ℕ → Description → A) → A
with_open fd files closed go = chosen (open_as fd files) closed go

-- what was written to each device
abbrev pub outputs_of : Files → List (List ℕ)
outputs_of files = map (λ device. device.output) files.devices

abbrev pub output_of : Option Device → List ℕ
output_of None = []
output_of (Some device) = device.output

abbrev pub lives_by : Option Device → Bool
lives_by None = false
lives_by (Some device) = device.live

abbrev pub bytes_by : Option Pipe → List ℕ
bytes_by None = []
bytes_by (Some pipe) = pipe.bytes

-- which end of a pipe
abbrev pub end_of_pipe : Bool → Pipe → Bool
end_of_pipe writes pipe = if writes then pipe.writer else pipe.reader

abbrev pub is_open_by : Bool → Option Pipe → Bool
is_open_by writes None = false
is_open_by writes (Some pipe) = end_of_pipe writes pipe

-- each device that lives lived before
abbrev pub OnlyDie : List Device → List Device → Type 0
OnlyDie old new = (device : ℕ) → lives_by (slice_get new device) ≡ true → lives_by (slice_get old device) ≡ true
