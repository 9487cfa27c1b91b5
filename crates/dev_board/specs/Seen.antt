-- What is seen of devices.
-- The project's own.
use Rattle.std.specs.Prelude.{ℕ, List, map, Option}
use Rattle.std.specs.Option.{option_map}

-- what a device has left and holds, where it tells that, and how many of its reads and writes failed
pub record DeviceSeen : Type 0 where
  pub left : Option (List ℕ)
  pub held : Option (List ℕ)
  pub failed_reads : ℕ
  pub failed_writes : ℕ

abbrev pub device_seen : {D : Type 0} → (D → Option (List ℕ)) → (D → Option (List ℕ)) → (D → ℕ) → (D → ℕ) → D → DeviceSeen
device_seen left held reads writes device = record {
  left = left device;
  held = held device;
  failed_reads = reads device;
  failed_writes = writes device;
}

-- by their numbers; none where one was let go
abbrev pub devices_seen : {D : Type 0} → (D → Option (List ℕ)) → (D → Option (List ℕ)) → (D → ℕ) → (D → ℕ) → List (Option D) → List (Option DeviceSeen)
devices_seen left held reads writes devices = map (option_map (device_seen left held reads writes)) devices
