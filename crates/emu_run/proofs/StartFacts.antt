-- What is seen of devices to which nothing was written yet.
use Rattle.std.proofs.Common.{◌≡◌, ℕ, zero, suc, ◌+◌, ◌-◌, List, [], ◌∷◌, Option, Some, None, length, replicate, refl, ap, sym, ◌∙◌, append-nil, arith}
use Rattle.dev_board.specs.Seen.{DeviceSeen}
use Rattle.file_table.specs.Opening as opening
use Rattle.file_table.specs.Opening.{device_description, new_device, standing, with_devices}
use Rattle.file_table.specs.declared.state.Device.{Device}
use Rattle.file_table.specs.State.{Files}
use Rattle.file_tree.specs.Nodes.{Tree}
use Rattle.told.specs.Told.{more}
use Rattle.emu_run.specs.Sending.{after_output, sent, with_more}

no_more : (held : Option (List ℕ)) → more held [] ≡ held
no_more None = refl
no_more (Some held) = ap Some (append-nil held)

nothing_sent : (seen : Option DeviceSeen) → after_output seen new_device ≡ seen
nothing_sent None = refl
nothing_sent (Some seen) = ap Some (rw (no_more seen.held) refl)

-- they are left as they were
pub start_sent : (seen : List (Option DeviceSeen)) (count : ℕ) → length seen ≡ count → sent seen (replicate count new_device) ≡ seen
start_sent [] count size = refl
start_sent (first ∷ seen) zero size = absurd (omega arith)
start_sent (first ∷ seen) (suc count) size =
    ap (λ one. one ∷ sent seen (replicate count new_device)) (nothing_sent first) ∙ ap (λ rest. first ∷ rest) (start_sent seen count (omega arith))

devices_same : (device count : ℕ) (files : Files) → (with_devices device count files).devices ≡ files.devices
unfolding with_devices
devices_same device zero files = refl
devices_same device (suc count) files = devices_same (device + 1) count (standing device (device_description device) files)

-- all devices live at first, and nothing was written
pub start_devices : (tree : Tree) (devices : ℕ) (input : Option ℕ) → (opening.started tree devices input).devices ≡ replicate devices new_device
unfolding opening.started opening.bare
start_devices tree devices None = devices_same 0 devices (opening.bare tree devices)
start_devices tree devices (Some inode) =
    devices_same 1 (devices - 1) (standing 0 (opening.input_description inode) (opening.bare (Rattle.file_tree.specs.Holds.held inode tree) devices))
