use Rattle.std.proofs.Common.{◌≡◌, replicate}
use Rattle.file_table.specs.Opening.{new_device}
use Rattle.file_table.proofs.opening.new_devices.Given as goal

abbrev pub invariant-loop-index : goal.invariant-loop-index
invariant-loop-index l = l.devices.items ≡ replicate l.index new_device
