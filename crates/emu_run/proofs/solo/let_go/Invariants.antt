use Rattle.std.proofs.Common.{◌≡◌, take}
use Rattle.emu_run.specs.Turning.{without_dead}
use Rattle.emu_run.proofs.solo.let_go.Given as goal

abbrev pub invariant-loop-device : goal.invariant-loop-device
invariant-loop-device g l = l.board ≡ without_dead l.initial.board (take l.device l.core.shared.files.devices)
