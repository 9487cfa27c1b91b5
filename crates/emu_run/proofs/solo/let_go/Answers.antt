use Rattle.std.proofs.Common.{sym, ◌∙◌}
use Rattle.emu_run.proofs.SendFacts.{next_goes, next_lives, none_dead}
use Rattle.emu_run.proofs.solo.let_go.Goals.{then-not-live, else-not-live}
use Rattle.emu_run.proofs.solo.let_go.Goals as goal

pub loop-device-init : goal.loop-device-init
loop-device-init g c = none_dead c.args.board.now

pub loop-device-preserved : goal.loop-device-preserved
loop-device-preserved g c = elim c.if-not-live.branch [
  | then-not-live w ↦
      w.board-is ∙ w.drop_device.ensures
      ∙ next_goes c.args.board.now c.loop-device.board c.args.core.now.shared.files.devices c.loop-device.device c.devices-device-end.result c.loop-device-test.true c.devices-device-end.ensures (sym c.live.ensures ∙ w.if-not-live.true) c.loop-device.invariant
  | else-not-live w ↦
      w.board-is
      ∙ next_lives c.args.board.now c.loop-device.board c.args.core.now.shared.files.devices c.loop-device.device c.devices-device-end.result c.loop-device-test.true c.devices-device-end.ensures (sym c.live.ensures ∙ w.if-not-live.false) c.loop-device.invariant
]
