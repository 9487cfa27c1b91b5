use Rattle.std.proofs.Common.{sym, ◌∙◌}
use Rattle.emu_run.proofs.SendFacts.{hand_all, hand_none, hand_part}
use Rattle.emu_run.proofs.solo.hand.Goals as goal

pub returns-then-live-clause-all : goal.returns-then-live-clause-all
returns-then-live-clause-all g c =
    let e = c.pump_out.ensures in
    hand_all g.D.Device.left g.D.Device.held g.D.Device.failed_reads g.D.Device.failed_writes c.pump_out.result c.args.board.now c.pump_out.new.self c.args.device e.0 e.1 c.args.bytes.now e.2 e.3

pub returns-then-live-clause-part : goal.returns-then-live-clause-part
returns-then-live-clause-part g c =
    let e = c.pump_out.ensures in
    hand_part g.D.Device.left g.D.Device.held g.D.Device.failed_reads g.D.Device.failed_writes c.pump_out.result c.args.board.now c.pump_out.new.self c.args.device e.0 e.1 c.args.bytes.now e.2 e.3

pub returns-else-live-clause-all : goal.returns-else-live-clause-all
returns-else-live-clause-all g c =
    hand_none g.D.Device.left g.D.Device.held g.D.Device.failed_reads g.D.Device.failed_writes c.args.board.now c.args.device c.args.bytes.now (sym c.live.ensures ∙ c.if-live.false)
