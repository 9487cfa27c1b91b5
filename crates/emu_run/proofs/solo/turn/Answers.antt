use Rattle.file_table.specs.State.{outputs_of}
use Rattle.std.proofs.Common.{◌≡◌, ◌≤◌, ◌<◌, ℕ, [], ap, sym, ◌∙◌, length, slice_index, slice_index_or, arith}
use Rattle.dev_board.specs.Seen.{device_seen, devices_seen}
use Rattle.emu_run.specs.Turning.{without_dead}
use Rattle.emu_run.proofs.SendFacts.{without_dead_seen}
use Rattle.emu_run.proofs.TurnFacts.{Sending, grows_count, grows_length, longer_goes_on, turn_all, turn_part, turn_still}
use Rattle.emu_run.proofs.solo.turn.Goals as goal

pub returns-in-None-clause-sent : goal.returns-in-None-clause-sent
returns-in-None-clause-sent g c =
    let f = device_seen g.D.Device.left g.D.Device.held g.D.Device.failed_reads g.D.Device.failed_writes in
    let seen = devices_seen g.D.Device.left g.D.Device.held g.D.Device.failed_reads g.D.Device.failed_writes in
    let olds = c.args.run.now.core.shared.files.devices in
    let news = c.advance.new.core.shared.files.devices in
    let old = outputs_of c.args.run.now.core.shared.files in
    let new = outputs_of c.advance.new.core.shared.files in
    let short : (device : ℕ) → device < length old → length (slice_index_or new device []) ≤ length (slice_index_or old device []) = λ device within.
    omega (arith, c.in-None.ensures.none device (omega (arith, within, grows_length c.in-Ok.ensures.outputs)), c.lengths-before.ensures device within) in
    turn_still olds news (seen c.args.run.now.board) (seen c.let_go.new.board) c.in-Ok.ensures.outputs c.in-Ok.ensures.die short
    (ap seen c.let_go.ensures ∙ without_dead_seen f c.args.run.now.board news)

pub returns-in-Ok-hand-clause-sent : goal.returns-in-Ok-hand-clause-sent
returns-in-Ok-hand-clause-sent g c =
    let f = device_seen g.D.Device.left g.D.Device.held g.D.Device.failed_reads g.D.Device.failed_writes in
    let seen = devices_seen g.D.Device.left g.D.Device.held g.D.Device.failed_reads g.D.Device.failed_writes in
    let olds = c.args.run.now.core.shared.files.devices in
    let news = c.advance.new.core.shared.files.devices in
    let old = outputs_of c.args.run.now.core.shared.files in
    let new = outputs_of c.advance.new.core.shared.files in
    let device = c.in-Some.device in
    let within : device < length old = omega (arith, c.in-Some.ensures.within, grows_length c.in-Ok.ensures.outputs) in
    let before : slice_index c.lengths-before.result device ≡ length (slice_index_or old device []) = c.lengths-before.ensures device within in
    let longer : length (slice_index_or old device []) < length (slice_index_or new device []) = omega (arith, before, c.in-Some.ensures.longer) in
    let sending : Sending old new device (slice_index c.lengths-before.result device) c.output.result.now = record {
      within = within;
      before_is = before;
      now = c.output.ensures;
      grown = longer_goes_on old new device c.in-Ok.ensures.outputs longer;
    } in
    turn_all olds news (seen c.args.run.now.board) (seen c.let_go.new.board) (seen c.hand.new.board) device (slice_index c.lengths-before.result device) c.output.result.now sending c.in-Ok.ensures.die
    (ap seen c.let_go.ensures ∙ without_dead_seen f c.args.run.now.board news)
    c.in-Ok-hand.ensures.all

pub returns-in-Err-hand-clause-halted : goal.returns-in-Err-hand-clause-halted
returns-in-Err-hand-clause-halted g c =
    let f = device_seen g.D.Device.left g.D.Device.held g.D.Device.failed_reads g.D.Device.failed_writes in
    let seen = devices_seen g.D.Device.left g.D.Device.held g.D.Device.failed_reads g.D.Device.failed_writes in
    let olds = c.args.run.now.core.shared.files.devices in
    let news = c.advance.new.core.shared.files.devices in
    let old = outputs_of c.args.run.now.core.shared.files in
    let new = outputs_of c.advance.new.core.shared.files in
    let device = c.in-Some.device in
    let within : device < length old = omega (arith, c.in-Some.ensures.within, grows_length c.in-Ok.ensures.outputs) in
    let before : slice_index c.lengths-before.result device ≡ length (slice_index_or old device []) = c.lengths-before.ensures device within in
    let longer : length (slice_index_or old device []) < length (slice_index_or new device []) = omega (arith, before, c.in-Some.ensures.longer) in
    let sending : Sending old new device (slice_index c.lengths-before.result device) c.output.result.now = record {
      within = within;
      before_is = before;
      now = c.output.ensures;
      grown = longer_goes_on old new device c.in-Ok.ensures.outputs longer;
    } in (
      record {
        event = c.in-Ok.ensures.event;
        noted = c.in-Ok.ensures.noted;
      },
      turn_part olds news (seen c.args.run.now.board) (seen c.let_go.new.board) (seen c.hand.new.board) device (slice_index c.lengths-before.result device) c.output.result.now sending c.in-Ok.ensures.die
          (ap seen c.let_go.ensures ∙ without_dead_seen f c.args.run.now.board news)
          c.in-Err-hand.ensures.part,
      longer,
    )
