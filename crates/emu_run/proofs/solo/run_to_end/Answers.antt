use Rattle.std.proofs.Common.{◌<◌, ◌≤◌, ◌+◌, ◌-◌, ap, sym, ◌∙◌, length, arith}
use Rattle.dev_board.specs.Seen.{devices_seen}
use Rattle.emu_run.proofs.RunFacts.{SoFar, ahead_longer, so_far_ahead, so_far_turned, stopped_at, stopped_here, turn_longer}
use Rattle.emu_run.proofs.ScheduleFacts.{ahead_one}
use Rattle.emu_run.proofs.solo.run_to_end.Goals as goal

pub returns-in-Err-clause-stopped : goal.returns-in-Err-clause-stopped
returns-in-Err-clause-stopped g c =
    let seen = devices_seen g.D.Device.left g.D.Device.held g.D.Device.failed_reads g.D.Device.failed_writes in
    let first = c.args.run.now in
    let now = c.loop.run in
    let next = c.go_ahead.new.run in
    let so_far : SoFar first now (seen first.board) (seen now.board) = record {
      ran = c.loop.invariant.ran;
      within = c.loop.invariant.within;
      budget = c.loop.invariant.budget;
      count = c.loop.invariant.count;
      sent = c.loop.invariant.sent;
    } in
    let room : length now.journal.events + (c.budget.result - c.count.result - 1) ≤ first.journal.budget = omega (arith, c.loop.invariant.within, c.loop.invariant.budget, c.budget.ensures, c.count.ensures, c.if-left-eq0.false) in
    rw c.go_ahead.ensures.board (stopped_here first next (seen first.board) (seen now.board) (so_far_ahead first now next (seen first.board) (seen now.board) _ so_far c.go_ahead.ensures room))

pub turn-requires-clause-one : goal.turn-requires-clause-one
turn-requires-clause-one g c = ahead_one c.loop.run c.go_ahead.new.run _ c.loop.invariant.one c.go_ahead.ensures

pub returns-in-Err-turn-clause-stopped : goal.returns-in-Err-turn-clause-stopped
returns-in-Err-turn-clause-stopped g c =
    let seen = devices_seen g.D.Device.left g.D.Device.held g.D.Device.failed_reads g.D.Device.failed_writes in
    let first = c.args.run.now in
    let now = c.loop.run in
    let next = c.go_ahead.new.run in
    let so_far : SoFar first now (seen first.board) (seen now.board) = record {
      ran = c.loop.invariant.ran;
      within = c.loop.invariant.within;
      budget = c.loop.invariant.budget;
      count = c.loop.invariant.count;
      sent = c.loop.invariant.sent;
    } in
    let room : length now.journal.events + (c.budget.result - c.count.result - 1) ≤ first.journal.budget = omega (arith, c.loop.invariant.within, c.loop.invariant.budget, c.budget.ensures, c.count.ensures, c.if-left-eq0.false) in
    let on_ahead = so_far_ahead first now next (seen first.board) (seen now.board) _ so_far c.go_ahead.ensures room in
    let ahead : SoFar first next (seen first.board) (seen next.board) = record {
      ran = on_ahead.ran;
      within = on_ahead.within;
      budget = on_ahead.budget;
      count = on_ahead.count;
      sent = ap seen c.go_ahead.ensures.board ∙ on_ahead.sent;
    } in
    let more : length next.journal.events < first.journal.budget = omega (arith, c.go_ahead.ensures.few, c.loop.invariant.within, c.loop.invariant.budget, c.budget.ensures, c.count.ensures, c.if-left-eq0.false) in
    stopped_at c.in-Err-turn.halt first next c.turn.new.run (seen first.board) (seen next.board) (seen c.turn.new.run.board) ahead more c.in-Err-turn.ensures.budget (ap seen) c.in-Err-turn.ensures.halted

pub loop-preserved : goal.loop-preserved
loop-preserved g c =
    let seen = devices_seen g.D.Device.left g.D.Device.held g.D.Device.failed_reads g.D.Device.failed_writes in
    let first = c.args.run.now in
    let now = c.loop.run in
    let next = c.go_ahead.new.run in
    let turned = c.turn.new.run in
    let so_far : SoFar first now (seen first.board) (seen now.board) = record {
      ran = c.loop.invariant.ran;
      within = c.loop.invariant.within;
      budget = c.loop.invariant.budget;
      count = c.loop.invariant.count;
      sent = c.loop.invariant.sent;
    } in
    let room : length now.journal.events + (c.budget.result - c.count.result - 1) ≤ first.journal.budget = omega (arith, c.loop.invariant.within, c.loop.invariant.budget, c.budget.ensures, c.count.ensures, c.if-left-eq0.false) in
    let on_ahead = so_far_ahead first now next (seen first.board) (seen now.board) _ so_far c.go_ahead.ensures room in
    let ahead : SoFar first next (seen first.board) (seen next.board) = record {
      ran = on_ahead.ran;
      within = on_ahead.within;
      budget = on_ahead.budget;
      count = on_ahead.count;
      sent = ap seen c.go_ahead.ensures.board ∙ on_ahead.sent;
    } in
    let more : length next.journal.events < first.journal.budget = omega (arith, c.go_ahead.ensures.few, c.loop.invariant.within, c.loop.invariant.budget, c.budget.ensures, c.count.ensures, c.if-left-eq0.false) in
    let on = so_far_turned first next turned (seen first.board) (seen next.board) (seen turned.board) ahead c.in-Ok-turn.ensures.stepped c.in-Ok-turn.ensures.sent c.in-Ok-turn.ensures.devices c.in-Ok-turn.ensures.budget more in
    record {
      one = c.turn.ensures.one;
      ran = on.ran;
      turns = omega (arith, c.loop.invariant.turns, ahead_longer now next _ c.go_ahead.ensures, turn_longer next turned c.in-Ok-turn.ensures.stepped);
      within = on.within;
      budget = on.budget;
      count = on.count;
      sent = on.sent;
      few = omega (arith, on.count, so_far.count, c.loop.invariant.few);
    }
