use Rattle.std.proofs.Common.{◌≡◌, ◌≤◌, Some, length}
use Rattle.dev_board.specs.Seen.{devices_seen}
use Rattle.guest_core.specs.Event.{run}
use Rattle.emu_run.specs.Running.{OneLives}
use Rattle.emu_run.specs.Sending.{sent}
use Rattle.emu_run.proofs.solo.run_to_end.Given as goal

abbrev pub invariant-loop : goal.invariant-loop
invariant-loop g l = record {
  one : OneLives l.run.core;
  ran : run (Some l.initial.run.core) l.run.journal.events ≡ Some l.run.core;
  turns : l.counter ≤ length l.run.journal.events;
  within : length l.run.journal.events ≤ l.initial.run.journal.budget;
  budget : l.run.journal.budget ≡ l.initial.run.journal.budget;
  count : length (devices_seen g.D.Device.left g.D.Device.held g.D.Device.failed_reads g.D.Device.failed_writes l.initial.run.board) ≡ length l.run.core.shared.files.devices;
  sent : devices_seen g.D.Device.left g.D.Device.held g.D.Device.failed_reads g.D.Device.failed_writes l.run.board ≡ sent (devices_seen g.D.Device.left g.D.Device.held g.D.Device.failed_reads g.D.Device.failed_writes l.initial.run.board) l.run.core.shared.files.devices;
  few : length l.run.core.shared.files.devices ≤ 8;
}
