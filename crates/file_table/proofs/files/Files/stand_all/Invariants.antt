use Rattle.std.proofs.Common.{◌≡◌, ◌-◌}
use Rattle.file_table.specs.Opening.{with_devices}
use Rattle.file_table.specs.Sound.{AreReady}
use Rattle.file_table.proofs.files.Files.stand_all.Given as goal

abbrev pub invariant-standing : goal.invariant-standing
invariant-standing l = record {
  ready : AreReady l.device l.devices l.self;
  same : with_devices l.device (l.devices - l.device) l.self ≡ with_devices l.first (l.devices - l.first) l.initial.self;
}

abbrev pub decreases-standing : goal.decreases-standing
decreases-standing l = l.devices - l.device
