-- One device more stands.
use Rattle.std.proofs.Common.{◌+◌, ◌-◌, sym, ap, subst, ◌∙◌}
use Rattle.file_table.specs.Opening.{with_devices}
use Rattle.file_table.specs.Sound.{AreReady}
use Rattle.file_table.specs.State.{Files}
use Rattle.file_table.proofs.StartFacts.{ready_more, devices_more, devices_end}
use Rattle.file_table.proofs.files.Files.stand_all.Goals as goal

pub standing-preserved : goal.standing-preserved
standing-preserved c = record {
  ready = subst (λ (f : Files). AreReady (c.standing.device + 1) c.args.devices f) (sym c.stand.ensures) (ready_more c.standing.self c.standing.device c.args.devices c.standing.invariant.ready);
  same = ap (with_devices (c.standing.device + 1) (c.args.devices - (c.standing.device + 1))) c.stand.ensures ∙ (sym (devices_more c.standing.device c.args.devices c.standing.self c.standing-test.true) ∙ c.standing.invariant.same);
}

pub returns : goal.returns
returns c = sym (devices_end c.standing.device c.args.devices c.standing.self c.standing-test.false) ∙ c.standing.invariant.same
