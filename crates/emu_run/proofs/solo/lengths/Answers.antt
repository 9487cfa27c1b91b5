use Rattle.std.proofs.Common.{◌≡◌, ◌≢◌, ap, arith, inl, inr, length, refl, ◌∙◌}
use Rattle.std.proofs.lemmas.Bool.{cases_lt}
use Rattle.std.proofs.lemmas.Grind.{get_or-set_at}
use Rattle.std.proofs.lemmas.List.{get_or-set_other, length-set}
use Rattle.emu_run.proofs.solo.lengths.Goals as goal

pub loop-device-preserved : goal.loop-device-preserved
loop-device-preserved c = record {
  size = length-set c.loop-device.lengths c.loop-device.device (length c.output.result.now) ∙ c.loop-device.invariant.size;
  known = λ k within. elim (cases_lt k c.loop-device.device) [
    | inl less ↦
        let apart : k ≢ c.loop-device.device = λ same. omega (arith, same, less) in
        get_or-set_other c.loop-device.lengths c.loop-device.device k (length c.output.result.now) 0 apart ∙ c.loop-device.invariant.known k less
    | inr most ↦
        let same : k ≡ c.loop-device.device = omega (arith, within, most) in
        rw same (get_or-set_at c.loop-device.lengths c.loop-device.device c.loop-device.device (length c.output.result.now) 0 refl (omega (arith, c.loop-device.invariant.size, c.loop-device-test.true, c.devices-device-end.ensures, c.requires)) ∙ ap length c.output.ensures)
  ];
}
