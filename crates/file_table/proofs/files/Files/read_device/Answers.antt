-- The table stays sound.
use Rattle.std.proofs.Common.{◌<◌, length, sym, subst, ap, ◌∙◌}
use Rattle.std.proofs.lemmas.List.{get_or_default}
use Rattle.file_table.specs.declared.state.Device.{Device}
use Rattle.file_table.specs.Descriptors.{no_device}
use Rattle.file_table.specs.State.{Files}
use Rattle.file_table.proofs.SoundFacts.{device_changed}
use Rattle.file_table.proofs.files.Files.read_device.Goals as goal

pub invariant_of-self : goal.invariant_of-self
invariant_of-self c =
    let within : c.args.number < length c.self.inside.devices.items = subst (λ (f : Files). c.args.number < length f.devices) (sym c.self.view_is) c.requires in
    (device_changed _ c.args.number c.give_input.new.device c.self.invariant.0 (c.give_input.ensures.live ∙ ap (λ (d : Device). d.live) (c.index_mut.ensures.value ∙ get_or_default c.self.inside.devices.items c.args.number c.index_mut.result.now no_device within)), c.self.invariant.1)
