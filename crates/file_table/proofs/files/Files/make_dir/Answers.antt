-- The table stays sound.
use Rattle.file_table.proofs.CallFacts.{made_sound}
use Rattle.file_table.proofs.files.Files.make_dir.Goals as goal

pub invariant_of-self : goal.invariant_of-self
invariant_of-self c = (made_sound _ c.create_dir.result _ (record { tree = c.self.inside.tree; descriptors = c.self.inside.descriptors.items; descriptions = c.self.inside.descriptions.items; devices = c.self.inside.devices.items; pipes = c.self.inside.pipes.items }) c.create_dir.new.self c.self.invariant.0 c.create_dir.ensures.answers c.create_dir.ensures.made, c.self.invariant.1)
