-- A copy keeps what every tree keeps.
use Rattle.file_tree.proofs.SoundFacts.{sound_whole}
use Rattle.file_tree.proofs.tree.Tree.copy.Goals as goal

pub returns-clause-sound : goal.returns-clause-sound
returns-clause-sound c = rw c.in_ok-clone.ensures.cases (sound_whole c.self.inside.nodes c.self.inside.next c.self.inside.count c.self.inside.bytes c.self.invariant)
