-- The root is a directory, and the tree keeps what every tree keeps.
use Rattle.std.proofs.Common.{refl}
use Rattle.file_tree.proofs.SoundFacts.{sound_view}
use Rattle.file_tree.proofs.StepFacts.{root_kind}
use Rattle.file_tree.proofs.tree.Tree.root.Goals as goal

pub returns-clause-kind : goal.returns-clause-kind
returns-clause-kind c = rw (← c.self.view_is) (root_kind _ _ _ _ c.self.invariant)

pub returns-clause-sound : goal.returns-clause-sound
returns-clause-sound c = sound_view c.args.self.now _ _ _ _ c.self.view_is c.self.invariant

pub returns-clause-there : goal.returns-clause-there
returns-clause-there c = rw (returns-clause-kind c) refl
