-- The root alone is a tree.
use Rattle.file_tree.proofs.CallFacts.{new_whole}
use Rattle.file_tree.proofs.SoundFacts.{sound_whole}
use Rattle.file_tree.proofs.tree.Tree.new.Goals as goal

pub invariant_of-result : goal.invariant_of-result
invariant_of-result c = new_whole c.in_ok-new.field-0 c.in_ok-new.ensures

pub returns-clause-sound : goal.returns-clause-sound
returns-clause-sound c = sound_whole c.in_ok-new.field-0 2 1 0 (new_whole c.in_ok-new.field-0 c.in_ok-new.ensures)
