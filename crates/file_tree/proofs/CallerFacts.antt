-- What a caller concludes of the inodes that it knows.
use Rattle.std.proofs.Common.{◌≡◌, ℕ, ◌<◌, Option, Some, None, IsSome, refl}
use Rattle.file_tree.specs.declared.kind.Kind.{Kind}
use Rattle.file_tree.specs.Nodes.{Tree, Has, kind_in, holds_in}
use Rattle.file_tree.specs.Answers.{KindsStay, HeldStay}
use Rattle.file_tree.proofs.TreeFacts.{is_some_from}

stays_by : (old new : Option Kind) → ((kind : Kind) → old ≡ Some kind → new ≡ Some kind) → IsSome old → IsSome new
stays_by None new stay has = absurd (let f : ⊥ = cc in f)
stays_by (Some kind) new stay has = is_some_from new kind (stay kind refl)

-- what is in the tree stays there where kinds stay
pub has_stays : (old new : Tree) (inode : ℕ) → KindsStay old new → Has old inode → Has new inode
has_stays old new inode stay has = stays_by (kind_in old inode) (kind_in new inode) (stay inode) has

-- what is held stays in the tree whatever is taken away
pub held_has_stays : (old new : Tree) (inode : ℕ) → HeldStay old new → 0 < holds_in old inode → Has old inode → Has new inode
held_has_stays old new inode stay held has = stays_by (kind_in old inode) (kind_in new inode) (λ kind same. stay inode kind held same) has
