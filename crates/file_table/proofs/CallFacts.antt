-- What is known after a call on the tree.
use Rattle.std.proofs.Common.{◌≡◌, ℕ, Bool, List, Result, Ok, Err, refl, sym, subst}
use Rattle.std.specs.Prelude.{IfOk, OnOk}
use Rattle.file_tree.specs.declared.errno.Errno.{Errno}
use Rattle.file_tree.specs.declared.fault.TreeFault.{TreeFault}
use Rattle.file_tree.specs.declared.fault.TreeFault.TheVariants as faults
use Rattle.file_tree.specs.declared.kind.Kind.{Kind}
use Rattle.file_tree.specs.Nodes.{Tree}
use Rattle.file_tree.specs.Answers.{Answers, AnswersAlways, IsMade, IsFilled, IsTaken}
use Rattle.file_tree.specs.Unlinking.{unlinked, unlinked_at}
use Rattle.file_tree.specs.Walk.{and_then, walked, spot_of}
use Rattle.file_table.specs.Paths.{with_tree}
use Rattle.file_table.specs.Sound.{IsSound}
use Rattle.file_table.specs.State.{Files}
use Rattle.file_table.proofs.SoundFacts.{tree_changed, all_held}

as_before : (files : Files) (tree : Tree) → IsSound files → tree ≡ files.tree → IsSound (with_tree tree files)
as_before files tree is same = subst (λ (t : Tree). IsSound (with_tree t files)) (sym same) is

-- an entry was made, or not
pub made_sound : (kind : Kind) (r : Result ℕ TreeFault) (due : Result Tree Errno) (files : Files) (tree : Tree) → IsSound files → Answers r due files.tree tree → IfOk r (λ inode. IsMade kind inode files.tree tree) → IsSound (with_tree tree files)
made_sound kind (Ok inode) due files tree is answers made = tree_changed files tree is made.sound made.holds (all_held files.tree tree made.kinds)
made_sound kind (Err (faults.Errno errno)) due files tree is answers made = as_before files tree is answers.1
made_sound kind (Err faults.Memory) due files tree is answers made = as_before files tree is answers.1

-- a file got other bytes, or not
pub filled_sound : {A : Type 0} (r : Result A TreeFault) (due : Result Tree Errno) (file : ℕ) (files : Files) (tree : Tree) → IsSound files → Answers r due files.tree tree → OnOk r (IsFilled file files.tree tree) → IsSound (with_tree tree files)
filled_sound (Ok value) due file files tree is answers filled = tree_changed files tree is filled.sound filled.holds (all_held files.tree tree filled.kinds)
filled_sound (Err (faults.Errno errno)) due file files tree is answers filled = as_before files tree is answers.1
filled_sound (Err faults.Memory) due file files tree is answers filled = as_before files tree is answers.1

found_by : (r : Result ℕ Errno) (go : ℕ → Result Tree Errno) (new : Tree) → and_then r go ≡ Ok new → (inode : ℕ) × (r ≡ Ok inode)
found_by (Ok inode) go new same = (inode, refl)
found_by (Err errno) go new same = absurd (let f : ⊥ = cc in f)

-- what was taken away was found
unlinked_found : (from : ℕ) (path : List ℕ) (wants : Bool) (old new : Tree) → unlinked from path wants old ≡ Ok new → (inode : ℕ) × (walked old from path ≡ Ok inode)
unfolding unlinked
unlinked_found from path wants old new same = found_by (walked old from path) (λ inode. and_then (spot_of old from path) (unlinked_at wants inode old)) new same

-- an entry was taken away, or not
pub taken_sound : {A : Type 0} (r : Result A Errno) (from : ℕ) (path : List ℕ) (wants : Bool) (files : Files) (tree : Tree) → IsSound files → AnswersAlways r (unlinked from path wants files.tree) files.tree tree
    → OnOk r ((inode : ℕ) → walked files.tree from path ≡ Ok inode → IsTaken inode files.tree tree) → IsSound (with_tree tree files)
taken_sound (Ok value) from path wants files tree is answers taken =
    let found : (inode : ℕ) × (walked files.tree from path ≡ Ok inode) = unlinked_found from path wants files.tree tree answers in
    let was = taken found.0 found.1 in
    tree_changed files tree is was.sound was.holds was.kinds
taken_sound (Err errno) from path wants files tree is answers taken = as_before files tree is answers.1
