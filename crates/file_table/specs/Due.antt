-- What a call on files answers, and what it leaves.
-- The project's own.
use Rattle.std.specs.Prelude.{◌≡◌, ℕ, ◌≤◌, List, length, take, drop, Result, Ok, Err, IsOk, Option, Some, None}
use Rattle.file_tree.specs.declared.errno.Errno.{Errno}
use Rattle.file_table.specs.declared.fault.FileFault.{FileFault}
use Rattle.file_table.specs.declared.fault.FileFault.TheVariants as faults
use Rattle.file_tree.specs.Nodes.{Tree}
use Rattle.file_table.specs.State.{Files}

-- what a call leaves, and its answer
pub record Done (A : Type 0) : Type 0 where
  pub files : Files
  pub answer : A

abbrev pub done : {A : Type 0} → Files → A → Done A
done files answer = record { files = files; answer = answer }

-- a refusal goes before the rest
abbrev pub unless : {A : Type 0} → Option Errno → Result A Errno → Result A Errno
unless None rest = rest
unless (Some errno) rest = Err errno

abbrev pub and_then : {A B : Type 0} → Result A Errno → (A → Result B Errno) → Result B Errno
and_then (Err errno) go = Err errno
and_then (Ok value) go = go value

-- what is due, or the errno that is due; after an errno, and after want of memory, all is as before
abbrev pub Answers : {A : Type 0} → Result A FileFault → Result (Done A) Errno → Files → Files → Type 0
Answers (Ok value) due old new = due ≡ Ok (done new value)
Answers (Err (faults.Errno errno)) due old new = (due ≡ Err errno) × (new ≡ old)
Answers (Err faults.Block) due old new = ⊥
Answers (Err faults.Memory) due old new = IsOk due × (new ≡ old)

-- the same of a call that takes no memory
abbrev pub AnswersAlways : {A : Type 0} → Result A Errno → Result (Done A) Errno → Files → Files → Type 0
AnswersAlways (Ok value) due old new = due ≡ Ok (done new value)
AnswersAlways (Err errno) due old new = (due ≡ Err errno) × (new ≡ old)

-- the same of a call that answers nothing
abbrev pub Leaves : {A : Type 0} → Result A FileFault → Result Files Errno → Files → Files → Type 0
Leaves (Ok value) due old new = due ≡ Ok new
Leaves (Err (faults.Errno errno)) due old new = (due ≡ Err errno) × (new ≡ old)
Leaves (Err faults.Block) due old new = ⊥
Leaves (Err faults.Memory) due old new = IsOk due × (new ≡ old)

abbrev pub LeavesAlways : {A : Type 0} → Result A Errno → Result Files Errno → Files → Files → Type 0
LeavesAlways (Ok value) due old new = due ≡ Ok new
LeavesAlways (Err errno) due old new = (due ≡ Err errno) × (new ≡ old)

-- the same of a helper that changes the tree alone
abbrev pub LeavesTree : {A : Type 0} → Result A FileFault → Result Tree Errno → Files → Files → Type 0
LeavesTree (Ok value) due old new =
    (due ≡ Ok new.tree) × (new ≡ record { tree = new.tree; descriptors = old.descriptors; descriptions = old.descriptions; devices = old.devices; pipes = old.pipes })
LeavesTree (Err (faults.Errno errno)) due old new = (due ≡ Err errno) × (new ≡ old)
LeavesTree (Err faults.Block) due old new = ⊥
LeavesTree (Err faults.Memory) due old new = IsOk due × (new ≡ old)

-- the same of a call that may wait
abbrev pub Moves : {A : Type 0} → Result A FileFault → Result (Done A) FileFault → Files → Files → Type 0
Moves (Ok value) due old new = due ≡ Ok (done new value)
Moves (Err (faults.Errno errno)) due old new = (due ≡ Err (faults.Errno errno)) × (new ≡ old)
Moves (Err faults.Block) due old new = (due ≡ Err faults.Block) × (new ≡ old)
Moves (Err faults.Memory) due old new = IsOk due × (new ≡ old)

-- a buffer whose first bytes, so many, are new, and whose rest is as before
abbrev pub RestStays : ℕ → List ℕ → List ℕ → Type 0
RestStays count before after = (count ≤ length before) × (drop count after ≡ drop count before)

-- the answer is how many bytes there are, and the buffer begins with them; after a refusal, and where the call waits, files
-- and buffer are as before
abbrev pub Reads : Result ℕ FileFault → Result (Done (List ℕ)) FileFault → List ℕ → List ℕ → Files → Files → Type 0
Reads (Ok count) due before after old new = (due ≡ Ok (done new (take count after))) × RestStays count before after
Reads (Err (faults.Errno errno)) due before after old new = (due ≡ Err (faults.Errno errno)) × (after ≡ before) × (new ≡ old)
Reads (Err faults.Block) due before after old new = (due ≡ Err faults.Block) × (after ≡ before) × (new ≡ old)
Reads (Err faults.Memory) due before after old new = ⊥

-- the same of a call that leaves the files as they are
abbrev pub ReadsAlways : Result ℕ Errno → Result (List ℕ) Errno → List ℕ → List ℕ → Type 0
ReadsAlways (Ok count) due before after = (due ≡ Ok (take count after)) × RestStays count before after
ReadsAlways (Err errno) due before after = (due ≡ Err errno) × (after ≡ before)

-- the same of a call that may want memory, and leaves all as before then
abbrev pub Lists : Result ℕ FileFault → Result (Done (List ℕ)) Errno → List ℕ → List ℕ → Files → Files → Type 0
Lists (Ok count) due before after old new = (due ≡ Ok (done new (take count after))) × RestStays count before after
Lists (Err (faults.Errno errno)) due before after old new = (due ≡ Err errno) × (after ≡ before) × (new ≡ old)
Lists (Err faults.Block) due before after old new = ⊥
Lists (Err faults.Memory) due before after old new = (after ≡ before) × (new ≡ old)
