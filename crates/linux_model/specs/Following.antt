-- Where a list of labels stops being followed.
use Rattle.std.specs.Prelude.{◌≡◌, ℕ, ◌+◌, ◌<◌, None, Some, List, length, take}
use Rattle.linux_model.specs.declared.following.FollowFault.{FollowFault}
use Rattle.linux_model.specs.declared.following.FollowFault.TheVariants.{NotAllowed, Memory}
use Rattle.linux_model.specs.declared.labels.Label.{Label}
use Rattle.linux_model.specs.Process.{ProcessState}
use Rattle.linux_model.specs.Steps.{follow}

-- the labels before the index are a run, and that at the index isn't allowed after them
pub record StopsAt (start : ProcessState) (labels : List Label) (index : ℕ) : Type 0 where
  pub within : index < length labels
  pub last : ProcessState
  pub before : follow (Some start) (take index labels) ≡ Some last
  pub refused : follow (Some start) (take (index + 1) labels) ≡ None

-- for want of memory the labels are followed no further than some label that is allowed
pub record Wants (start : ProcessState) (labels : List Label) : Type 0 where
  pub index : ℕ
  pub within : index < length labels
  pub allowed : follow (Some start) (take (index + 1) labels) ≡ None → ⊥

-- the fault of a list of labels
abbrev pub IsStopped : ProcessState → List Label → FollowFault → Type 0
IsStopped start labels (NotAllowed index) = StopsAt start labels index
IsStopped start labels Memory = Wants start labels
