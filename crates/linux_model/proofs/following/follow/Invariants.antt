use Rattle.std.proofs.Common.{◌≡◌, Some, take}
use Rattle.linux_model.specs.Steps.{follow}
use Rattle.linux_model.proofs.following.follow.Given as goal

abbrev pub invariant-loop-index : goal.invariant-loop-index
invariant-loop-index l = follow (Some l.initial.process) (take l.index l.labels) ≡ Some l.process
