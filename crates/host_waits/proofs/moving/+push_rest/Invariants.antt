use Rattle.std.proofs.Common.{length}
use Rattle.host_waits.proofs.moving.+push_rest.Given as goal

abbrev pub decreases-push_rest : goal.decreases-push_rest
decreases-push_rest l = length l.pieces.now
