use Rattle.std.proofs.Common.{length}
use Rattle.host_waits.proofs.moving.+push_part.Given as goal

abbrev pub decreases-push_part : goal.decreases-push_part
decreases-push_part l = length l.pieces.now
