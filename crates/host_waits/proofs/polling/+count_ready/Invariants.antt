use Rattle.std.proofs.Common.{length}
use Rattle.host_waits.proofs.polling.+count_ready.Given as goal

abbrev pub decreases-count_ready : goal.decreases-count_ready
decreases-count_ready l = length l.entries.now
