use Rattle.std.proofs.Common.{◌≡◌, drop}
use Rattle.time_line.specs.Line.{deadline}
use Rattle.time_line.proofs.deadlines.deadline_in.Given as goal

abbrev pub invariant-looking : goal.invariant-looking
invariant-looking l = deadline l.who l.line ≡ deadline l.who (drop l.place l.line)
