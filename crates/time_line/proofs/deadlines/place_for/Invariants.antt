use Rattle.std.proofs.Common.{◌≡◌, ◌++◌, take, drop}
use Rattle.time_line.specs.Line.{placed}
use Rattle.time_line.proofs.deadlines.place_for.Given as goal

abbrev pub invariant-looking : goal.invariant-looking
invariant-looking l = placed l.deadline l.line ≡ take l.place l.line ++ placed l.deadline (drop l.place l.line)
