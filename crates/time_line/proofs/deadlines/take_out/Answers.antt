use Rattle.std.proofs.Common.{rules, not}
use Rattle.std.proofs.lemmas.Fn.{filter_same}
use Rattle.time_line.specs.declared.timer.Deadline.{Deadline}
use Rattle.time_line.specs.Line.{is_of}
use Rattle.time_line.proofs.deadlines.take_out.Goals as goal

pub returns-clause-items : goal.returns-clause-items
returns-clause-items c = filter_same _ (λ (it : Deadline). not (is_of c.args.who it)) _ (λ x b f h. search rules) _ _ c.retain.ensures.filtered
