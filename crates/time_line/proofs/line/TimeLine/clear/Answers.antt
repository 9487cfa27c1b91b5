use Rattle.time_line.proofs.LineFacts.{deadline_cleared}
use Rattle.time_line.proofs.SoundFacts.{sound_cleared}
use Rattle.time_line.proofs.line.TimeLine.clear.Goals as goal

pub invariant_of-self : goal.invariant_of-self
invariant_of-self c = rw c.take_out.ensures.items (sound_cleared c.args.who c.self.inside.deadlines.items c.self.invariant)

pub returns-clause-deadlines : goal.returns-clause-deadlines
returns-clause-deadlines c = λ other. rw (c.take_out.ensures.items, c.self.view_is) (deadline_cleared c.args.who other c.args.self.now)
