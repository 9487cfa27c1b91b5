use Rattle.time_line.proofs.LineFacts.{deadline_set}
use Rattle.time_line.proofs.SoundFacts.{sound_set}
use Rattle.time_line.proofs.line.TimeLine.set.Goals as goal

pub invariant_of-self-2 : goal.invariant_of-self-2
invariant_of-self-2 c = rw (c.put.ensures, c.take_out.ensures.items, c.in_ok-make_room.ensures.items) (sound_set c.args.who c.args.at c.self.inside.deadlines.items c.self.invariant)

pub returns-clause-deadlines : goal.returns-clause-deadlines
returns-clause-deadlines c = λ other. rw (c.put.ensures, c.take_out.ensures.items, c.in_ok-make_room.ensures.items, c.self.view_is) (deadline_set c.args.who c.args.at other c.args.self.now)
