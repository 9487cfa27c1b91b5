use Rattle.std.proofs.Common.{rules}
use Rattle.dev_board.proofs.board.take_at.Goals as goal

pub returns : goal.returns
returns g c = (c.in-Some.device, c.take.new.self, search rules, search rules, search rules)
