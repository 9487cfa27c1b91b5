use Rattle.std.proofs.Common.{rules}
use Rattle.dev_board.proofs.board.Board.pump_in.Goals as goal

pub returns-in-Ok : goal.returns-in-Ok
returns-in-Ok g c = let e = c.give_at.ensures in (e.0, e.1, record { there = search rules; changed = search rules }, search rules)

pub returns-in-Err : goal.returns-in-Err
returns-in-Err g c = let e = c.give_at.ensures in (e.0, e.1, record { there = search rules; changed = search rules }, search rules)
