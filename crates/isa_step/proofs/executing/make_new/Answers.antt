use Rattle.isa_step.proofs.KnownFacts.{found_is_known}
use Rattle.isa_step.proofs.executing.make_new.Goals as goal

pub returns-in-Ok-clause-known : goal.returns-in-Ok-clause-known
returns-in-Ok-clause-known c =
    c.keep.ensures c.args.memory.now c.requires (rw c.pc.ensures (found_is_known c.args.memory.now c.args.regs.now _ _ _ _ c.in-Ok.ensures.found c.in-Ok.ensures.range))
