use Rattle.std.proofs.Common.{◌∙◌, refl}
use Rattle.isa_step.proofs.KnownFacts.{known_stays}
use Rattle.isa_step.proofs.RunFacts.{one_more}
use Rattle.isa_step.proofs.StayFacts.{instruction_stays}
use Rattle.isa_step.proofs.running.run_plain.Goals as goal

pub loop-made-preserved : goal.loop-made-preserved
loop-made-preserved c =
    let made = c.if-not-make_plain.ensures.made refl in
    let stays = instruction_stays c.args.thread c.loop-made.regs c.make_plain.new.regs c.loop-made.memory c.make_plain.new.memory c.loop-made.held c.make_plain.new.held c.loop-made.invariant.apart made in
    record {
      ran = one_more c.loop-made.made c.args.thread c.args.regs.now c.loop-made.regs c.make_plain.new.regs c.args.memory.now c.loop-made.memory c.make_plain.new.memory c.args.held.now c.loop-made.held c.make_plain.new.held c.loop-made.invariant.ran made;
      code = λ a. stays.code a ∙ c.loop-made.invariant.code a;
      apart = stays.apart;
      known = known_stays c.loop-made.memory c.make_plain.new.memory c.make_plain.new.decoder stays.code c.make_plain.ensures.known;
    }
