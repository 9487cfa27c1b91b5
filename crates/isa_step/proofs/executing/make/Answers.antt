use Rattle.std.proofs.Common.{◌≡◌, List, Result, Ok, Err, OnErr, ◌∙◌, refl}
use Rattle.isa_exec.specs.Registers.{Registers}
use Rattle.guest_pages.specs.Ranges.{Range}
use Rattle.word_memory.specs.declared.reservations.Held.{Held}
use Rattle.isa_step.specs.declared.executing.Made.{Made}
use Rattle.isa_step.specs.declared.fault.Fault.{Fault}
use Rattle.isa_step.proofs.EffectFacts.{kept_by_call, kept_by_fault}
use Rattle.isa_step.proofs.executing.make.Goals as goal

pub returns-clause-call : goal.returns-clause-call
returns-clause-call c = λ is.
    let kept = c.carry_out.ensures.call is in
    let made = rw is at c.carry_out.ensures.made in
    (kept.0 ∙ kept_by_call c.args.thread c.args.instr.now c.args.size c.args.regs.now _ _ c.args.memory.now c.args.held.now c.exec-effect.ensures.effect c.exec-effect.ensures.regs made, kept.1, kept.2)

faults_by : (result : Result Made Fault) (old exec new : Registers) (memory left : List Range) (held other : List Held) → ((fault : Fault) → result ≡ Err fault → exec ≡ old) → OnErr result ((new ≡ exec) × (left ≡ memory) × (other ≡ held)) → OnErr result ((new ≡ old) × (left ≡ memory) × (other ≡ held))
faults_by (Ok made) old exec new memory left held other kept err = err
faults_by (Err fault) old exec new memory left held other kept err = (err.0 ∙ kept fault refl, err.1, err.2)

pub returns-clause-err : goal.returns-clause-err
returns-clause-err c = faults_by c.carry_out.result c.args.regs.now _ _ _ _ _ _
    (λ (fault : Fault) is. kept_by_fault c.args.thread c.args.instr.now c.args.size c.args.regs.now _ _ c.args.memory.now c.args.held.now fault c.exec-effect.ensures.effect c.exec-effect.ensures.regs (rw is at c.carry_out.ensures.fault))
    c.carry_out.ensures.err
