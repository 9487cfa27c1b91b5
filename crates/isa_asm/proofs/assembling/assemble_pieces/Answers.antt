use Rattle.std.proofs.Common.{true, false}
use Rattle.isa_asm.specs.Seen.{places_seen}
use Rattle.isa_asm.proofs.StepFacts.{data_step, fault_here, fault_none, fault_step, section_done, text_step}
use Rattle.isa_asm.proofs.assembling.assemble_pieces.Goals as goal

pub returns-in-Err-clause-err : goal.returns-in-Err-clause-err
returns-in-Err-clause-err c = λ other.
    fault_here (places_seen c.args.labels.now) _ c.loop-index.index c.loop-index.layout c.args.pieces.now _ c.in-Err.cause c.loop-index-test.true c.in-Err.ensures.err c.loop-index.invariant.fault

pub loop-index-preserved : goal.loop-index-preserved
loop-index-preserved c = record {
  fault = fault_step (places_seen c.args.labels.now) _ c.loop-index.index c.loop-index.layout c.in-Ok.next c.args.pieces.now _ _ c.loop-index-test.true c.in-Ok.ensures.ok c.in-Ok.ensures.next c.loop-index.invariant.fault;
  text = text_step (places_seen c.args.labels.now) _ c.loop-index.index c.loop-index.layout c.in-Ok.next c.args.pieces.now _ _ c.loop-index.sections.text.items _ c.loop-index-test.true c.in-Ok.ensures.ok c.in-Ok.ensures.next c.in-Ok-push.ensures.text c.loop-index.invariant.text;
  data_bytes = data_step (places_seen c.args.labels.now) _ c.loop-index.index c.loop-index.layout c.in-Ok.next c.args.pieces.now _ _ c.loop-index.sections.data_bytes.items _ c.loop-index-test.true c.in-Ok.ensures.ok c.in-Ok.ensures.next c.in-Ok-push.ensures.data_bytes c.loop-index.invariant.data_bytes;
}

pub returns-clause-faultless : goal.returns-clause-faultless
returns-clause-faultless c =
    fault_none (places_seen c.args.labels.now) _ c.loop-index.index c.loop-index.layout c.args.pieces.now c.loop-index-test.false c.loop-index.invariant.fault

pub returns-clause-text : goal.returns-clause-text
returns-clause-text c =
    section_done false (places_seen c.args.labels.now) _ c.loop-index.index c.loop-index.layout c.args.pieces.now c.loop-index.sections.text.items c.loop-index-test.false c.loop-index.invariant.text

pub returns-clause-data_bytes : goal.returns-clause-data_bytes
returns-clause-data_bytes c =
    section_done true (places_seen c.args.labels.now) _ c.loop-index.index c.loop-index.layout c.args.pieces.now c.loop-index.sections.data_bytes.items c.loop-index-test.false c.loop-index.invariant.data_bytes
