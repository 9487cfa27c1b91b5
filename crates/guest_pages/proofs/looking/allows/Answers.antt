use Rattle.std.proofs.Common.{◌≡◌, Option, ap, sym, ◌∙◌, arith, ◌<◌, ◌^◌}
use Rattle.guest_pages.specs.declared.fault.PageFault.{PageFault}
use Rattle.guest_pages.specs.Faults.{first_fault, answer_or}
use Rattle.guest_pages.specs.Tables.{held}
use Rattle.guest_pages.proofs.FaultFacts.{page_good, page_bad, page_next, good_below}
use Rattle.guest_pages.proofs.looking.allows.Goals as goal

pub returns-in-Some : goal.returns-in-Some
returns-in-Some c =
    sym (ap (λ (o : Option PageFault). answer_or o tt)
    (c.loop-left.invariant ∙ page_bad c.args.needed c.args.tables.now c.loop-left.place c.loop-left.left c.in-Some.fault c.requires (omega arith) cc))

pub returns-then-left-room : goal.returns-then-left-room
returns-then-left-room c =
    sym (ap (λ (o : Option PageFault). answer_or o tt)
    (c.loop-left.invariant ∙ page_good c.args.needed c.args.tables.now c.loop-left.place c.loop-left.left c.requires (cc) (omega arith)))

pub overflow_add-place : goal.overflow_add-place
overflow_add-place c =
    let below : c.loop-left.place < 2 ^ 38 = good_below c.args.needed c.args.tables.now c.loop-left.place c.requires cc in
    omega arith

pub loop-left-preserved : goal.loop-left-preserved
loop-left-preserved c =
    c.loop-left.invariant ∙ page_next c.args.needed c.args.tables.now c.loop-left.place c.loop-left.left c.requires (cc) (omega arith)

pub returns : goal.returns
unfolding first_fault
returns c =
    let e : c.loop-left.left ≡ 0 = omega arith in
    sym (ap (λ (o : Option PageFault). answer_or o tt)
    (c.loop-left.invariant ∙ ap (first_fault c.args.needed (held c.args.tables.now) c.loop-left.place) e))
