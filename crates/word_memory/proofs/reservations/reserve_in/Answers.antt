use Rattle.std.proofs.Common.{◌<◌, length, arith}
use Rattle.std.proofs.lemmas.List.{get_or_default}
use Rattle.std.proofs.lemmas.List.Edits.{map_over_more}
use Rattle.word_memory.specs.declared.reservations.Held.{Held}
use Rattle.word_memory.specs.Reservations.{with_reservation, reserving}
use Rattle.word_memory.proofs.Mapped.{all_mapped}
use Rattle.word_memory.proofs.reservations.reserve_in.Goals as goal

pub loop-held-preserved : goal.loop-held-preserved
loop-held-preserved c =
    let within : c.loop-held.held-index < length c.args.all.now = omega arith in
    let inside : c.loop-held.held-index < length c.loop-held.all = omega arith in
    rw c.with_reserved.ensures (map_over_more (λ (h : Held). with_reservation c.args.thread c.args.reserved h) c.args.all.now c.loop-held.all c.loop-held.held-index _ within c.loop-held.invariant (get_or_default c.loop-held.all c.loop-held.held-index _ _ inside))

pub returns : goal.returns
unfolding reserving
returns c = all_mapped (λ (h : Held). with_reservation c.args.thread c.args.reserved h) c.args.all.now c.loop-held.all c.loop-held.held-index (omega arith) c.loop-held.invariant
