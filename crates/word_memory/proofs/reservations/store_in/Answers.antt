use Rattle.std.proofs.Common.{◌<◌, length, arith}
use Rattle.std.proofs.lemmas.List.{get_or_default}
use Rattle.std.proofs.lemmas.List.Edits.{map_over_more}
use Rattle.word_memory.specs.declared.reservations.Held.{Held}
use Rattle.word_memory.specs.Reservations.{after_store, stored_to}
use Rattle.word_memory.proofs.Mapped.{all_mapped}
use Rattle.word_memory.proofs.reservations.store_in.Goals as goal

pub loop-held-preserved : goal.loop-held-preserved
loop-held-preserved c =
    let within : c.loop-held.held-index < length c.args.all.now = omega arith in
    let inside : c.loop-held.held-index < length c.loop-held.all = omega arith in
    rw c.left_by_store.ensures (map_over_more (λ (h : Held). after_store c.args.thread c.args.start c.args.length h) c.args.all.now c.loop-held.all c.loop-held.held-index _ within c.loop-held.invariant (get_or_default c.loop-held.all c.loop-held.held-index _ _ inside))

pub returns : goal.returns
unfolding stored_to
returns c = all_mapped (λ (h : Held). after_store c.args.thread c.args.start c.args.length h) c.args.all.now c.loop-held.all c.loop-held.held-index (omega arith) c.loop-held.invariant
