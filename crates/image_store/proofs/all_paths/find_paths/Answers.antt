-- The paths are closed under the entries of those so far.
use Rattle.std.proofs.Common.{◌≡◌, ◌<◌, length, arith}
use Rattle.image_store.proofs.AllPathFacts.{closed_all, closed_first, closed_next}
use Rattle.image_store.proofs.all_paths.find_paths.Goals as goal

pub loop-place-init : goal.loop-place-init
loop-place-init c =
    closed_first c.args.tree.now c.new-paths.result.items c.push_names.new.paths.items c.root-root.result c.root-root.ensures.sound c.root-root.ensures.root c.new-paths.ensures.items c.in_ok-push_names.ensures

pub returns-then-place-len : goal.returns-then-place-len
returns-then-place-len c =
    let end : c.loop-place.place ≡ length c.loop-place.paths.items = omega arith in
    closed_all c.args.tree.now c.loop-place.paths.items c.loop-place.place end c.loop-place.invariant

pub loop-place-preserved : goal.loop-place-preserved
loop-place-preserved c =
    let low : c.loop-place.place < length c.loop-place.paths.items = omega arith in
    closed_next c.args.tree.now c.loop-place.paths.items c.push_below.new.paths.items c.loop-place.place c.root-root.ensures.sound low c.loop-place.invariant c.in_ok-push_below.ensures
