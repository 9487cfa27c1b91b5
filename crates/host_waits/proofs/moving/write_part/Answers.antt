use Rattle.std.proofs.Common.{◌≡◌, ◌-◌, ap, ◌∙◌, arith}
use Rattle.host_calls.specs.Pieces.{total}
use Rattle.host_waits.specs.Moving.{past}
use Rattle.host_waits.specs.Waits.{Wait}
use Rattle.host_waits.proofs.PartFacts.{total_cut, total_past}
use Rattle.host_waits.proofs.moving.write_part.Goals as goal

pub write_from-requires : goal.write_from-requires
write_from-requires c =
    let part = ap total (c.as_slice-3.ensures.value ∙ c.in_ok-part.ensures) in
    let few = total_cut c.args.room c.as_slice.result.now in
    let all = ap (λ (wait : Wait). total wait.pieces) c.wait.view_is in
    omega (arith, part, few, all, c.requires, c.wait.invariant.1)

pub invariant_of-wait : goal.invariant_of-wait
invariant_of-wait c =
    let rest : total c.in_ok-rest.rest.items ≡ total c.wait.inside.pieces.items - c.args.room = ap total (c.in_ok-rest.ensures ∙ ap (past c.args.room) c.as_slice-2.ensures.value) ∙ total_past c.args.room c.wait.inside.pieces.items in
    let all = ap (λ (wait : Wait). total wait.pieces) c.wait.view_is in
    (omega (arith, rest, c.wait.invariant.0), omega (arith, rest, all, c.requires, c.wait.invariant.1), c.wait.invariant.2)
