-- The spot by the names of the path.
use Rattle.std.proofs.Common.{◌≡◌, Result, Ok, Err, sym, subst}
use Rattle.std.specs.Prelude.{MatchResult}
use Rattle.file_tree.specs.declared.errno.Errno.{Errno}
use Rattle.file_tree.specs.Walk.{Spot, spot_of}
use Rattle.file_tree.proofs.WalkFacts.{refused_spot, spots, spot_plain, plain_from}
use Rattle.file_tree.proofs.tree.Tree.spot.Goals as goal

pub returns-in-Some-clause-spot : goal.returns-in-Some-clause-spot
returns-in-Some-clause-spot c = refused_spot c.args.self.now c.args.from c.args.path.now c.in-Some.errno (sym c.in-Some.ensures)

pub returns-in-None-clause-spot : goal.returns-in-None-clause-spot
returns-in-None-clause-spot c =
    subst (λ (x : Result Spot Errno). MatchResult c.spot.result (λ spot. x ≡ Ok (record { at = spot.0; name = spot.1.now })) (λ errno. x ≡ Err errno))
    (sym (spots c.args.self.now c.self.inside.nodes c.self.inside.next c.args.from c.start.result c.args.path.now c.self.view_is c.start.ensures (sym c.in-None.ensures))) c.spot.ensures

pub returns-in-None-clause-plain : goal.returns-in-None-clause-plain
returns-in-None-clause-plain c =
    plain_from c.spot.result (λ spot. spot.0) (λ spot. spot.1.now) (spot_of c.args.self.now c.args.from c.args.path.now) (returns-in-None-clause-spot c) (spot_plain c.args.self.now c.args.from c.args.path.now)
