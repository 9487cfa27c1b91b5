use Rattle.std.proofs.Common.{sym, ◌∙◌}
use Rattle.host_calls.specs.Pieces.{gathered}
use Rattle.host_waits.proofs.PartFacts.{length_gathered}
use Rattle.host_waits.proofs.moving.is_write_late.Goals as goal

-- it is asked by how many bytes there are
pub returns : goal.returns
returns c =
    sym (c.write_waits.ensures (gathered c.args.host.now.pages c.args.pieces.now) (length_gathered c.args.host.now.pages c.args.pieces.now ∙ sym c.requires))
