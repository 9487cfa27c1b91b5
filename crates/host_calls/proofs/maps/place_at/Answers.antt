use Rattle.std.proofs.Common.{◌*◌, List, length, ap, ◌∙◌}
use Rattle.guest_pages.specs.Faults.{first_fault}
use Rattle.guest_pages.specs.Ranges.{Range}
use Rattle.host_calls.proofs.FillFacts.{placed_good}
use Rattle.host_calls.proofs.maps.place_at.Goals as goal

pub fill_pages-requires-clause-good : goal.fill_pages-requires-clause-good
fill_pages-requires-clause-good c = λ some.
    ap (λ (m : List Range). first_fault c.args.rights m c.args.at (length c.args.bytes.now)) c.in-Ok.ensures.ok
    ∙ placed_good c.args.at (4096 * c.args.count) (length c.args.bytes.now) c.args.rights c.args.pages.now c.requires.inside c.requires.fits
