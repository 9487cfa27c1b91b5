use Rattle.std.proofs.Common.{sym, subst}
use Rattle.guest_pages.specs.Mapping.{IsZero}
use Rattle.guest_pages.proofs.MapFacts.{zeros}
use Rattle.guest_pages.proofs.fresh.fresh_page.Goals as goal

pub returns : goal.returns
returns c = subst IsZero (sym c.in_ok-page.ensures.ok) (zeros 4096)
