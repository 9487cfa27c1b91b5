use Rattle.std.proofs.Common.{sym, ◌∙◌}
use Rattle.host_calls.proofs.Places.{place_aligned, place_inside}
use Rattle.host_calls.proofs.maps.place_anywhere.Goals as goal

pub place_at-requires-clause-aligned : goal.place_at-requires-clause-aligned
place_at-requires-clause-aligned c = place_aligned c.args.pages.now c.args.count c.in-Some.at (sym c.find_free.ensures ∙ c.in-Some.is)

pub place_at-requires-clause-inside : goal.place_at-requires-clause-inside
place_at-requires-clause-inside c = place_inside c.args.pages.now c.args.count c.in-Some.at (sym c.find_free.ensures ∙ c.in-Some.is)
