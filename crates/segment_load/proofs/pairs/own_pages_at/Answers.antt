use Rattle.segment_load.proofs.CountFacts.{apart_behind, pages_behind}
use Rattle.segment_load.proofs.pairs.own_pages_at.Goals as goal

pub own_pages-requires : goal.own_pages-requires
own_pages-requires c = apart_behind c.args.segments.now c.args.place c.index-segments-place.result c.requires.within c.index-segments-place.is c.requires.apart

pub returns : goal.returns
returns c = pages_behind c.args.segments.now c.args.place c.own_pages.result c.index-segments-place.result c.requires.within c.index-segments-place.is c.own_pages.ensures
