-- Each part of a path is looked at.
use Rattle.std.proofs.Common.{◌∙◌, ap, rules, tests, lit<}
use Rattle.std.specs.List.{list_all}
use Rattle.std.proofs.lemmas.Iterator.Search.{all_from_yields_List}
use Rattle.std.proofs.lemmas.Iterator.Splits.{YieldsList-from_str_split}
use Rattle.image_store.specs.Listing.{is_name}
use Rattle.image_store.proofs.PieceFacts.{same_pieces}
use Rattle.image_store.proofs.listing.are_names.Goals as goal

pub returns : goal.returns
returns c =
    all_from_yields_List is_name _ _ _ c.all.ensures.ran (YieldsList-from_str_split 47 c.args.path.now (lit< tt) c.split.ensures.text c.split.ensures.has_more c.split.ensures.pattern) (λ x b q k. search (rules, tests))
    ∙ ap (list_all is_name) (same_pieces c.args.path.now)
