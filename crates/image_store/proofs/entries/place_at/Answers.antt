-- The closure compares an entry's path with the one that is looked for.
use Rattle.std.proofs.Common.{rules, tests}
use Rattle.std.specs.Ordering.{nat_cmp}
use Rattle.std.specs.Cmp.Lexicographic.{slice_cmp}
use Rattle.std.proofs.lemmas.Fn.{always_returns_same}
use Rattle.image_store.proofs.entries.place_at.Goals as goal

pub returns-clause-position : goal.returns-clause-position
returns-clause-position c =
    c.binary_search_by.ensures.position (λ entry. slice_cmp nat_cmp entry.path c.args.path.now)
    (always_returns_same _ _ _ (λ a r q k. search (rules, tests)))
