-- The paths that were found, sorted, and each once.
use Rattle.std.proofs.Common.{rules, tests}
use Rattle.std.specs.Ordering.{nat_cmp, is_lt, eq_by_cmp}
use Rattle.std.specs.Cmp.Lexicographic.{slice_cmp}
use Rattle.std.proofs.lemmas.Cmp.{nat_list_cmp_total}
use Rattle.std.proofs.lemmas.Fn.{always_returns_same, dedup_same}
use Rattle.std.proofs.lemmas.List.Sorted.{ranks_by}
use Rattle.image_store.proofs.AllPathFacts.{sorted_all}
use Rattle.image_store.proofs.all_paths.all_paths.Goals as goal

pub returns : goal.returns
returns c =
    sorted_all c.args.tree.now _ _ _ c.in_ok-paths.ensures c.sort_by.ensures.permutation
    (c.in_ok-sort_by.ensures.sorted (λ x y. is_lt (slice_cmp nat_cmp x y)) (ranks_by nat_list_cmp_total (λ x. x)) (always_returns_same _ _ _ (λ a r q k. search (rules, tests))))
    (dedup_same _ (eq_by_cmp (slice_cmp nat_cmp)) _ (λ x y b f' x' y' k. search (rules, tests)) _ _ c.dedup_by.ensures.filtered)
