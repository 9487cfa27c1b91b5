-- The first name and what is behind it.
use Rattle.std.proofs.Common.{sym}
use Rattle.file_tree.proofs.PathFacts.{cut_first, within_rest, without_names}
use Rattle.file_tree.proofs.path.first_name.Goals as goal

pub split_at-requires : goal.split_at-requires
split_at-requires c = within_rest c.args.path.now c.in-Some.start c.name_length.result c.name_length.ensures

pub returns-in-Some : goal.returns-in-Some
returns-in-Some c =
    cut_first c.args.path.now c.split_at.result.0.now c.split_at.result.1.now c.in-Some.start c.name_length.result (sym c.in-Some.ensures) c.name_length.ensures
    c.split_at.ensures.front c.split_at.ensures.back

pub returns-in-None : goal.returns-in-None
returns-in-None c = without_names c.args.path.now (sym c.in-None.ensures)
