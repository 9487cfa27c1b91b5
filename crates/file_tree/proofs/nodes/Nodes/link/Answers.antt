-- A node that stayed as it was leaves the map as it was.
use Rattle.std.proofs.Common.{◌∙◌}
use Rattle.file_tree.proofs.FileFacts.{put_none, on_err}
use Rattle.file_tree.proofs.nodes.Nodes.link.Goals as goal
use Rattle.file_tree.proofs.nodes.Nodes.link.Goals.{in-Some, in-None}

pub returns-clause-err : goal.returns-clause-err
returns-clause-err c =
    elim c.match-get_mut.branch [
      | in-Some w ↦ rw (w.result-is, w.self-inside-is) (on_err w.link.result _ _ w.link.ensures.err
          (λ same. put_none c.self.inside.map.entries _ c.args.at w.in-Some.node.now w.link.new.self w.in-Some.ensures.value same (c.get_mut.follows.holds w.link.new.self).0 ∙ c.self.view_is))
      | in-None w ↦ rw w.result-is tt
    ]
