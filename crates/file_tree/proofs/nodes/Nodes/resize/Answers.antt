-- The node that is written through.
use Rattle.std.proofs.Common.{◌∙◌, ap, ℕ, List, rules}
use Rattle.file_tree.specs.declared.node.Node.{Node}
use Rattle.file_tree.specs.Files.{resized, with_bytes}
use Rattle.file_tree.specs.Nodes.{file_bytes}
use Rattle.file_tree.proofs.FileFacts.{put_none, put_bytes, put_absent, on_ok, on_err}
use Rattle.file_tree.proofs.nodes.Nodes.resize.Goals as goal
use Rattle.file_tree.proofs.nodes.Nodes.resize.Goals.{in-Some, in-None}

pub returns-clause-ok : goal.returns-clause-ok
returns-clause-ok c =
    elim c.match-get_mut.branch [
      | in-Some w ↦ rw (w.result-is, w.self-inside-is) (on_ok w.resize.result _ _ w.resize.ensures.ok
          (λ same. put_bytes c.self.inside.map.entries _ c.args.inode w.in-Some.node.now w.resize.new.self (resized c.args.size) w.in-Some.ensures.value same (c.get_mut.follows.holds w.resize.new.self).0
          ∙ ap (λ (nodes : List (ℕ × Node)). with_bytes c.args.inode ((resized c.args.size) (file_bytes nodes c.args.inode)) nodes) c.self.view_is))
      | in-None w ↦ rw (w.result-is, w.self-inside-is) (put_absent c.self.inside.map.entries _ c.args.inode (resized c.args.size) w.in-None.ensures.value (search rules)
          ∙ ap (λ (nodes : List (ℕ × Node)). with_bytes c.args.inode ((resized c.args.size) (file_bytes nodes c.args.inode)) nodes) c.self.view_is)
    ]

pub returns-clause-err : goal.returns-clause-err
returns-clause-err c =
    elim c.match-get_mut.branch [
      | in-Some w ↦ rw (w.result-is, w.self-inside-is) (on_err w.resize.result _ _ w.resize.ensures.err
          (λ same. put_none c.self.inside.map.entries _ c.args.inode w.in-Some.node.now w.resize.new.self w.in-Some.ensures.value same (c.get_mut.follows.holds w.resize.new.self).0 ∙ c.self.view_is))
      | in-None w ↦ rw w.result-is tt
    ]
