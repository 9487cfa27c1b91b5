-- The node that is written through.
use Rattle.std.proofs.Common.{◌∙◌, ap, ℕ, List, rules}
use Rattle.file_tree.specs.declared.node.Node.{Node}
use Rattle.file_tree.specs.Files.{overwritten, with_bytes}
use Rattle.file_tree.specs.Nodes.{file_bytes}
use Rattle.file_tree.proofs.FileFacts.{put_none, put_bytes, put_absent, on_ok, on_err}
use Rattle.file_tree.proofs.nodes.Nodes.overwrite.Goals as goal
use Rattle.file_tree.proofs.nodes.Nodes.overwrite.Goals.{in-Some, in-None}

pub returns-clause-ok : goal.returns-clause-ok
returns-clause-ok c =
    elim c.match-get_mut.branch [
      | in-Some w ↦ rw (w.result-is, w.self-inside-is) (on_ok w.overwrite.result _ _ w.overwrite.ensures.ok
          (λ same. put_bytes c.self.inside.map.entries _ c.args.inode w.in-Some.node.now w.overwrite.new.self (overwritten c.args.offset c.args.bytes.now) w.in-Some.ensures.value same (c.get_mut.follows.holds w.overwrite.new.self).0
          ∙ ap (λ (nodes : List (ℕ × Node)). with_bytes c.args.inode ((overwritten c.args.offset c.args.bytes.now) (file_bytes nodes c.args.inode)) nodes) c.self.view_is))
      | in-None w ↦ rw (w.result-is, w.self-inside-is) (put_absent c.self.inside.map.entries _ c.args.inode (overwritten c.args.offset c.args.bytes.now) w.in-None.ensures.value (search rules)
          ∙ ap (λ (nodes : List (ℕ × Node)). with_bytes c.args.inode ((overwritten c.args.offset c.args.bytes.now) (file_bytes nodes c.args.inode)) nodes) c.self.view_is)
    ]

pub returns-clause-err : goal.returns-clause-err
returns-clause-err c =
    elim c.match-get_mut.branch [
      | in-Some w ↦ rw (w.result-is, w.self-inside-is) (on_err w.overwrite.result _ _ w.overwrite.ensures.err
          (λ same. put_none c.self.inside.map.entries _ c.args.inode w.in-Some.node.now w.overwrite.new.self w.in-Some.ensures.value same (c.get_mut.follows.holds w.overwrite.new.self).0 ∙ c.self.view_is))
      | in-None w ↦ rw w.result-is tt
    ]
