-- A file gets other bytes, or the limit that they pass is told.
use Rattle.std.proofs.Common.{◌∙◌, sym, ap, Ok, Err, refl}
use Rattle.file_tree.specs.Nodes.{Tree, file_bytes}
use Rattle.file_tree.specs.Files.{resized, filled_with, fitting}
use Rattle.file_tree.proofs.StayFacts.{file_is_filled}
use Rattle.file_tree.proofs.CallFacts.{fills, kind_there, length_resized, is_ok_from}
use Rattle.file_tree.proofs.tree.Tree.truncate.Goals as goal

pub invariant_of-self : goal.invariant_of-self
invariant_of-self c = rw c.in-Ok-resize.ensures.ok (fills c.args.self.now c.self.inside.nodes c.self.inside.next c.self.inside.count c.self.inside.bytes c.args.file (resized c.args.size (file_bytes c.self.inside.nodes c.args.file)) c.cut_size.result (Ok c.in-Ok.total) c.self.view_is c.self.invariant
    (c.cut_size.ensures.size ∙ ap fitting (sym (length_resized c.args.size (file_bytes c.self.inside.nodes c.args.file)))) c.requires c.in-Ok.ensures).1

pub returns-in-Ok-resize-clause-answers : goal.returns-in-Ok-resize-clause-answers
returns-in-Ok-resize-clause-answers c = rw c.in-Ok-resize.ensures.ok (ap (λ (t : Tree). filled_with c.args.file (resized c.args.size (file_bytes t.nodes c.args.file)) c.args.self.now) (sym c.self.view_is) ∙ (fills c.args.self.now c.self.inside.nodes c.self.inside.next c.self.inside.count c.self.inside.bytes c.args.file (resized c.args.size (file_bytes c.self.inside.nodes c.args.file)) c.cut_size.result (Ok c.in-Ok.total) c.self.view_is c.self.invariant
    (c.cut_size.ensures.size ∙ ap fitting (sym (length_resized c.args.size (file_bytes c.self.inside.nodes c.args.file)))) c.requires c.in-Ok.ensures).0)

pub returns-in-Err-resize-clause-answers : goal.returns-in-Err-resize-clause-answers
returns-in-Err-resize-clause-answers c = (
  is_ok_from _ _ (ap (λ (t : Tree). filled_with c.args.file (resized c.args.size (file_bytes t.nodes c.args.file)) c.args.self.now) (sym c.self.view_is) ∙ (fills c.args.self.now c.self.inside.nodes c.self.inside.next c.self.inside.count c.self.inside.bytes c.args.file (resized c.args.size (file_bytes c.self.inside.nodes c.args.file)) c.cut_size.result (Ok c.in-Ok.total) c.self.view_is c.self.invariant
      (c.cut_size.ensures.size ∙ ap fitting (sym (length_resized c.args.size (file_bytes c.self.inside.nodes c.args.file)))) c.requires c.in-Ok.ensures).0),
  rw c.in-Err-resize.ensures.err c.self.view_is,
)

pub returns-in-Err-clause-answers : goal.returns-in-Err-clause-answers
returns-in-Err-clause-answers c = (
  ap (λ (t : Tree). filled_with c.args.file (resized c.args.size (file_bytes t.nodes c.args.file)) c.args.self.now) (sym c.self.view_is) ∙ fills c.args.self.now c.self.inside.nodes c.self.inside.next c.self.inside.count c.self.inside.bytes c.args.file (resized c.args.size (file_bytes c.self.inside.nodes c.args.file)) c.cut_size.result (Err c.in-Err.errno) c.self.view_is c.self.invariant
      (c.cut_size.ensures.size ∙ ap fitting (sym (length_resized c.args.size (file_bytes c.self.inside.nodes c.args.file)))) c.requires c.in-Err.ensures,
  refl,
)

pub returns-in-Ok-resize-clause-filled : goal.returns-in-Ok-resize-clause-filled
returns-in-Ok-resize-clause-filled c =
    rw c.in-Ok-resize.ensures.ok (file_is_filled c.args.self.now c.self.inside.nodes c.self.inside.next c.self.inside.count c.in-Ok.total c.args.file (resized c.args.size (file_bytes c.self.inside.nodes c.args.file)) c.self.view_is (fills c.args.self.now c.self.inside.nodes c.self.inside.next c.self.inside.count c.self.inside.bytes c.args.file (resized c.args.size (file_bytes c.self.inside.nodes c.args.file)) c.cut_size.result (Ok c.in-Ok.total) c.self.view_is c.self.invariant
    (c.cut_size.ensures.size ∙ ap fitting (sym (length_resized c.args.size (file_bytes c.self.inside.nodes c.args.file)))) c.requires c.in-Ok.ensures).1 (kind_there c.args.self.now c.args.file _ c.requires))
