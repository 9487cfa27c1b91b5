-- A file gets other bytes, or the limit that they pass is told.
use Rattle.std.proofs.Common.{◌∙◌, sym, ap, Ok, Err, refl}
use Rattle.file_tree.specs.Nodes.{Tree, file_bytes}
use Rattle.file_tree.specs.Files.{overwritten, filled_with, fitting}
use Rattle.file_tree.proofs.StayFacts.{file_is_filled}
use Rattle.file_tree.proofs.CallFacts.{fills, kind_there, length_written, write_end, is_ok_from}
use Rattle.file_tree.proofs.tree.Tree.write_at.Goals as goal

pub invariant_of-self : goal.invariant_of-self
invariant_of-self c = rw c.in-Ok-overwrite.ensures.ok (fills c.args.self.now c.self.inside.nodes c.self.inside.next c.self.inside.count c.self.inside.bytes c.args.file (overwritten c.args.offset c.args.bytes.now (file_bytes c.self.inside.nodes c.args.file)) c.written_size-size.result (Ok c.in-Ok.total) c.self.view_is c.self.invariant
    (c.written_size-size.ensures.size ∙ ap fitting (rw c.size.ensures (sym (length_written c.args.offset c.args.bytes.now (file_bytes c.self.inside.nodes c.args.file))))) c.requires c.in-Ok.ensures).1

pub returns-in-Ok-overwrite-clause-answers : goal.returns-in-Ok-overwrite-clause-answers
returns-in-Ok-overwrite-clause-answers c = rw c.in-Ok-overwrite.ensures.ok (ap (λ (t : Tree). filled_with c.args.file (overwritten c.args.offset c.args.bytes.now (file_bytes t.nodes c.args.file)) c.args.self.now) (sym c.self.view_is) ∙ (fills c.args.self.now c.self.inside.nodes c.self.inside.next c.self.inside.count c.self.inside.bytes c.args.file (overwritten c.args.offset c.args.bytes.now (file_bytes c.self.inside.nodes c.args.file)) c.written_size-size.result (Ok c.in-Ok.total) c.self.view_is c.self.invariant
    (c.written_size-size.ensures.size ∙ ap fitting (rw c.size.ensures (sym (length_written c.args.offset c.args.bytes.now (file_bytes c.self.inside.nodes c.args.file))))) c.requires c.in-Ok.ensures).0)

pub returns-in-Err-overwrite-clause-answers : goal.returns-in-Err-overwrite-clause-answers
returns-in-Err-overwrite-clause-answers c = (
  is_ok_from _ _ (ap (λ (t : Tree). filled_with c.args.file (overwritten c.args.offset c.args.bytes.now (file_bytes t.nodes c.args.file)) c.args.self.now) (sym c.self.view_is) ∙ (fills c.args.self.now c.self.inside.nodes c.self.inside.next c.self.inside.count c.self.inside.bytes c.args.file (overwritten c.args.offset c.args.bytes.now (file_bytes c.self.inside.nodes c.args.file)) c.written_size-size.result (Ok c.in-Ok.total) c.self.view_is c.self.invariant
      (c.written_size-size.ensures.size ∙ ap fitting (rw c.size.ensures (sym (length_written c.args.offset c.args.bytes.now (file_bytes c.self.inside.nodes c.args.file))))) c.requires c.in-Ok.ensures).0),
  rw c.in-Err-overwrite.ensures.err c.self.view_is,
)

pub returns-in-Err-clause-answers : goal.returns-in-Err-clause-answers
returns-in-Err-clause-answers c = (
  ap (λ (t : Tree). filled_with c.args.file (overwritten c.args.offset c.args.bytes.now (file_bytes t.nodes c.args.file)) c.args.self.now) (sym c.self.view_is) ∙ fills c.args.self.now c.self.inside.nodes c.self.inside.next c.self.inside.count c.self.inside.bytes c.args.file (overwritten c.args.offset c.args.bytes.now (file_bytes c.self.inside.nodes c.args.file)) c.written_size-size.result (Err c.in-Err.errno) c.self.view_is c.self.invariant
      (c.written_size-size.ensures.size ∙ ap fitting (rw c.size.ensures (sym (length_written c.args.offset c.args.bytes.now (file_bytes c.self.inside.nodes c.args.file))))) c.requires c.in-Err.ensures,
  refl,
)

pub overwrite-requires : goal.overwrite-requires
overwrite-requires c = write_end _ _ _ c.in-Ok.total c.size.result c.args.offset _ c.written_size-size.result c.in-Ok.ensures c.written_size-size.ensures.size c.ranges.offset.fits

pub returns-in-Ok-overwrite-clause-filled : goal.returns-in-Ok-overwrite-clause-filled
returns-in-Ok-overwrite-clause-filled c =
    rw c.in-Ok-overwrite.ensures.ok (file_is_filled c.args.self.now c.self.inside.nodes c.self.inside.next c.self.inside.count c.in-Ok.total c.args.file (overwritten c.args.offset c.args.bytes.now (file_bytes c.self.inside.nodes c.args.file)) c.self.view_is (fills c.args.self.now c.self.inside.nodes c.self.inside.next c.self.inside.count c.self.inside.bytes c.args.file (overwritten c.args.offset c.args.bytes.now (file_bytes c.self.inside.nodes c.args.file)) c.written_size-size.result (Ok c.in-Ok.total) c.self.view_is c.self.invariant
    (c.written_size-size.ensures.size ∙ ap fitting (rw c.size.ensures (sym (length_written c.args.offset c.args.bytes.now (file_bytes c.self.inside.nodes c.args.file))))) c.requires c.in-Ok.ensures).1 (kind_there c.args.self.now c.args.file _ c.requires))
