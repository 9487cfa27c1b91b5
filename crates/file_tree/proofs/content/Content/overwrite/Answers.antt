-- The bytes written over those that are there.
use Rattle.std.proofs.Common.{◌∙◌, sym, length, ap}
use Rattle.file_tree.proofs.ByteFacts.{written_back, some_length}
use Rattle.file_tree.proofs.content.Content.overwrite.Goals as goal

pub returns-clause-ok : goal.returns-clause-ok
returns-clause-ok c =
    written_back c.self.inside.bytes.len c.args.offset c.args.bytes.now c.args.self.now c.self.inside.bytes.items c.deref_mut.result.now c.put.new.into
    (some_length c.is_empty.result (length c.args.bytes.now) c.is_empty.ensures c.if-is_empty.false) (sym c.deref_mut.ensures.len ∙ ap length c.deref_mut.ensures.value) c.deref_mut.ensures.value c.put.auto.into
    (c.self.view_is ∙ c.in_ok-reach.ensures.ok) c.put.ensures
