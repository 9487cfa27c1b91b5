-- The table stays sound.
use Rattle.std.proofs.Common.{◌<◌, length, None, sym, subst, ap, ◌∙◌}
use Rattle.std.proofs.lemmas.List.{get_or_default}
use Rattle.file_table.specs.State.{Files, is_open_by}
use Rattle.file_table.proofs.SoundFacts.{pipe_changed}
use Rattle.file_table.proofs.files.Files.write_pipe.Goals as goal

pub invariant_of-self : goal.invariant_of-self
invariant_of-self c =
    let within : c.args.number < length c.self.inside.pipes.items = subst (λ (f : Files). c.args.number < length f.pipes) (sym c.self.view_is) c.requires in
    (pipe_changed _ c.args.number c.take_into.new.place c.self.invariant.0 within (λ writes. c.take_into.ensures.ends writes ∙ ap (is_open_by writes) (c.index_mut.ensures.value ∙ get_or_default c.self.inside.pipes.items c.args.number c.index_mut.result.now None within)), c.self.invariant.1)
