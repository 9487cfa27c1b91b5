use Rattle.std.proofs.Common.{sym, ap, ◌∙◌}
use Rattle.guest_pages.specs.Operations.{written}
use Rattle.guest_pages.specs.Tables.{rows_of}
use Rattle.guest_pages.proofs.WriteFacts.{rights_stay, sound_written, written_held}
use Rattle.guest_pages.proofs.pages.Pages.copy_in.Goals as goal

pub invariant_of-self : goal.invariant_of-self
invariant_of-self c =
    sound_written (rows_of c.self.inside.tables) (rows_of c.copy_into.new.tables) c.self.inside.stored c.args.at c.args.bytes.now c.self.invariant c.copy_into.ensures.size c.copy_into.ensures.marks c.copy_into.ensures.cells

pub returns-in-Ok-clause-ok : goal.returns-in-Ok-clause-ok
returns-in-Ok-clause-ok c =
    written_held (rows_of c.self.inside.tables) (rows_of c.copy_into.new.tables) c.args.at c.args.bytes.now c.self.invariant.small c.copy_into.ensures.cells
    ∙ ap (written c.args.at c.args.bytes.now) c.self.view_is

pub returns-in-Ok-clause-rights : goal.returns-in-Ok-clause-rights
returns-in-Ok-clause-rights c =
    let sound = c.self.invariant in
    let kept = rights_stay (rows_of c.self.inside.tables) (rows_of c.copy_into.new.tables) c.args.at c.args.bytes.now sound.small (rw c.copy_into.ensures.size sound.small) c.copy_into.ensures.cells in
    rw (sym c.self.view_is) kept
