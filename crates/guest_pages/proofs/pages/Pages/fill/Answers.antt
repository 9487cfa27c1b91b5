use Rattle.std.proofs.Common.{ap, ◌∙◌}
use Rattle.guest_pages.specs.Operations.{written}
use Rattle.guest_pages.specs.Tables.{rows_of}
use Rattle.guest_pages.proofs.WriteFacts.{written_held, sound_written}
use Rattle.guest_pages.proofs.pages.Pages.fill.Goals as goal

pub invariant_of-self : goal.invariant_of-self
invariant_of-self c =
    sound_written (rows_of c.self.inside.tables) (rows_of c.copy_into.new.tables) c.self.inside.stored c.args.at c.args.bytes.now c.self.invariant c.copy_into.ensures.size c.copy_into.ensures.marks c.copy_into.ensures.cells

pub returns : goal.returns
returns c =
    written_held (rows_of c.self.inside.tables) (rows_of c.copy_into.new.tables) c.args.at c.args.bytes.now c.self.invariant.small c.copy_into.ensures.cells
    ∙ ap (written c.args.at c.args.bytes.now) c.self.view_is
