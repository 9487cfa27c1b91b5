use Rattle.std.proofs.Common.{sym, ◌∙◌, length, arith}
use Rattle.guest_pages.specs.Tables.{rows_of}
use Rattle.guest_pages.proofs.WriteFacts.{near_good}
use Rattle.guest_pages.proofs.writing.write_near.Goals as goal

pub returns-clause-good : goal.returns-clause-good
returns-clause-good c = λ yes.
    near_good c.args.needed (rows_of c.args.tables.now) c.args.at (length c.args.bytes.now) c.requires.small (omega arith) (sym c.write_at.ensures.answer ∙ yes)
