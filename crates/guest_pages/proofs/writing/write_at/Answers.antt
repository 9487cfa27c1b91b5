use Rattle.std.proofs.Common.{◌/◌, ap}
use Rattle.guest_pages.specs.Tables.{page_at, rows_of}
use Rattle.guest_pages.proofs.PageFacts.{none_held}
use Rattle.guest_pages.proofs.writing.write_at.Goals as goal

pub returns-in-None-clause-answer : goal.returns-in-None-clause-answer
unfolding page_at
returns-in-None-clause-answer c = none_held c.args.needed _ (ap (λ t. page_at (rows_of t) (c.args.at / 4096)) c.in-None.is)
