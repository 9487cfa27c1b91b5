use Rattle.std.proofs.Common.{Err, sym, ap, ◌∙◌, arith}
use Rattle.guest_pages.specs.declared.fault.PageFault.{PageFault}
use Rattle.guest_pages.specs.declared.fault.PageFault.TheVariants.{NoAccess, NotMapped}
use Rattle.host_calls.proofs.PathFacts.{UpTo, all_read, found_fault, found_none, up_to}
use Rattle.host_calls.proofs.paths.readable_room.Goals as goal

pub up-NotMapped : (c : goal.In-Err-NotMapped) → UpTo c.args.pages.now 4096 c.args.at c.in-Err-NotMapped.bad
up-NotMapped c = up_to c.args.pages.now 4096 c.args.at (NotMapped c.in-Err-NotMapped.bad) (found_fault _ _ tt (sym c.allows.ensures ∙ c.in-Err-NotMapped.is ∙ ap (λ (f : PageFault). Err f) c.in-Err-NotMapped.field-0-is))

pub returns-in-Err-NotMapped-clause-is : goal.returns-in-Err-NotMapped-clause-is
returns-in-Err-NotMapped-clause-is c = (up-NotMapped c).is

pub returns-in-Err-NotMapped-clause-good : goal.returns-in-Err-NotMapped-clause-good
returns-in-Err-NotMapped-clause-good c = (up-NotMapped c).good

pub returns-in-Err-NotMapped-clause-few : goal.returns-in-Err-NotMapped-clause-few
returns-in-Err-NotMapped-clause-few c = let near = (up-NotMapped c).near in omega arith

pub up-NoAccess : (c : goal.In-Err-NoAccess) → UpTo c.args.pages.now 4096 c.args.at c.in-Err-NoAccess.bad
up-NoAccess c = up_to c.args.pages.now 4096 c.args.at (NoAccess c.in-Err-NoAccess.bad) (found_fault _ _ tt (sym c.allows.ensures ∙ c.in-Err-NoAccess.is ∙ ap (λ (f : PageFault). Err f) c.in-Err-NoAccess.field-0-is))

pub returns-in-Err-NoAccess-clause-is : goal.returns-in-Err-NoAccess-clause-is
returns-in-Err-NoAccess-clause-is c = (up-NoAccess c).is

pub returns-in-Err-NoAccess-clause-good : goal.returns-in-Err-NoAccess-clause-good
returns-in-Err-NoAccess-clause-good c = (up-NoAccess c).good

pub returns-in-Err-NoAccess-clause-few : goal.returns-in-Err-NoAccess-clause-few
returns-in-Err-NoAccess-clause-few c = let near = (up-NoAccess c).near in omega arith

pub overflow_sub-result : goal.overflow_sub-result
overflow_sub-result c = (up-NotMapped c).low

pub overflow_sub-result-in-Err-NoAccess : goal.overflow_sub-result-in-Err-NoAccess
overflow_sub-result-in-Err-NoAccess c = (up-NoAccess c).low

pub returns-in-Ok-clause-is : goal.returns-in-Ok-clause-is
returns-in-Ok-clause-is c = all_read c.args.pages.now 4096 c.args.at (found_none _ tt c.in-Ok.field-0 (sym c.allows.ensures ∙ c.in-Ok.is))
