use Rattle.std.proofs.Common.{refl, sym, ap, lit≤}
use Rattle.guest_pages.specs.Operations.{stored_pages}
use Rattle.guest_pages.specs.Tables.{mark_at, page_at}
use Rattle.guest_pages.proofs.TableFacts.{held_none}
use Rattle.guest_pages.proofs.pages.Pages.new.Goals as goal

pub invariant_of-result : goal.invariant_of-result
unfolding stored_pages mark_at page_at
invariant_of-result c = record { small = lit≤ tt; marked = λ n. refl; counted = sym (ap stored_pages held_none) }

pub returns : goal.returns
returns c = held_none
