use Rattle.std.proofs.Common.{◌+◌, ◌-◌, length}
use Rattle.file_table.specs.Entries.{entries}
use Rattle.file_table.proofs.ListFacts.{Goes}
use Rattle.file_table.proofs.listing.push_entries.Given as goal

abbrev pub invariant-listing : goal.invariant-listing
invariant-listing l = Goes l.room l.from l.index (entries l.inode l.tree) l.tree l.out.items

abbrev pub decreases-listing : goal.decreases-listing
decreases-listing l = length l.names + 2 - l.index
