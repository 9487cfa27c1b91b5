-- What was added so far, and what fits behind it.
use Rattle.std.proofs.Common.{ℕ, ◌+◌, ◌-◌, ◌<◌, ◌≤◌, Bool, List, length, sym, ap, subst, ◌∙◌, arith}
use Rattle.std.proofs.lemmas.Bool.{ltb-true, ltb-false}
use Rattle.file_table.specs.Entries.{entries, entry_at, entry_size, Pushed}
use Rattle.file_table.proofs.ListFacts.{Goes, goes_more, goes_end, fitted_stop, fitted_end, entries_many}
use Rattle.file_table.proofs.listing.push_entries.Goals as goal

pub returns-then-not-branch-clause-listed : goal.returns-then-not-branch-clause-listed
returns-then-not-branch-clause-listed c =
    let many = entries_many c.args.tree.now c.args.inode c.args.up c.args.names.now c.requires.directory in
    let low : c.listing.index < length c.args.names.now + 2 = ltb-true c.listing.index (length c.args.names.now + 2) (sym c.is_within.ensures ∙ c.listing-test.true) in
    let within : c.listing.index < length (entries c.args.inode c.args.tree.now) = omega arith in
    let p = subst (λ (b : Bool). Pushed b (entry_at c.listing.index c.args.inode c.args.tree.now) c.listing.index (c.args.room - c.len.result) c.args.tree.now c.listing.out.items c.push_at.new.out.items) c.if-not-branch.true c.in_ok-push_at.ensures in
    let long = c.listing.out.ok.0 in
    let full : c.args.room - length c.listing.out.items < entry_size (entry_at c.listing.index c.args.inode c.args.tree.now).0 = (let f = p.0 in omega arith) in
    let so : Goes c.args.room c.args.from c.listing.index (entries c.args.inode c.args.tree.now) c.args.tree.now c.push_at.new.out.items = subst (λ (l : List ℕ). Goes c.args.room c.args.from c.listing.index (entries c.args.inode c.args.tree.now) c.args.tree.now l) (sym p.1) c.listing.invariant in
    let last = fitted_stop (c.args.room - length c.listing.out.items) c.listing.index (entries c.args.inode c.args.tree.now) c.args.tree.now within full in
    goes_end c.args.room c.args.from c.listing.index (entries c.args.inode c.args.tree.now) c.args.tree.now c.listing.out.items c.listing.invariant last ∙ ap (λ (l : List ℕ). record { bytes = l; next = c.listing.index }) (sym p.1)

pub listing-preserved : goal.listing-preserved
listing-preserved c =
    let many = entries_many c.args.tree.now c.args.inode c.args.up c.args.names.now c.requires.directory in
    let low : c.listing.index < length c.args.names.now + 2 = ltb-true c.listing.index (length c.args.names.now + 2) (sym c.is_within.ensures ∙ c.listing-test.true) in
    let within : c.listing.index < length (entries c.args.inode c.args.tree.now) = omega arith in
    let p = subst (λ (b : Bool). Pushed b (entry_at c.listing.index c.args.inode c.args.tree.now) c.listing.index (c.args.room - c.len.result) c.args.tree.now c.listing.out.items c.push_at.new.out.items) c.if-not-branch.false c.in_ok-push_at.ensures in
    let long = c.listing.out.ok.0 in
    let fits : entry_size (entry_at c.listing.index c.args.inode c.args.tree.now).0 ≤ c.args.room - length c.listing.out.items = (let f = p.0 in omega arith) in
    goes_more c.args.room c.args.from c.listing.index (entries c.args.inode c.args.tree.now) c.args.tree.now c.listing.out.items c.push_at.new.out.items c.listing.invariant within fits p.1

pub returns-clause-listed : goal.returns-clause-listed
returns-clause-listed c =
    let many = entries_many c.args.tree.now c.args.inode c.args.up c.args.names.now c.requires.directory in
    let past : length c.args.names.now + 2 ≤ c.listing.index = ltb-false c.listing.index (length c.args.names.now + 2) (sym c.is_within.ensures ∙ c.listing-test.false) in
    let end : length (entries c.args.inode c.args.tree.now) ≤ c.listing.index = omega arith in
    goes_end c.args.room c.args.from c.listing.index (entries c.args.inode c.args.tree.now) c.args.tree.now c.listing.out.items c.listing.invariant
    (fitted_end (c.args.room - length c.listing.out.items) c.listing.index (entries c.args.inode c.args.tree.now) c.args.tree.now end)
