-- Some entry fits, where there is one.
use Rattle.std.proofs.Common.{◌≡◌, ℕ, ◌+◌, nat_lt, ◌==◌, ◌&&◌, List, length, sym, ap, ◌∙◌}
use Rattle.file_tree.specs.declared.kind.Kind.TheVariants.{Dir}
use Rattle.file_tree.specs.Nodes.{kind_in}
use Rattle.file_table.specs.Entries.{IsDirectory, entries}
use Rattle.file_table.proofs.PlaceFacts.{some_from}
use Rattle.file_table.proofs.ListFacts.{entries_many, lists_answer}
use Rattle.file_table.proofs.listing.listed_directory.Goals as goal

pub returns-then-none_fits : goal.returns-then-none_fits
returns-then-none_fits c =
    let texts : c.as_slice-in-Ok-push_entries-2.result.now ≡ c.in-Ok.names.items = c.as_slice-in-Ok-push_entries-2.ensures.value in
    let bytes : c.as_slice-in-Ok-push_entries.result.now ≡ c.push_entries.new.out.items = c.as_slice-in-Ok-push_entries.ensures.value in
    let is : IsDirectory c.args.tree.now c.args.inode c.args.up c.in-Ok.names.items = record { names = c.in-Ok.ensures.names; parent = c.requires.parent; here = some_from (kind_in c.args.tree.now c.args.inode) Dir c.requires.kind; above = c.requires.above; sound = c.root.ensures.sound } in
    let many = entries_many c.args.tree.now c.args.inode c.args.up c.in-Ok.names.items is in
    let test : c.none_fits.result ≡ ((length c.push_entries.new.out.items == 0) && nat_lt c.args.from (length c.in-Ok.names.items + 2)) =
    c.none_fits.ensures ∙ (ap (λ (l : List ℕ). (length l == 0) && nat_lt c.args.from (length c.as_slice-in-Ok-push_entries-2.result.now + 2)) bytes ∙ ap (λ (l : List (List ℕ)). (length c.push_entries.new.out.items == 0) && nat_lt c.args.from (length l + 2)) texts) in
    let h = lists_answer c.args.room c.args.from (length c.in-Ok.names.items + 2) (entries c.args.inode c.args.tree.now) c.args.tree.now c.push_entries.new.out.items c.in-Ok-push_entries.next many c.in-Ok-push_entries.ensures.listed in
    h.0 (sym test ∙ c.if-none_fits.true)

pub returns-in-Ok-push_entries : goal.returns-in-Ok-push_entries
returns-in-Ok-push_entries c =
    let texts : c.as_slice-in-Ok-push_entries-2.result.now ≡ c.in-Ok.names.items = c.as_slice-in-Ok-push_entries-2.ensures.value in
    let bytes : c.as_slice-in-Ok-push_entries.result.now ≡ c.push_entries.new.out.items = c.as_slice-in-Ok-push_entries.ensures.value in
    let is : IsDirectory c.args.tree.now c.args.inode c.args.up c.in-Ok.names.items = record { names = c.in-Ok.ensures.names; parent = c.requires.parent; here = some_from (kind_in c.args.tree.now c.args.inode) Dir c.requires.kind; above = c.requires.above; sound = c.root.ensures.sound } in
    let many = entries_many c.args.tree.now c.args.inode c.args.up c.in-Ok.names.items is in
    let test : c.none_fits.result ≡ ((length c.push_entries.new.out.items == 0) && nat_lt c.args.from (length c.in-Ok.names.items + 2)) =
    c.none_fits.ensures ∙ (ap (λ (l : List ℕ). (length l == 0) && nat_lt c.args.from (length c.as_slice-in-Ok-push_entries-2.result.now + 2)) bytes ∙ ap (λ (l : List (List ℕ)). (length c.push_entries.new.out.items == 0) && nat_lt c.args.from (length l + 2)) texts) in
    let h = lists_answer c.args.room c.args.from (length c.in-Ok.names.items + 2) (entries c.args.inode c.args.tree.now) c.args.tree.now c.push_entries.new.out.items c.in-Ok-push_entries.next many c.in-Ok-push_entries.ensures.listed in
    (h.1 (sym test ∙ c.if-none_fits.false), c.in-Ok-push_entries.ensures.low)
