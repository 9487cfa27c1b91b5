-- A name leads to the inode that stands with it.
use Rattle.std.proofs.Common.{◌≡◌, ℕ, ◌+◌, ◌-◌, ◌<◌, List, [], length, get_or, Ok, Err, sym, ap, subst, ◌∙◌, arith}
use Rattle.std.specs.Prelude.{IfOk}
use Rattle.std.proofs.lemmas.List.{get_or_read}
use Rattle.file_table.specs.Entries.{entry_at, Pushed}
use Rattle.file_table.proofs.ListFacts.{named_from}
use Rattle.file_table.proofs.listing.push_at.Goals as goal

pub push_fitting-requires-in-Ok-clause-short : goal.push_fitting-requires-in-Ok-clause-short
push_fitting-requires-in-Ok-clause-short c =
    let k = c.args.index - 2 in
    let low : k < length c.args.names.now = omega arith in
    let two : c.args.index ≡ k + 2 = omega arith in
    let same : c.as_bytes-name.result.now ≡ get_or c.args.names.now k [] = c.as_bytes-name.ensures.value ∙ (c.as_str.ensures.same ∙ get_or_read c.args.names.now k c.index-names-index.result low c.index-names-index.is []) in
    let it = named_from c.args.tree.now c.args.inode c.args.up c.args.index k c.args.names.now c.as_bytes-name.result.now c.requires.directory two low same in
    it.short

pub unreachable-requires : goal.unreachable-requires
unreachable-requires c =
    let k = c.args.index - 2 in
    let low : k < length c.args.names.now = omega arith in
    let two : c.args.index ≡ k + 2 = omega arith in
    let same : c.as_bytes-name.result.now ≡ get_or c.args.names.now k [] = c.as_bytes-name.ensures.value ∙ (c.as_str.ensures.same ∙ get_or_read c.args.names.now k c.index-names-index.result low c.index-names-index.is []) in
    let it = named_from c.args.tree.now c.args.inode c.args.up c.args.index k c.args.names.now c.as_bytes-name.result.now c.requires.directory two low same in
    let both : Err c.in-Err.field-0 ≡ Ok it.entry = c.in-Err.ensures.found ∙ it.walks in
    let f : ⊥ = cc in
    f

pub returns-in-Ok : goal.returns-in-Ok
returns-in-Ok c =
    let k = c.args.index - 2 in
    let low : k < length c.args.names.now = omega arith in
    let two : c.args.index ≡ k + 2 = omega arith in
    let same : c.as_bytes-name.result.now ≡ get_or c.args.names.now k [] = c.as_bytes-name.ensures.value ∙ (c.as_str.ensures.same ∙ get_or_read c.args.names.now k c.index-names-index.result low c.index-names-index.is []) in
    let it = named_from c.args.tree.now c.args.inode c.args.up c.args.index k c.args.names.now c.as_bytes-name.result.now c.requires.directory two low same in
    let both : Ok c.in-Ok.entry ≡ Ok it.entry = c.in-Ok.ensures.found ∙ it.walks in
    let same : it.entry ≡ c.in-Ok.entry = cc in
    let e : (c.as_bytes-name.result.now, c.in-Ok.entry) ≡ entry_at c.args.index c.args.inode c.args.tree.now = sym (it.is ∙ ap (λ (n : ℕ). (c.as_bytes-name.result.now, n)) same) in
    subst (λ (entry : List ℕ × ℕ). IfOk c.push_fitting-in-Ok.result (λ fits. Pushed fits entry c.args.index c.args.room c.args.tree.now c.args.out.now.items c.push_fitting-in-Ok.new.out.items)) e c.push_fitting-in-Ok.ensures
