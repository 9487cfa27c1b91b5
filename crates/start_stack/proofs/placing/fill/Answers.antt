use Rattle.std.proofs.Common.{ℕ, List, length, ap, ◌∙◌}
use Rattle.guest_pages.specs.Faults.{first_fault, writable}
use Rattle.guest_pages.specs.Operations.{written}
use Rattle.guest_pages.specs.Ranges.{Range}
use Rattle.start_stack.specs.Placing.{with_pages}
use Rattle.start_stack.proofs.PlacedFacts.{fresh_good, written_good}
use Rattle.start_stack.proofs.placing.fill.Goals as goal

pub write-requires : goal.write-requires
write-requires c =
    let at : ℕ = c.args.contents.now.block_at in
    let bytes : List ℕ = c.args.contents.now.block.items in
    ap (λ (m : List Range). first_fault writable m at (length c.as_slice.result.now)) c.in-Ok.ensures.memory
    ∙ (ap (λ (l : List ℕ). first_fault writable (with_pages c.args.pages.now) at (length l)) c.as_slice.ensures.value
    ∙ fresh_good c.args.pages.now at bytes c.requires.block)

pub write-requires-in-Ok : goal.write-requires-in-Ok
write-requires-in-Ok c =
    let at : ℕ = c.args.contents.now.pointer in
    let place : ℕ = c.args.contents.now.block_at in
    let bytes : List ℕ = c.args.contents.now.words.items in
    ap (λ (m : List Range). first_fault writable m at (length c.as_slice-in-Ok.result.now)) c.write.ensures
    ∙ (ap (λ (m : List Range). first_fault writable (written place c.as_slice.result.now m) at (length c.as_slice-in-Ok.result.now)) c.in-Ok.ensures.memory
    ∙ (ap (λ (l : List ℕ). first_fault writable (written place c.as_slice.result.now (with_pages c.args.pages.now)) at (length l)) c.as_slice-in-Ok.ensures.value
    ∙ written_good c.args.pages.now at place bytes c.as_slice.result.now c.requires.words))
