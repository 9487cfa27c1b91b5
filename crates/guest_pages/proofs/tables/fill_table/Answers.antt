use Rattle.std.proofs.Common.{◌≡◌, ◌∷◌, ◌++◌, [], ℕ, List, length, get_or, ap, ◌∙◌, arith, length-append}
use Rattle.guest_pages.specs.declared.page.Page.{Page}
use Rattle.guest_pages.specs.Bits.{bit_of}
use Rattle.guest_pages.specs.Tables.{bare_if}
use Rattle.guest_pages.proofs.MapFacts.{push_own}
use Rattle.guest_pages.proofs.tables.fill_table.Goals as goal

pub filling-preserved : goal.filling-preserved
filling-preserved c =
    let items = c.in_ok-push.ensures.items in
    let longer = ap length items ∙ length-append c.filling.table.pages.items (c.bare_if.result ∷ []) in
    let place : c.len-in-filling-2.result ≡ length c.filling.table.pages.items = omega arith in
    let page = c.bare_if.ensures ∙ ap bare_if (c.is_set-mapped.ensures ∙ ap (λ (l : List ℕ). bit_of l c.len-in-filling-2.result) c.as_slice.ensures.value ∙ ap (bit_of c.filling.table.mapped.items) place) in
    record {
      pages = λ n.
          ap (λ (l : List Page). get_or l n (bare_if (bit_of c.filling.table.mapped.items n))) (items ∙ ap (λ (p : Page). c.filling.table.pages.items ++ p ∷ []) page)
          ∙ (push_own (λ (k : ℕ). bare_if (bit_of c.filling.table.mapped.items k)) c.filling.table.pages.items n
          ∙ c.filling.invariant.pages n);
      marks = c.filling.invariant.marks;
      room = omega arith;
    }
