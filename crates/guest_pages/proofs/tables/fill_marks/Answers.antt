use Rattle.std.proofs.Common.{◌∷◌, [], ℕ, List, length, ap, ◌∙◌, arith, length-append}
use Rattle.guest_pages.specs.Bits.{bit_of}
use Rattle.guest_pages.proofs.BitFacts.{bits_push}
use Rattle.guest_pages.proofs.tables.fill_marks.Goals as goal

pub filling-preserved : goal.filling-preserved
filling-preserved c =
    let items = c.in_ok-push.ensures.items in
    let longer = ap length items ∙ length-append c.filling.table.mapped.items (0 ∷ []) in
    record {
      pages = c.filling.invariant.pages;
      marks = λ n. ap (λ (l : List ℕ). bit_of l n) items ∙ (bits_push c.filling.table.mapped.items n ∙ c.filling.invariant.marks n);
      room = omega arith;
    }
