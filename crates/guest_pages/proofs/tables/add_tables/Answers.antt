use Rattle.std.proofs.Common.{◌∷◌, [], length, ap, ◌∙◌, arith, length-append}
use Rattle.guest_pages.specs.Tables.{mark_at, page_at}
use Rattle.guest_pages.proofs.MapFacts.{mark_push, page_push}
use Rattle.guest_pages.proofs.tables.add_tables.Goals as goal

pub adding-preserved : goal.adding-preserved
adding-preserved c =
    let items = c.in_ok-push.ensures.items in
    let longer = ap length items ∙ length-append c.adding.tables.items (_ ∷ []) in
    record {
      pages = λ n.
          ap (λ t. page_at t n) items
          ∙ (page_push c.adding.tables.items _ n c.new-pages.ensures.items c.new-mapped.ensures.items ∙ c.adding.invariant.pages n);
      marks = λ n.
          ap (λ t. mark_at t n) items
          ∙ (mark_push c.adding.tables.items _ n c.new-mapped.ensures.items ∙ c.adding.invariant.marks n);
      small = λ before. omega arith;
    }
