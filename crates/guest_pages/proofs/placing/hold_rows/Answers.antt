use Rattle.std.proofs.Common.{◌*◌, ◌/◌, ◌+◌, ◌≡◌, ℕ, true, inl, inr, ◌∙◌}
use Rattle.std.proofs.lemmas.Bool.{cases_lt}
use Rattle.guest_pages.specs.Tables.{cells, mark_at, page_at}
use Rattle.guest_pages.proofs.BitFacts.{chosen_out}
use Rattle.guest_pages.proofs.MapFacts.{page_unmarked, room_same}
use Rattle.guest_pages.proofs.PageFacts.{cells_by_page}
use Rattle.guest_pages.proofs.RangeFacts.{zeros_over}
use Rattle.guest_pages.proofs.placing.hold_rows.Goals as goal

same_page : (c : goal.After-place_rows) → (n : ℕ) → page_at c.mark_pages.new.tables.items n ≡ page_at c.args.tables.now.items n
same_page c n =
    elim (cases_lt n c.args.first) [
      | inl below ↦
          page_unmarked c.args.tables.now.items c.mark_pages.new.tables.items n c.mark_pages.ensures.rooms (c.mark_pages.ensures.pages n)
          (c.mark_pages.ensures.marks n ∙ chosen_out c.args.first c.args.count n true (mark_at c.args.tables.now.items n) (inl below))
      | inr from ↦ elim (cases_lt n (c.args.first + c.args.count)) [
        | inl inside ↦ c.mark_pages.ensures.pages n (c.requires.room n from inside)
        | inr past ↦
            page_unmarked c.args.tables.now.items c.mark_pages.new.tables.items n c.mark_pages.ensures.rooms (c.mark_pages.ensures.pages n)
            (c.mark_pages.ensures.marks n ∙ chosen_out c.args.first c.args.count n true (mark_at c.args.tables.now.items n) (inr past))
      ]
    ]

pub returns-clause-cells : goal.returns-clause-cells
returns-clause-cells c = λ a.
    c.place_rows.ensures.cells a
    ∙ zeros_over (4096 * c.args.first) (4096 * c.args.count) c.args.rights (cells c.mark_pages.new.tables.items) (cells c.args.tables.now.items)
    (λ b. cells_by_page c.mark_pages.new.tables.items c.args.tables.now.items b (same_page c (b / 4096))) a

pub returns-clause-marks : goal.returns-clause-marks
returns-clause-marks c = λ n. c.place_rows.ensures.marks n ∙ c.mark_pages.ensures.marks n

pub place_rows-requires-clause-room : goal.place_rows-requires-clause-room
place_rows-requires-clause-room c = λ n low high.
    room_same c.args.tables.now.items c.mark_pages.new.tables.items n c.mark_pages.ensures.rooms (c.requires.room n low high)
