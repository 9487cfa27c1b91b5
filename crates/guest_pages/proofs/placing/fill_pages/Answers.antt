use Rattle.std.proofs.Common.{◌≡◌, ◌≤◌, ◌<◌, ◌+◌, ◌*◌, ℕ, if◌then◌else◌, true, sym, subst}
use Rattle.guest_pages.specs.Mapping.{HasMark, with_zeros}
use Rattle.guest_pages.specs.Ranges.{within}
use Rattle.guest_pages.specs.Tables.{cells, mark_at, rows_of}
use Rattle.guest_pages.proofs.RangeFacts.{zeros_empty, marked_empty}
use Rattle.guest_pages.proofs.placing.fill_pages.Goals as goal

pub returns-in-None-clause-cells : goal.returns-in-None-clause-cells
returns-in-None-clause-cells c = λ a.
    subst (λ tables. ((n : ℕ) → c.args.first ≤ n → n < c.args.first + c.args.count → HasMark (rows_of tables) n) → cells (rows_of tables) a ≡ with_zeros (4096 * c.args.first) (4096 * c.args.count) c.args.rights (cells (rows_of tables)) a)
    (sym c.in-None.is) (λ words. zeros_empty c.args.first c.args.count c.args.rights a words) c.requires.words

pub returns-in-None-clause-marks : goal.returns-in-None-clause-marks
returns-in-None-clause-marks c = λ n.
    subst (λ tables. ((m : ℕ) → c.args.first ≤ m → m < c.args.first + c.args.count → HasMark (rows_of tables) m) → mark_at (rows_of tables) n ≡ (if within c.args.first c.args.count n then true else mark_at (rows_of tables) n))
    (sym c.in-None.is) (λ words. marked_empty c.args.first c.args.count n words) c.requires.words
