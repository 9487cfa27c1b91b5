use Rattle.std.proofs.Common.{◌-◌, ◌/◌, ◌%◌, List, ℕ, sym, ap, ◌∙◌, arith}
use Rattle.guest_pages.specs.Bits.{bit_of}
use Rattle.guest_pages.proofs.FindingFacts.{mark_here}
use Rattle.guest_pages.proofs.finding.piece_below.Goals as goal

pub returns-clause-alike : goal.returns-clause-alike
returns-clause-alike c = λ n low high.
    let size = c.run_below.ensures.size in
    sym (c.requires.marked n)
    ∙ (mark_here c.args.tables.now n ((c.args.page - 1) / 8192) (omega arith)
    ∙ (ap (λ (l : List ℕ). bit_of l (n % 8192)) (sym c.marks_of.ensures)
    ∙ c.run_below.ensures.alike (n % 8192) (omega arith) (omega arith)))
