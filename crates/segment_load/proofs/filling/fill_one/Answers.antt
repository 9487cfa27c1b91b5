use Rattle.std.proofs.Common.{List, ℕ, ◌+◌, ◌-◌, ◌≡◌, arith, subst, take}
use Rattle.segment_load.specs.Steps.{HasPages, over}
use Rattle.segment_load.proofs.FillFacts.{has_all, has_no_piece, has_piece}
use Rattle.segment_load.proofs.filling.fill_one.Goals as goal

pub pages-init : goal.pages-init
pages-init c = record {
  few = omega arith;
  filled = λ m r b has. has_no_piece c.args.segment.now.at c.as_slice-bytes.result.now m r b c.args.memory.now has;
}

pub pages-preserved : goal.pages-preserved
pages-preserved c =
    let at = c.args.segment.now.at in
    let bytes = c.as_slice-bytes.result.now in
    let done = c.pages.done in
    let size = c.piece-size.result in
    let one : c.pages.done + c.piece-size.result - c.pages.done ≡ c.piece-size.result = omega arith in
    record {
      few = omega arith;
      filled = λ m r b has.
          has_piece at done size bytes m r b c.fill_page.new.memory (omega arith)
          (rw one at (c.in-Ok.ensures.made m r (over at (take done bytes) b) (c.pages.invariant.filled m r b has)));
    }

pub returns-clause-made : goal.returns-clause-made
returns-clause-made c = λ m r b has.
    subst (λ (bytes : List ℕ). HasPages m r (over c.args.segment.now.at bytes b) c.pages.memory) c.as_slice-bytes.ensures
    (has_all c.args.segment.now.at c.pages.done c.as_slice-bytes.result.now m r b c.pages.memory (omega arith) (c.pages.invariant.filled m r b has))

pub returns-in-Err-clause-refused : goal.returns-in-Err-clause-refused
returns-in-Err-clause-refused c = λ m r b has.
    c.in-Err.ensures.refused m r (over c.args.segment.now.at (take c.pages.done c.as_slice-bytes.result.now) b) (c.pages.invariant.filled m r b has)
