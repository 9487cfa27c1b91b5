use Rattle.std.proofs.Common.{◌≡◌, ℕ, ◌+◌, ◌-◌, get_or, take, drop, sym, ap, ◌∙◌, arith}
use Rattle.guest_pages.specs.Faults.{writable}
use Rattle.host_calls.specs.Pieces.{Stored, put_in, scattered}
use Rattle.host_calls.proofs.PieceFacts.{good_first, good_on, no_piece, scatter_end, scatter_step}
use Rattle.host_calls.proofs.pieces.scatter.Goals as goal

pub pieces-preserved : goal.pieces-preserved
pieces-preserved c =
    let pieces = c.args.pieces.now in
    let bytes = c.args.bytes.now in
    let low = c.pieces-test.true in
    record {
      low = omega arith;
      within = omega (arith, c.min-size.ensures, c.pieces.invariant.within);
      good = good_on writable c.pieces.pages c.put_piece.new.pages (drop (c.pieces.k + 1) pieces) c.put_piece.ensures.rights
          (good_first writable c.pieces.pages pieces c.pieces.k low c.pieces.invariant.good).1;
      same =
          let old : Stored = record { memory = c.pieces.pages; held = c.pieces.held } in
          let piece = get_or pieces c.pieces.k no_piece in
          let e : c.pieces.done + c.min-size.result - c.pieces.done ≡ c.min-size.result = omega arith in
          ap (λ (stored : Stored). scattered c.args.thread (drop (c.pieces.k + 1) pieces) (drop (c.pieces.done + c.min-size.result) bytes) stored)
          (c.put_piece.ensures.put ∙ ap (λ (n : ℕ). put_in c.args.thread piece.at (take n (drop c.pieces.done bytes)) (record { memory = c.pieces.pages; held = c.pieces.held })) e)
          ∙ (scatter_step c.args.thread pieces c.pieces.k bytes c.pieces.done c.min-size.result (record { memory = c.pieces.pages; held = c.pieces.held }) low c.pieces.invariant.within c.min-size.ensures
          ∙ c.pieces.invariant.same);
    }

pub returns : goal.returns
returns c =
    sym (scatter_end c.args.thread c.args.pieces.now c.pieces.k (drop c.pieces.done c.args.bytes.now) (record { memory = c.pieces.pages; held = c.pieces.held }) c.pieces-test.false)
    ∙ c.pieces.invariant.same
