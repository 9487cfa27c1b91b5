use Rattle.std.proofs.Common.{◌+◌, List, ℕ, ◌++◌, get_or, drop, sym, ap, ◌∙◌, append-nil, append_assoc, arith}
use Rattle.guest_pages.specs.Faults.{readable}
use Rattle.guest_pages.specs.Operations.{bytes_at}
use Rattle.guest_pages.proofs.ByteFacts.{length_bytes_at}
use Rattle.host_calls.specs.Pieces.{gathered}
use Rattle.host_calls.proofs.PieceFacts.{gather_end, gather_step, good_first, long_by, no_piece, total_step}
use Rattle.host_calls.proofs.pieces.gather.Goals as goal

pub pieces-preserved : goal.pieces-preserved
pieces-preserved c =
    let memory = c.args.pages.now in
    let pieces = c.args.pieces.now in
    let low = c.pieces-test.true in
    let piece = get_or pieces c.pieces.k no_piece in
    let size = total_step pieces c.pieces.k low in
    let long = long_by c.add_piece.new.bytes.items c.pieces.bytes.items (bytes_at memory piece.at piece.size) piece.size c.in-Ok.ensures (length_bytes_at memory piece.at piece.size) in
    record {
      low = omega arith;
      good = (good_first readable memory pieces c.pieces.k low c.pieces.invariant.good).1;
      few = omega (arith, long, size, c.pieces.invariant.few);
      same =
          ap (λ (l : List ℕ). l ++ gathered memory (drop (c.pieces.k + 1) pieces)) c.in-Ok.ensures
          ∙ (append_assoc c.pieces.bytes.items (bytes_at memory piece.at piece.size) (gathered memory (drop (c.pieces.k + 1) pieces))
          ∙ (ap (λ (l : List ℕ). c.pieces.bytes.items ++ l) (sym (gather_step memory pieces c.pieces.k low))
          ∙ c.pieces.invariant.same));
    }

pub returns-clause-few : goal.returns-clause-few
returns-clause-few c = omega (arith, c.pieces.invariant.few, c.requires.few)

pub returns-clause-same : goal.returns-clause-same
returns-clause-same c =
    sym (append-nil c.pieces.bytes.items)
    ∙ (ap (λ (l : List ℕ). c.pieces.bytes.items ++ l) (sym (gather_end c.args.pages.now c.args.pieces.now c.pieces.k c.pieces-test.false))
    ∙ c.pieces.invariant.same)
