use Rattle.std.proofs.Common.{◌≡◌, ◌<◌, ◌+◌, ◌-◌, ◌^◌, ℕ, List, ◌++◌, take, drop, length, refl, sym, ap, ◌∙◌, arith, length-append, length-take, length-drop}
use Rattle.std.proofs.lemmas.Slice.{take-put_mid}
use Rattle.guest_pages.specs.Operations.{bytes_at}
use Rattle.guest_pages.specs.Tables.{held}
use Rattle.guest_pages.proofs.ByteFacts.{bytes_split, length_bytes_at, good_range, good_part}
use Rattle.guest_pages.proofs.copying.copy_from.Goals as goal

pub loop-done-init : goal.loop-done-init
unfolding bytes_at
loop-done-init c = record { within = omega arith; size = refl; copied = refl }

pub overflow_add-place : goal.overflow_add-place
overflow_add-place c =
    let below : c.args.at + c.loop-done.done < 2 ^ 38 =
    good_range c.args.needed c.args.tables.now c.args.at _ c.loop-done.done c.requires.small c.requires.allowed (omega arith) in
    omega arith

pub copy_piece-requires-clause-allowed : goal.copy_piece-requires-clause-allowed
copy_piece-requires-clause-allowed c =
    let part : length (take (c.loop-done.done + c.min-count.result - c.loop-done.done) (drop c.loop-done.done c.loop-done.into)) ≡ c.min-count.result =
    simp (length-take, length-drop) (omega arith) in
    rw part (good_part c.args.needed (held c.args.tables.now) c.args.at c.loop-done.done c.min-count.result (length c.args.into.now) c.requires.allowed (omega arith))

pub loop-done-preserved : goal.loop-done-preserved
loop-done-preserved c =
    let part : length (take (c.loop-done.done + c.min-count.result - c.loop-done.done) (drop c.loop-done.done c.loop-done.into)) ≡ c.min-count.result =
    simp (length-take, length-drop) (omega arith) in
    let piece : c.copy_piece.new.into ≡ bytes_at (held c.args.tables.now) (c.args.at + c.loop-done.done) c.min-count.result =
    c.copy_piece.ensures ∙ ap (bytes_at (held c.args.tables.now) (c.args.at + c.loop-done.done)) part in
    let size : length c.copy_piece.new.into ≡ c.min-count.result = ap length piece ∙ length_bytes_at (held c.args.tables.now) (c.args.at + c.loop-done.done) c.min-count.result in
    record {
      within = omega arith;
      size = simp (length-append, length-take, length-drop) (omega arith);
      copied =
          take-put_mid c.loop-done.done (c.loop-done.done + c.min-count.result - c.loop-done.done) c.loop-done.into c.copy_piece.new.into _ (omega arith) (omega arith)
          ∙ (ap (λ (l : List ℕ). l ++ c.copy_piece.new.into) c.loop-done.invariant.copied
          ∙ (ap (λ (l : List ℕ). bytes_at (held c.args.tables.now) c.args.at c.loop-done.done ++ l) piece
          ∙ sym (bytes_split (held c.args.tables.now) c.args.at c.loop-done.done c.min-count.result)));
    }
