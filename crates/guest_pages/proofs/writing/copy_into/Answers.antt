use Rattle.std.proofs.Common.{◌≡◌, ◌≤◌, ◌<◌, ◌+◌, ◌-◌, ◌^◌, ℕ, [], take, drop, length, true, refl, sym, ap, ◌∙◌, arith, length-take}
use Rattle.guest_pages.specs.Tables.{cells, rows_of}
use Rattle.guest_pages.specs.Writes.{with_bytes}
use Rattle.guest_pages.proofs.ByteFacts.{good_range}
use Rattle.guest_pages.proofs.WriteFacts.{with_bytes_more, with_bytes_none, still_good}
use Rattle.guest_pages.proofs.writing.copy_into.Goals as goal

pub loop-done-init : goal.loop-done-init
loop-done-init c = record { within = omega arith; marks = λ n. refl; size = refl; copied = λ a. sym (with_bytes_none c.args.at (cells (rows_of c.args.tables.now)) [] a refl) }

pub overflow_add-place : goal.overflow_add-place
overflow_add-place c =
    let below : c.args.at + c.loop-done.done < 2 ^ 38 =
    good_range c.args.needed (rows_of c.args.tables.now) c.args.at (length c.args.bytes.now) c.loop-done.done c.requires.small c.requires.allowed (omega arith) in
    omega arith

pub loop-done-preserved : goal.loop-done-preserved
loop-done-preserved c =
    let full : length (take c.loop-done.done c.args.bytes.now) ≡ c.loop-done.done = simp length-take (omega arith) in
    let room : c.loop-done.done + c.min-count.result ≤ length c.args.bytes.now = omega arith in
    let yes : c.write_at.result ≡ true = c.write_at.ensures.answer ∙ still_good c.args.needed (rows_of c.args.tables.now) (rows_of c.loop-done.tables) c.args.at c.loop-done.done (length c.args.bytes.now) (take c.loop-done.done c.args.bytes.now) c.requires.needed c.requires.small c.requires.allowed (omega arith) full c.loop-done.invariant.copied in
    let k : c.loop-done.done + c.min-count.result - c.loop-done.done ≡ c.min-count.result = omega arith in
    record {
      within = room;
      marks = λ n. c.write_at.ensures.marks n ∙ c.loop-done.invariant.marks n;
      size = c.write_at.ensures.size ∙ c.loop-done.invariant.size;
      copied = λ a.
          c.write_at.ensures.done yes a
          ∙ (ap (λ (n : ℕ). with_bytes (c.args.at + c.loop-done.done) (take n (drop c.loop-done.done c.args.bytes.now)) (cells (rows_of c.loop-done.tables)) a) k
          ∙ with_bytes_more (cells (rows_of c.args.tables.now)) (cells (rows_of c.loop-done.tables)) c.args.at c.loop-done.done c.min-count.result c.args.bytes.now a room c.loop-done.invariant.copied);
    }
