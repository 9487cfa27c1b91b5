use Rattle.std.proofs.Common.{◌≡◌, ◌+◌, ◌-◌, ◌^◌, ℕ, map, drop, length, min, ap, sym, arith, ◌∙◌}
use Rattle.std.proofs.lemmas.List.{length-map}
use Rattle.elf_file.specs.Views.{segment_image}
use Rattle.segment_load.specs.Wanted.{pages_of}
use Rattle.segment_load.proofs.CountFacts.{apart_next, image_before, nothing_left, pages_next, pages_none}
use Rattle.segment_load.proofs.PagedFacts.{has_nothing}
use Rattle.segment_load.proofs.counting.count_by_seen.Goals as goal

pub segments-init : goal.segments-init
segments-init c =
    let all = map segment_image c.args.segments.now in
    let left = nothing_left all (length c.args.segments.now) (simp length-map (omega arith)) in
    let none : pages_of (drop (length c.args.segments.now) all) ≡ 0 = pages_none (drop (length c.args.segments.now) all) left in
    record {
      few = omega arith;
      wanted = sym (ap (λ (n : ℕ). min n (2 ^ 64 - 1)) none);
      seen = rw left (has_nothing c.new-seen.result c.new-seen.ensures);
    }

pub segments-preserved : goal.segments-preserved
segments-preserved c =
    let all = map segment_image c.args.segments.now in
    let next = image_before c.args.segments.now c.segments.left c.index-segments-left.result (omega arith) c.segments.invariant.few c.index-segments-left.is in
    let apart = apart_next all (c.segments.left - 1) (segment_image c.index-segments-left.result) (drop c.segments.left all) next c.requires.apart in
    let counted = c.in_ok-own.ensures (drop c.segments.left all) apart c.segments.invariant.seen in
    let sum : pages_of (drop (c.segments.left - 1) (map segment_image c.args.segments.now)) ≡ c.in_ok-own.own + pages_of (drop c.segments.left (map segment_image c.args.segments.now)) =
    pages_next (drop (c.segments.left - 1) all) (drop c.segments.left all) (segment_image c.index-segments-left.result) next
    ∙ ap (λ (n : ℕ). n + pages_of (drop c.segments.left all)) (sym counted.own) in
    record {
      few = omega (arith, c.segments.invariant.few);
      wanted = omega (arith, sum, c.segments.invariant.wanted);
      seen = rw next counted.seen;
    }
