use Rattle.std.proofs.Common.{map, drop, length, arith, subst, ◌≡◌, ℕ}
use Rattle.std.proofs.lemmas.List.{length-map}
use Rattle.elf_file.specs.Views.{segment_image}
use Rattle.segment_load.specs.Loading.{byte_at, is_touched, page_rights}
use Rattle.segment_load.specs.Steps.{HasPages}
use Rattle.segment_load.proofs.CountFacts.{image_before, nothing_left}
use Rattle.segment_load.proofs.FullFacts.{filled_few}
use Rattle.segment_load.proofs.StoredFacts.{are_within}
use Rattle.segment_load.proofs.FillFacts.{has_no_bytes, has_segment_bytes}
use Rattle.segment_load.proofs.loading.fill_all.Goals as goal

pub segments-init : goal.segments-init
segments-init c =
    let all = map segment_image c.args.segments.now in
    let none = nothing_left all (length c.args.segments.now) (simp length-map (omega arith)) in
    record {
      few = omega arith;
      filled = rw none (has_no_bytes (is_touched all) (page_rights all) c.args.memory.now c.requires.granted);
    }

pub segments-preserved : goal.segments-preserved
segments-preserved c =
    let all = map segment_image c.args.segments.now in
    let next = image_before c.args.segments.now c.segments.left c.index-segments-left.result (omega arith) c.segments.invariant.few c.index-segments-left.is in
    record {
      few = omega (arith, c.segments.invariant.few);
      filled = rw next (has_segment_bytes (segment_image c.index-segments-left.result) (drop c.segments.left all) (is_touched all) (page_rights all) c.fill_one.new.memory
          (c.in-Ok.ensures.made (is_touched all) (page_rights all) (byte_at (drop c.segments.left all)) c.segments.invariant.filled));
    }

pub returns : goal.returns
returns c =
    let all = map segment_image c.args.segments.now in
    let none : c.segments.left ≡ 0 = omega arith in
    subst (λ (n : ℕ). HasPages (is_touched all) (page_rights all) (byte_at (drop n all)) c.segments.memory) none c.segments.invariant.filled

pub want_of-requires : goal.want_of-requires
want_of-requires c =
    let all = map segment_image c.args.segments.now in
    filled_few c.in-Err.fault (is_touched all) all (are_within c.args.segments.now) c.requires.few
    (c.in-Err.ensures.refused (is_touched all) (page_rights all) (byte_at (drop c.segments.left all)) c.segments.invariant.filled)
