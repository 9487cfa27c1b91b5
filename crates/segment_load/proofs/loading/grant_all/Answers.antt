use Rattle.std.proofs.Common.{map, drop, length, arith, subst, ◌-◌, ◌≡◌, ℕ}
use Rattle.std.proofs.lemmas.List.{length-map}
use Rattle.elf_file.specs.Views.{segment_image}
use Rattle.segment_load.specs.Loading.{is_touched, page_rights}
use Rattle.segment_load.specs.Steps.{HasPages, zeros}
use Rattle.segment_load.proofs.CountFacts.{apart_next, image_before, nothing_left}
use Rattle.segment_load.proofs.FullFacts.{granted_few, touched_in}
use Rattle.segment_load.proofs.StoredFacts.{are_within}
use Rattle.segment_load.proofs.GrantFacts.{has_no_segment}
use Rattle.segment_load.proofs.loading.grant_all.Goals as goal

pub segments-init : goal.segments-init
segments-init c =
    let all = map segment_image c.args.segments.now in
    let none = nothing_left all (length c.args.segments.now) (simp length-map (omega arith)) in
    record {
      few = omega arith;
      granted = rw none (has_no_segment (is_touched all) c.args.memory.now c.requires.bare);
    }

pub segments-preserved : goal.segments-preserved
segments-preserved c =
    let all = map segment_image c.args.segments.now in
    let next = image_before c.args.segments.now c.segments.left c.index-segments-left.result (omega arith) c.segments.invariant.few c.index-segments-left.is in
    let apart = apart_next all (c.segments.left - 1) (segment_image c.index-segments-left.result) (drop c.segments.left all) next c.requires.apart in
    record {
      few = omega (arith, c.segments.invariant.few);
      granted = rw next (c.in-Ok.ensures.made (is_touched all) (drop c.segments.left all) apart c.segments.invariant.granted);
    }

pub returns : goal.returns
returns c =
    let all = map segment_image c.args.segments.now in
    let none : c.segments.left ≡ 0 = omega arith in
    subst (λ (n : ℕ). HasPages (is_touched all) (page_rights (drop n all)) zeros c.segments.memory) none c.segments.invariant.granted

pub want_of-requires : goal.want_of-requires
want_of-requires c =
    let all = map segment_image c.args.segments.now in
    let next = image_before c.args.segments.now c.segments.left c.index-segments-left.result (omega arith) c.segments.invariant.few c.index-segments-left.is in
    let s = segment_image c.index-segments-left.result in
    let rest = drop c.segments.left all in
    let apart = apart_next all (c.segments.left - 1) s rest next c.requires.apart in
    let full = c.in-Err.ensures.refused (is_touched all) rest apart c.segments.invariant.granted
    (λ page there. touched_in all (c.segments.left - 1) s rest page next there) in
    granted_few c.in-Err.fault (is_touched all) all (c.segments.left - 1) s rest (are_within c.args.segments.now) next c.requires.few full
