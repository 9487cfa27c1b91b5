use Rattle.std.proofs.Common.{map, drop, length, arith, subst, ◌≡◌, ℕ}
use Rattle.std.proofs.lemmas.List.{length-map}
use Rattle.elf_file.specs.Views.{segment_image}
use Rattle.segment_load.specs.Loading.{is_touched}
use Rattle.segment_load.specs.Steps.{HasPages, no_rights, zeros}
use Rattle.segment_load.proofs.CountFacts.{image_before, nothing_left}
use Rattle.segment_load.proofs.PagedFacts.{has_nothing}
use Rattle.segment_load.proofs.loading.map_all.Goals as goal

pub segments-init : goal.segments-init
segments-init c =
    let all = map segment_image c.args.segments.now in
    let none = nothing_left all (length c.args.segments.now) (simp length-map (omega arith)) in
    record {
      few = omega arith;
      mapped = rw none (has_nothing c.args.memory.now c.requires);
    }

pub segments-preserved : goal.segments-preserved
segments-preserved c =
    let all = map segment_image c.args.segments.now in
    let next = image_before c.args.segments.now c.segments.left c.index-segments-left.result (omega arith) c.segments.invariant.few c.index-segments-left.is in
    record {
      few = omega (arith, c.segments.invariant.few);
      mapped = rw next (c.in-Ok.ensures.made (is_touched (drop c.segments.left all)) c.segments.invariant.mapped);
    }

pub returns : goal.returns
returns c =
    let all = map segment_image c.args.segments.now in
    let none : c.segments.left ≡ 0 = omega arith in
    subst (λ (n : ℕ). HasPages (is_touched (drop n all)) no_rights zeros c.segments.memory) none c.segments.invariant.mapped

pub want_of-requires : goal.want_of-requires
want_of-requires c =
    let all = map segment_image c.args.segments.now in
    c.in-Err.ensures.refused (is_touched (drop c.segments.left all)) c.segments.invariant.mapped
