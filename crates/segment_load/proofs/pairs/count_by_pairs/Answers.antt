use Rattle.std.proofs.Common.{◌≡◌, ◌-◌, ◌^◌, ℕ, map, drop, length, min, ap, sym, arith}
use Rattle.std.proofs.lemmas.List.{length-map}
use Rattle.elf_file.specs.Views.{segment_image}
use Rattle.segment_load.specs.Wanted.{pages_of}
use Rattle.segment_load.proofs.CountFacts.{pages_none}
use Rattle.segment_load.proofs.CountFacts.{nothing_left}
use Rattle.segment_load.proofs.pairs.count_by_pairs.Goals as goal

pub segments-init : goal.segments-init
segments-init c =
    let all = map segment_image c.args.segments.now in
    let none : pages_of (drop (length c.args.segments.now) all) ≡ 0 = pages_none (drop (length c.args.segments.now) all) (nothing_left all (length c.args.segments.now) (simp length-map (omega arith))) in
    record {
      few = omega arith;
      wanted = sym (ap (λ (n : ℕ). min n (2 ^ 64 - 1)) none);
    }
