use Rattle.std.proofs.Common.{rules, arith, ◌≡◌, ◌≢◌, false, ◌==◌, pos, to_z, of_z, w64}
use Rattle.std.proofs.lemmas.Grind.{common_steps}
use Rattle.std.specs.Ordering.{int_eq}
use Rattle.isa_decode.specs.Fields.{bits}
use Rattle.isa_compressed.specs.Immediates.{upper_immediate}
use Rattle.isa_compressed.specs.Expansion.{in_quadrant}
use Rattle.isa_compressed.proofs.expansion.load_upper.Goals as goal

pub returns-in_default-clause-listing : goal.returns-in_default-clause-listing
unfolding in_quadrant
returns-in_default-clause-listing c =
    let value : to_z w64 (of_z w64 c.upper_immediate.result) ≡ c.upper_immediate.result = search rules in
    let other : (bits c.args.half 11 7 == 2) ≡ false = grind (arith, common_steps) in
    let nonzero : upper_immediate c.args.half ≢ pos 0 = grind (arith, common_steps) in
    let passes : int_eq (upper_immediate c.args.half) (pos 0) ≡ false = grind (arith, common_steps) in
    rw value (rw c.rd.ensures.value (rw c.upper_immediate.ensures.value (simp (c.requires.quadrant, c.requires.row, other, passes))))
