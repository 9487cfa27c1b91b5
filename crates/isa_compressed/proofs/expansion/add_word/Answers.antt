use Rattle.std.proofs.Common.{rules, arith, ◌≡◌, false, ◌==◌, to_z, of_z, w64}
use Rattle.std.proofs.lemmas.Grind.{common_steps}
use Rattle.isa_decode.specs.Fields.{bits}
use Rattle.isa_compressed.specs.Expansion.{in_quadrant}
use Rattle.isa_compressed.proofs.expansion.add_word.Goals as goal

pub returns-in_default-clause-listing : goal.returns-in_default-clause-listing
unfolding in_quadrant
returns-in_default-clause-listing c =
    let value : to_z w64 (of_z w64 c.small_immediate.result) ≡ c.small_immediate.result = search rules in
    let other : (bits c.args.half 11 7 == 0) ≡ false = grind (arith, common_steps) in
    rw value (rw c.rd.ensures.value (rw c.small_immediate.ensures.value (simp (c.requires.quadrant, c.requires.row, other))))
