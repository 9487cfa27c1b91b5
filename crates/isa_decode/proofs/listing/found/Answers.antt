use Rattle.std.proofs.Common.{◌≡◌, ℕ, false, ◌==◌, arith}
use Rattle.std.proofs.lemmas.Grind.{common_steps}
use Rattle.std.specs.List.{list_any}
use Rattle.isa_decode.specs.Fields.{bits}
use Rattle.isa_decode.proofs.OpcodeFacts.{opcodes, none_of_opcode}
use Rattle.isa_decode.proofs.listing.found.Goals as goal

pub returns-in_default-clause-none : goal.returns-in_default-clause-none
returns-in_default-clause-none c =
    let none : list_any (λ (o : ℕ). bits c.args.word 6 0 == o) opcodes ≡ false = grind (arith, common_steps) in
    none_of_opcode c.args.word none
