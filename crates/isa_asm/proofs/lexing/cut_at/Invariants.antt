use Rattle.std.proofs.Common.{◌≡◌, ◌++◌, take, drop}
use Rattle.std.specs.Option.{option_map}
use Rattle.isa_asm.specs.Lexing.{halves}
use Rattle.isa_asm.proofs.lexing.cut_at.Given as goal

abbrev pub invariant-loop-place : goal.invariant-loop-place
invariant-loop-place l =
    option_map (λ found. record { before = take l.place l.text ++ found.before; behind = found.behind }) (halves l.at (drop l.place l.text))
    ≡ halves l.at l.text
