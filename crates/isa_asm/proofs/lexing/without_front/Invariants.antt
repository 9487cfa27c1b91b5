use Rattle.std.proofs.Common.{◌≡◌, drop}
use Rattle.isa_asm.specs.Lexing.{without_front}
use Rattle.isa_asm.proofs.lexing.without_front.Given as goal

abbrev pub invariant-loop-place : goal.invariant-loop-place
invariant-loop-place l = without_front (drop l.place l.text) ≡ without_front l.text
