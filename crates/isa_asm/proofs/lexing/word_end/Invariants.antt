use Rattle.std.proofs.Common.{◌≡◌, ◌++◌, take, drop}
use Rattle.isa_asm.specs.Lexing.{before_blank, from_blank}
use Rattle.isa_asm.proofs.lexing.word_end.Given as goal

abbrev pub invariant-loop-place : goal.invariant-loop-place
invariant-loop-place l = record {
  before : take l.place l.text ++ before_blank (drop l.place l.text) ≡ before_blank l.text;
  behind : from_blank (drop l.place l.text) ≡ from_blank l.text;
}
