use Rattle.std.proofs.Common.{◌≡◌, ◌≤◌, ◌+◌, false, length, drop}
use Rattle.std.specs.Option.{option_map}
use Rattle.isa_asm.specs.Statement.{quoted_bytes}
use Rattle.isa_asm.proofs.directives.quoted_length.Given as goal

abbrev pub invariant-loop-place : goal.invariant-loop-place
invariant-loop-place l = record {
  few : l.count ≤ l.place;
  rest : option_map (λ bytes. l.count + length bytes) (quoted_bytes l.escaped (drop l.place l.quoted)) ≡ option_map length (quoted_bytes false l.quoted);
}
